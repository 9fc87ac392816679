-- A file of more than 4194304 bytes is refused.
use Rattle.std.proofs.Common.{◌≤◌, ℕ, List, length, Some}
use Rattle.std.specs.Prelude.{⊤, Bool, true, false, string_bytes}
use Rattle.noise_tool.proofs.Common.{MatchBool, ReadsShort}
use Rattle.noise_explain.specs.Template.{names_protocol}
use Rattle.noise_words.specs.declared.orders.Chosen.{Chosen}
use Rattle.noise_words.specs.declared.orders.Chosen.TheVariants as order

either : (b : Bool) (A : Type 0) → A → MatchBool b ⊤ A
either true A a = tt
either false A a = a

-- what was read is short
pub short-read : (chosen : Chosen) (text : List ℕ) → length text ≤ 4194304 → ReadsShort chosen (Some text)
short-read order.List text h = tt
short-read (order.Show name) text h = tt
short-read (order.Template word) text h = either (names_protocol (string_bytes word)) _ h
short-read _ text h = h
