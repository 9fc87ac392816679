-- What `template` prints: of a protocol name, or of the pattern that a file spells.
use Rattle.std.specs.Prelude.{⊤, ◌≡◌, ◌⊎◌, ◌<◌, ◌≤◌, ℕ, List, [], Option, IfSome, MatchBool, length}
use Rattle.noise_names.specs.Plan.{Plan}
use Rattle.noise_names.specs.Text.{Spells}
use Rattle.noise_names.specs.Validity.{IsValid}
use Rattle.noise_lines.specs.Output.{IsCheckFault, IsShowFault, NamesPattern}
use Rattle.noise_lines.specs.declared.faults.Fault.{Fault}
use Rattle.noise_lines.specs.declared.faults.Fault.TheVariants.{TooLong}
use Rattle.noise_explain.specs.Template.{IsTemplateText, names_protocol}

-- The pattern is valid, and this is the text of a right vector file that says what a handshake of it needs. The word is
-- a protocol name of the pattern, or else the file spells it.
abbrev pub IsTemplated : List ℕ → Option (List ℕ) → List ℕ → Type 0
IsTemplated word file text = MatchBool (names_protocol word)
    ((p : Plan) × NamesPattern word p × IsValid p × IsTemplateText [] p text)
    (IfSome file (λ bytes. (p : Plan) × Spells bytes p × IsValid p × IsTemplateText [] p text))

-- why there is no template: the fault of `show` on this name, or else that of `check` on this file
abbrev pub IsTemplateFault : List ℕ → Option (List ℕ) → Fault → Type 0
IsTemplateFault word file fault = MatchBool (names_protocol word) (IsShowFault word fault)
    (IfSome file (λ text. ((fault ≡ TooLong) × (4194304 < length text)) ⊎ IsCheckFault text fault))

-- the file that is read, if one is, has at most 4194304 bytes
abbrev pub ReadsShortPattern : List ℕ → Option (List ℕ) → Type 0
ReadsShortPattern word file = MatchBool (names_protocol word) ⊤ (IfSome file (λ text. length text ≤ 4194304))
