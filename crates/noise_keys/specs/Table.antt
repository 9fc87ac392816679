-- Keys whose DH results are in a table.
use Rattle.std.specs.Prelude.{ℕ, Bool, true, false, ◌&&◌, List, Option, find, nat_eq}
use Rattle.std.specs.Option.{option_map}
use Rattle.std.specs.Cmp.Lexicographic.{pointwise}
use Rattle.noise_keys.specs.declared.keys.Own.{Own}
use Rattle.noise_keys.specs.declared.keys.Own.TheVariants.{Ephemeral, Static}

-- the DH result of a key pair to a remote public key
pub record TableEntry : Type 0 where
  pub own : Own
  pub remote : List ℕ
  pub answer : List ℕ

-- the public keys, and the entries in the order in which they were added
pub record Table : Type 0 where
  pub e : Option (List ℕ)
  pub s : Option (List ℕ)
  pub entries : List TableEntry

abbrev pub same_own : Own → Own → Bool
same_own Ephemeral Ephemeral = true
same_own Ephemeral Static = false
same_own Static Ephemeral = false
same_own Static Static = true

-- whether an entry is for a key pair and a remote public key
abbrev pub is_for : Own → List ℕ → TableEntry → Bool
is_for own remote entry = same_own entry.own own && pointwise nat_eq entry.remote remote

-- the DH result of the first entry for them, if there is one
abbrev pub dh_result_in : List TableEntry → Own → List ℕ → Option (List ℕ)
dh_result_in entries own remote = option_map (λ entry. entry.answer) (find (is_for own remote) entries)
