-- What the sentences on a wrong word of a vector file assert of it.
use Rattle.std.specs.Prelude.{⊤, ◌≡◌, ◌≢◌, ◌⊎◌, ◌||◌, ◌==◌, ℕ, ◌+◌, ◌<◌, ◌≤◌, ◌/◌, ◌%◌, not, List, Some, IsTrue, codes, count_by, length, slice_get, take}
use Rattle.std.specs.Bool.{nat_eq}
use Rattle.std.specs.Char.{is_ascii_digit, is_ascii_hexdigit, is_ascii_uppercase}
use Rattle.std.specs.List.{list_all, list_any, starts_with}
use Rattle.std.specs.Str.Parse.{digits_value}
use Rattle.noise_names.specs.Names.{has_fault}
use Rattle.noise_names.specs.declared.faults.NameFault.{NameFault}
use Rattle.noise_names.specs.declared.faults.NameFault.TheVariants as names
use Rattle.noise_vectors.specs.HexWord.{is_lower_digit}
use Rattle.noise_vectors.specs.declared.faults.LineKind.{LineKind}
use Rattle.noise_explain.specs.VectorColumns.{HasShape, IsWrongWord, first_word, shapes_of, word_from}
use Rattle.noise_explain.specs.declared.shapes.Shape.{Shape}
use Rattle.noise_explain.specs.declared.shapes.Shape.TheVariants as shapes
use Rattle.noise_explain.specs.declared.word_faults.Slip.{Slip}
use Rattle.noise_explain.specs.declared.word_faults.Slip.TheVariants as slips
use Rattle.noise_explain.specs.declared.word_sentences.WordFault.{WordFault}
use Rattle.noise_explain.specs.declared.word_sentences.WordFault.TheVariants as faults

-- whether a shape is one that lines have, by its greatest number
abbrev pub IsListed : Shape → Type 0
IsListed (shapes.Hex most) = (most ≡ 65535) ⊎ (most ≡ 131072)
IsListed (shapes.Number most) = (most ≡ 4294967295) ⊎ (most ≡ 18446744073709551615)
IsListed s = ⊤

-- a line has this word in place of one of this shape
pub record IsWrong (s : Shape) (w : List ℕ) : Type 0 where
  pub some : 0 < length w
  pub wrong : ¬ HasShape s w
  pub listed : IsListed s

-- ---- digits

-- all are hex digits, and an upper-case letter is among them
abbrev pub HasUpper : List ℕ → Type 0
HasUpper w = IsTrue (list_all is_ascii_hexdigit w) × IsTrue (list_any is_ascii_uppercase w)

-- a byte is no hex digit
abbrev pub HasOther : List ℕ → Type 0
HasOther w = IsTrue (list_any (λ b. not (is_ascii_hexdigit b)) w)

-- all are hex digits of lower case
abbrev pub AreLower : List ℕ → Type 0
AreLower w = IsTrue (list_all is_lower_digit w)

-- all are decimal digits
abbrev pub AreDecimal : List ℕ → Type 0
AreDecimal w = IsTrue (list_all is_ascii_digit w)

-- what is wrong with digits, if it isn't their number
abbrev pub IsSlip : Slip → List ℕ → Type 0
IsSlip slips.UpperCase w = HasUpper w
IsSlip slips.Other w = HasOther w
IsSlip slips.Count w = AreLower w

-- ---- sentences

-- A name has this fault. Of its algorithms nothing is asserted: a name may have others, and then end as it has to.
abbrev pub NameAsserts : NameFault → List ℕ → Type 0
NameAsserts names.Algorithm w = ⊤
NameAsserts fault w = IsTrue (has_fault w fault)

-- The first sentence says what a word of this shape is, and what this word has or is.
abbrev pub WordAsserts : WordFault → Shape → List ℕ → Type 0
WordAsserts faults.Version shapes.Version w = ¬ HasShape shapes.Version w
WordAsserts faults.Kind shapes.Kind w = ¬ HasShape shapes.Kind w
WordAsserts faults.Role shapes.Role w = ¬ HasShape shapes.Role w
WordAsserts faults.Own shapes.Own w = ¬ HasShape shapes.Own w
WordAsserts faults.Window shapes.Window w = ¬ HasShape shapes.Window w
WordAsserts faults.Cuts shapes.Cuts w = ¬ HasShape shapes.Cuts w
WordAsserts faults.HexFront (shapes.Hex most) w = IsTrue (starts_with nat_eq w (codes "0x"))
WordAsserts faults.HexCase (shapes.Hex most) w = HasUpper w
WordAsserts faults.HexCharacter (shapes.Hex most) w = HasOther w
WordAsserts faults.HexOdd (shapes.Hex most) w = AreLower w × (length w % 2 ≡ 1)
WordAsserts faults.HexLong (shapes.Hex most) w = (most ≡ 65535) × AreLower w × (65535 < length w / 2)
WordAsserts faults.HexLonger (shapes.Hex most) w = (most ≡ 131072) × AreLower w × (131072 < length w / 2)
WordAsserts faults.KeyHyphen shapes.Key w = w ≡ codes "-"
WordAsserts faults.KeyCase shapes.Key w = HasUpper w
WordAsserts faults.KeyCharacter shapes.Key w = HasOther w
WordAsserts faults.KeyCount shapes.Key w = AreLower w × (length w ≢ 64)
WordAsserts faults.MaybeKeyCase shapes.MaybeKey w = HasUpper w
WordAsserts faults.MaybeKeyCharacter shapes.MaybeKey w = HasOther w
WordAsserts faults.KeyCount shapes.MaybeKey w = AreLower w × (length w ≢ 64)
WordAsserts faults.NumberSign (shapes.Number most) w =
    IsTrue (starts_with nat_eq w (codes "+") || starts_with nat_eq w (codes "-"))
WordAsserts faults.NumberZero (shapes.Number most) w = IsTrue (starts_with nat_eq w (codes "0")) × (1 < length w)
WordAsserts faults.NumberCharacter (shapes.Number most) w = IsTrue (list_any (λ b. not (is_ascii_digit b)) w)
WordAsserts faults.NumberLarge (shapes.Number most) w =
    (most ≡ 4294967295) × AreDecimal w × (4294967296 ≤ digits_value 10 w)
WordAsserts faults.NumberLarger (shapes.Number most) w =
    (most ≡ 18446744073709551615) × AreDecimal w × (18446744073709551616 ≤ digits_value 10 w)
WordAsserts faults.NameRight shapes.Name w = HasShape shapes.Name w
WordAsserts (faults.Name fault) shapes.Name w = NameAsserts fault w
WordAsserts fault s w = ⊥

-- how many spaces (32) are among so many bytes of a line, which is how many words come before
abbrev pub spaces_before : List ℕ → ℕ → ℕ
spaces_before line at = count_by (λ b. b == 32) (take at line)

-- Of a line that has to be of this kind: where its wrong word begins, its shape by the words before, and that what the
-- sentence asserts is so.
pub record IsSaidOf (kind : LineKind) (line : List ℕ) (fault : WordFault) : Type 0 where
  pub at : ℕ
  pub shape : Shape
  pub wrong : IsWrongWord (shapes_of kind (first_word line)) line (at + 1)
  pub place : slice_get (shapes_of kind (first_word line)) (spaces_before line at) ≡ Some shape
  pub asserts : WordAsserts fault shape (word_from line at)
