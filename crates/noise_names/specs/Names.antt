-- Protocol names and their faults (Noise, 8; modifiers, 8.1 and 9.4).
use Rattle.std.specs.Prelude.{◌≡◌, ℕ, ◌+◌, ◌<◌, ◌==◌, Bool, true, false, not, ◌&&◌, ◌||◌, nat_lt, nat_le, List, [], ◌∷◌, ◌++◌, length, map, take, drop, codes}
use Rattle.std.specs.Prelude.{take_while, slice_index, bytes_eq, IsTrue, IsFalse}
use Rattle.std.specs.List.{list_all, join_with_byte, starts_with, slice_split}
use Rattle.std.specs.Bool.{nat_eq}
use Rattle.noise_names.specs.declared.faults.NameFault.{NameFault}
use Rattle.noise_names.specs.declared.faults.NameFault.TheVariants.{Length, Prefix, Base, Modifier, ModifierOrder, Algorithm}

-- a pattern section: a base and the numbers of its psk modifiers (8.1)
pub record Section : Type 0 where
  pub base : List ℕ
  pub places : List ℕ

abbrev pub is_digit : ℕ → Bool
is_digit b = nat_le 48 b && nat_le b 57

abbrev pub is_upper : ℕ → Bool
is_upper b = nat_le 65 b && nat_le b 90

abbrev pub is_base_byte : ℕ → Bool
is_base_byte b = is_upper b || is_digit b

-- the bytes of a pattern section: those of a base, + (43), and the letters of psk, which lie between k (107) and s
-- (115)
abbrev pub is_section_byte : ℕ → Bool
is_section_byte b = is_base_byte b || (b == 43 || (nat_le 107 b && nat_le b 115))

-- whether these bytes are a base: 1 to 8 upper-case letters and digits, the first a letter (8.1; the limit is this
-- library's)
abbrev pub is_base : List ℕ → Bool
is_base [] = false
is_base (b ∷ bs) = is_upper b && list_all is_base_byte bs && nat_lt (length bs) 8

-- whether the numbers rise strictly
abbrev pub rises : List ℕ → Bool
rises [] = true
rises (n ∷ []) = true
rises (m ∷ n ∷ more) = nat_lt m n && rises (n ∷ more)

-- whether these are psk places: rising numbers up to 8 (9.4)
abbrev pub are_places : List ℕ → Bool
are_places ns = rises ns && list_all (λ n. nat_le n 8) ns

-- the base and the places are those of a name
pub record IsSection (s : Section) : Type 0 where
  pub base : IsTrue (is_base s.base)
  pub places : IsTrue (are_places s.places)

-- psk and a digit (9.4)
abbrev pub modifier : ℕ → List ℕ
modifier n = codes "psk" ++ (48 + n) ∷ []

-- the base, the first modifier, and each further one after a + (8.1)
abbrev pub section_bytes : List ℕ → List ℕ → List ℕ
section_bytes base places = base ++ join_with_byte 43 (map modifier places)

-- what every name begins with (8)
abbrev pub prefix : List ℕ
prefix = codes "Noise_"

-- what every name of this library ends with (8)
abbrev pub suffix : List ℕ
suffix = codes "_25519_ChaChaPoly_SHA256"

-- the protocol name (8)
abbrev pub name_bytes : Section → List ℕ
name_bytes s = prefix ++ section_bytes s.base s.places ++ suffix

-- the bytes are the name
pub record Names (bytes : List ℕ) (s : Section) : Type 0 where
  pub is_section : IsSection s
  pub spelled : bytes ≡ name_bytes s

-- the pattern section of a name, which ends at the next _ after the prefix
abbrev pub section_part : List ℕ → List ℕ
section_part bytes = take_while (λ b. not (b == 95)) (drop 6 bytes)

-- the longest front of a section that has only upper-case letters and digits, and what follows it
abbrev pub base_front : List ℕ → List ℕ
base_front section = take_while is_base_byte section

abbrev pub after_base : List ℕ → List ℕ
after_base section = drop (length (base_front section)) section

abbrev pub base_part : List ℕ → List ℕ
base_part bytes = base_front (section_part bytes)

abbrev pub modifiers_part : List ℕ → List ℕ
modifiers_part bytes = after_base (section_part bytes)

-- the pieces of that between the +, none where it is empty
abbrev pub pieces_of : List ℕ → List (List ℕ)
pieces_of [] = []
pieces_of (b ∷ bs) = slice_split (λ c. c == 43) (b ∷ bs)

-- the byte after psk
abbrev pub digit_of : List ℕ → ℕ
digit_of piece = slice_index piece 3

-- whether a piece is a modifier
abbrev pub is_modifier : List ℕ → Bool
is_modifier piece =
    starts_with nat_eq piece (codes "psk") && (length piece == 4)
    && nat_le 48 (digit_of piece) && nat_le (digit_of piece) 56

-- what is after the pattern section
abbrev pub algorithm_part : List ℕ → List ℕ
algorithm_part bytes = drop (6 + length (section_part bytes)) bytes

-- when a name has each fault, whatever others it has
abbrev pub has_fault : List ℕ → NameFault → Bool
has_fault bytes Length = nat_lt 255 (length bytes)
has_fault bytes Prefix = not (bytes_eq (take 6 bytes) prefix)
has_fault bytes Base = not (is_base (base_part bytes))
has_fault bytes Modifier = not (list_all is_modifier (pieces_of (modifiers_part bytes)))
has_fault bytes ModifierOrder = not (rises (map digit_of (pieces_of (modifiers_part bytes))))
has_fault bytes Algorithm = not (bytes_eq (algorithm_part bytes) suffix)

-- the order in which faults are looked for
abbrev pub number_of : NameFault → ℕ
number_of Length = 1
number_of Prefix = 2
number_of Base = 3
number_of Modifier = 4
number_of ModifierOrder = 5
number_of Algorithm = 6

-- the name has this fault and none of a lower number
pub record IsFirstNameFault (bytes : List ℕ) (fault : NameFault) : Type 0 where
  pub holds : IsTrue (has_fault bytes fault)
  pub lowest : (lower : NameFault) → number_of lower < number_of fault → IsFalse (has_fault bytes lower)
