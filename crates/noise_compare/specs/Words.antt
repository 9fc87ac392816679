-- The forms of a value in a log, and numbers.
use Rattle.std.specs.Prelude.{ℕ, ◌+◌, ◌-◌, ◌*◌, ◌==◌, ◌&&◌, ◌||◌, Bool, false, List, Option, Some, None, codes, fold, if◌then◌else◌, length, nat_le}
use Rattle.std.specs.Str.{bytes_eq}

-- a number with a further decimal digit (48 is `0`), if 8 bytes hold it
unfoldable pub add_digit : Option ℕ → ℕ → Option ℕ
add_digit None digit = None
add_digit (Some n) digit =
    if nat_le 48 digit && nat_le digit 57 && nat_le (n * 10 + (digit - 48)) 0xffff_ffff_ffff_ffff
    then Some (n * 10 + (digit - 48)) else None

abbrev pub word_number : List ℕ → Option ℕ
word_number word = if length word == 0 then None else fold add_digit (Some 0) word

abbrev pub are_same_number : Option ℕ → Option ℕ → Bool
are_same_number (Some right) (Some logged) = right == logged
are_same_number _ _ = false

-- a key of 32 zero bytes where there is no key
unfoldable pub is_zero_for_none : List ℕ → List ℕ → Bool
is_zero_for_none right logged = bytes_eq right (codes "-")
    && bytes_eq logged (codes "0000000000000000000000000000000000000000000000000000000000000000")

-- such a key (word 10), or a number with zeros in front (word 11)
unfoldable pub is_same_in_form : ℕ → List ℕ → List ℕ → Bool
is_same_in_form i right logged = (i == 10 && is_zero_for_none right logged)
    || (i == 11 && are_same_number (word_number right) (word_number logged))
