-- Bytes as a word: two lower-case hex digits for each byte, and a hyphen for none.
use Rattle.std.specs.Prelude.{◌≡◌, ℕ, ◌<◌, ◌%◌, length, List, [], ◌∷◌, codes, Bool, ◌&&◌, ◌||◌, nat_le}
use Rattle.std.specs.List.{All, AllPass}
use Rattle.hex.specs.Hex.{encode_lower}

-- the word of these bytes
abbrev pub hex_of : List ℕ → List ℕ
hex_of [] = codes "-"
hex_of (b ∷ rest) = encode_lower (b ∷ rest)

-- some bytes have this word
abbrev pub IsHexWord : List ℕ → Type 0
IsHexWord word = (bytes : List ℕ) × All (λ b. b < 256) bytes × (word ≡ hex_of bytes)

-- `0` to `9` are 48 to 57, and `a` to `f` are 97 to 102
abbrev pub is_lower_digit : ℕ → Bool
is_lower_digit c = (nat_le 48 c && nat_le c 57) || (nat_le 97 c && nat_le c 102)

-- two lower-case digits for each of one byte or more
abbrev pub IsDigits : List ℕ → Type 0
IsDigits word = (0 < length word) × (length word % 2 ≡ 0) × AllPass is_lower_digit word
