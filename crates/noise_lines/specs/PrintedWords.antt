-- Words of a line of output, which a file may expect.
use Rattle.std.specs.Prelude.{ℕ, ◌&&◌, Bool, false, nat_le, List, [], ◌∷◌, Vec}
use Rattle.std.specs.Global.{Global}
use Rattle.std.specs.List.{All, list_all}
use Rattle.noise_vectors.specs.VectorFile.{IsExpected}

-- a space (32) to a tilde (126)
abbrev pub is_printed_byte : ℕ → Bool
is_printed_byte b = nat_le 32 b && nat_le b 126

-- at least one byte, and each one is printed
abbrev pub is_printed : List ℕ → Bool
is_printed [] = false
is_printed (b ∷ bs) = list_all is_printed_byte (b ∷ bs)

-- each of these lines is one that a file may expect
abbrev pub AreExpected : List (Vec ℕ Global) → Type 0
AreExpected lines = All (λ words. IsExpected words.items) lines
