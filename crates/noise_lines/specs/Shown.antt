-- What is shown of a file's name.
use Rattle.std.specs.Prelude.{ℕ, List, [], ◌∷◌, flat_map, if◌then◌else◌}
use Rattle.noise_lines.specs.PrintedWords.{is_printed_byte}
use Rattle.noise_vectors.specs.HexWord.{hex_of}

-- a byte that is printed as it is, and any other as \x (92 and 120) and two hex digits
abbrev pub shown_byte : ℕ → List ℕ
shown_byte b = if is_printed_byte b then b ∷ [] else (92 ∷ 120 ∷ hex_of (b ∷ []))

abbrev pub shown_text : List ℕ → List ℕ
shown_text bytes = flat_map shown_byte bytes
