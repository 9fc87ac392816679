-- Lines of output.
use Rattle.std.specs.Prelude.{ℕ, List, flat_map}
use Rattle.std.specs.List.{join_with_byte}
use Rattle.noise_names.specs.Text.{line}
use Rattle.noise_lines.specs.declared.line.Line.{Line}

-- a line of words with a space (32) between each two
abbrev pub line_of : List (List ℕ) → List ℕ
line_of words = join_with_byte 32 words

-- the text of lines, each with an LF after it
abbrev pub lines_text : List (List ℕ) → List ℕ
lines_text lines = flat_map line lines

-- the text of a line that is made, without an LF
abbrev pub text_in : Line → List ℕ
text_in l = l.text.items
