-- A version 1 file as one of version 2.
use Rattle.std.specs.Prelude.{ℕ, List, [], codes}
use Rattle.noise_vectors.specs.VectorText.{expect_line, line_then, lines_of, text_body}
use Rattle.noise_vectors.specs.declared.vector.VectorFile.{VectorFile}

-- the text of a version 1 file, as one of version 2 that expects these lines
abbrev pub converted_text : VectorFile → List (List ℕ) → List ℕ
converted_text file lines = line_then (codes "vector 2") (text_body file (lines_of expect_line lines []))
