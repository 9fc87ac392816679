-- The lines of a text, as they are read.
use Rattle.std.specs.Prelude.{◌≡◌, ℕ, ◌+◌, IsFalse, IsTrue, List, []}
use Rattle.noise_vectors.specs.VectorText.{line_then}
use Rattle.noise_vectors.specs.Words.{lacks}
use Rattle.noise_names.specs.WrongText.{line_feeds}
use Rattle.noise_vectors.specs.declared.lines.Lines.{Lines}

-- the number of the last line with a line feed: how many lines were read, and how many line feeds are left
abbrev pub last_number : Lines → ℕ
last_number lines = lines.number + line_feeds lines.rest.now

-- The text's next line, and what is left after it. It has a line feed after it, or it is the last and not empty.
pub record IsRead (before : Lines) (words : List ℕ) (after : Lines) : Type 0 where
  pub plain : IsTrue (lacks 10 words)
  pub ended : IsTrue after.is_ended → before.rest.now ≡ line_then words after.rest.now
  pub last : IsFalse after.is_ended → (before.rest.now ≡ words) × ¬ (words ≡ [])
  pub number : after.number ≡ before.number + 1
