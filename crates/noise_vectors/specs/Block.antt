-- The lines of a pattern that a file spells itself.
use Rattle.std.specs.Prelude.{◌≡◌, ℕ, List, codes, IsTrue}
use Rattle.noise_vectors.specs.Words.{lacks}

-- a line as it is
abbrev pub itself : List ℕ → List ℕ
itself words = words

-- a line that isn't the block's last one
abbrev pub IsInner : List ℕ → Type 0
IsInner words = IsTrue (lacks 10 words) × ¬ (words ≡ codes "end")
