-- Where lines differ from those that are expected.
use Rattle.std.specs.Prelude.{◌≡◌, ◌≢◌, ℕ, ◌+◌, ◌<◌, List, slice_get}

-- Line n, counted from 1, is the first at which the two lists differ, or one has ended.
pub record IsFirstUnmet (lines expected : List (List ℕ)) (n : ℕ) : Type 0 where
  pub before : ℕ  -- so many lines are as expected
  pub counted : n ≡ before + 1
  pub same : (i : ℕ) → i < before → slice_get lines i ≡ slice_get expected i
  pub differ : slice_get lines before ≢ slice_get expected before
