-- The pieces that a frame is handed over in.
use Rattle.std.specs.Prelude.{ℕ, ◌-◌, ◌<◌, ◌≤◌, List, length, slice_index_or}
use Rattle.std.specs.List.{All}

-- at most 8 numbers below 65536
abbrev pub AreLengths : List ℕ → Type 0
AreLengths ns = (length ns ≤ 8) × All (λ n. n < 65536) ns

-- such numbers, the last of which, if there is one, is not 0
abbrev pub AreCuts : List ℕ → Type 0
AreCuts ns = AreLengths ns × (0 < slice_index_or ns (length ns - 1) 1)
