use Rattle.std.proofs.Common.{length}
use Rattle.noise_explain.proofs.PositionLemmas.{IsLeftOf}
use Rattle.noise_explain.proofs.column.piece_column.Given as goal

abbrev pub invariant-loop-after : goal.invariant-loop-after
invariant-loop-after l = IsLeftOf l.list l.left

abbrev pub decreases-loop-after : goal.decreases-loop-after
decreases-loop-after l = length l.left
