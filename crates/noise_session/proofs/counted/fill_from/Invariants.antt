use Rattle.std.proofs.Common.{◌≡◌, ◌-◌, ◌≤◌, length, take}
use Rattle.noise_session.proofs.Common.{Consumes}
use Rattle.noise_session.specs.Counting.{inner_of, failures_of}
use Rattle.noise_session.proofs.counted.fill_from.Given as goal

abbrev pub invariant-loop-at : goal.invariant-loop-at
invariant-loop-at g l = (length l.buffer ≡ length l.initial.buffer) × (l.at ≤ length l.buffer)
    × Consumes (g.R.Read.remaining (inner_of l.initial.from)) (g.R.Read.remaining (inner_of l.from)) (take l.at l.buffer)
    × (failures_of l.from ≡ failures_of l.initial.from)

abbrev pub decreases-loop-at : goal.decreases-loop-at
decreases-loop-at g l = length l.buffer - l.at
