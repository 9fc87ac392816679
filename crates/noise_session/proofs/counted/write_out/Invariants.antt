use Rattle.std.proofs.Common.{◌≡◌, ◌-◌, ◌≤◌, length, take}
use Rattle.noise_session.proofs.Common.{Appends}
use Rattle.noise_session.specs.Counting.{inner_of, failures_of}
use Rattle.noise_session.proofs.counted.write_out.Given as goal

abbrev pub invariant-loop-at : goal.invariant-loop-at
invariant-loop-at g l = (l.at ≤ length l.bytes)
    × Appends (g.W.Write.contents (inner_of l.initial.out)) (g.W.Write.contents (inner_of l.out)) (take l.at l.bytes)
    × (failures_of l.out ≡ failures_of l.initial.out)

abbrev pub decreases-loop-at : goal.decreases-loop-at
decreases-loop-at g l = length l.bytes - l.at
