use Rattle.std.proofs.Common.{length}
use Rattle.noise_names.proofs.Judging.{AreRight}
use Rattle.noise_names.proofs.text.fault.fault_of_lines.Given as goal

abbrev pub invariant-loop-rest : goal.invariant-loop-rest
invariant-loop-rest l = AreRight l.places l.lines l.rest l.number l.judged

abbrev pub decreases-loop-rest : goal.decreases-loop-rest
decreases-loop-rest l = length l.rest
