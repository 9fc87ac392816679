use Rattle.std.proofs.Common.{◌≡◌, length}
use Rattle.noise_names.proofs.Common.{has_dots}
use Rattle.noise_names.proofs.text.fault.has_dots.Given as goal

abbrev pub invariant-loop-rest : goal.invariant-loop-rest
invariant-loop-rest l = has_dots l.text ≡ has_dots l.rest

abbrev pub decreases-loop-rest : goal.decreases-loop-rest
decreases-loop-rest l = length l.rest
