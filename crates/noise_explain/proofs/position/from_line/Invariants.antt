use Rattle.std.proofs.Common.{◌≡◌, ◌-◌}
use Rattle.noise_explain.specs.Positions.{after_line, repeated}
use Rattle.noise_explain.proofs.position.from_line.Given as goal

abbrev pub invariant-lines : goal.invariant-lines
invariant-lines l = repeated after_line l.left l.rest ≡ repeated after_line (l.number - 1) l.text

abbrev pub decreases-lines : goal.decreases-lines
decreases-lines l = l.left
