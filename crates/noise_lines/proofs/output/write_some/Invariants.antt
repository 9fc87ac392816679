use Rattle.noise_lines.proofs.Common.{Keeps}
use Rattle.noise_lines.proofs.output.write_some.Given as goal

-- nothing is written
abbrev pub invariant-loop : goal.invariant-loop
invariant-loop g l = Keeps (g.O.Write.contents l.fn.out) (g.O.Write.contents l.out)
