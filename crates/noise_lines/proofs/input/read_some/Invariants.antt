use Rattle.noise_lines.proofs.Common.{Keeps}
use Rattle.noise_lines.proofs.input.read_some.Given as goal

abbrev pub invariant-loop : goal.invariant-loop
invariant-loop g l = Keeps (g.R.Read.remaining l.fn.file) (g.R.Read.remaining l.file)
