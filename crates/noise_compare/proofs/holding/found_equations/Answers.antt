use Rattle.std.proofs.Common.{arith}
use Rattle.std.proofs.lemmas.Grind.{common_steps}
use Rattle.noise_compare.proofs.holding.found_equations.Goals as goal

pub loop-equation-preserved : goal.loop-equation-preserved
loop-equation-preserved c = grind (arith, common_steps)
