use Rattle.noise_explain.specs.Positions.{after_line}
use Rattle.noise_explain.proofs.PositionLemmas.{step-made}
use Rattle.noise_explain.proofs.position.from_line.Goals as goal

pub lines-preserved : goal.lines-preserved
lines-preserved c = step-made after_line c.lines.left _ _ _ c.lines-test.true c.after_line-rest.ensures c.lines.invariant
