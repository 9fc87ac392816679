use Rattle.std.proofs.Common.{rules, subst}
use Rattle.noise_session.proofs.Common.{Consumes}
use Rattle.noise_session.proofs.Streaming.{consumed, filled_more}
use Rattle.noise_session.proofs.counted.fill_from.Goals as goal

pub loop-at-preserved : goal.loop-at-preserved
loop-at-preserved g c = (
  search rules,
  search rules,
  subst (Consumes _ _) (filled_more c.loop-at.at c.in-Ok.count c.loop-at.buffer c.read.new.buf c.loop-at.invariant.1 c.in-Ok.ensures.bound.0)
      (consumed _ _ _ _ _ c.loop-at.invariant.2 c.in-Ok.ensures.bytes.0),
  search rules,
)
