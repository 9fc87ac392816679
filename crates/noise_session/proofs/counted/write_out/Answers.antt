use Rattle.std.proofs.Common.{rules, subst, arith}
use Rattle.noise_session.proofs.Common.{Appends, nat_tests}
use Rattle.noise_session.proofs.Streaming.{appended, taken_more}
use Rattle.noise_session.proofs.counted.write_out.Goals as goal

pub loop-at-preserved : goal.loop-at-preserved
loop-at-preserved g c = (
  search rules,
  subst (Appends _ _) (taken_more c.loop-at.at c.in-Ok.count c.args.bytes.now) (appended _ _ _ _ _ c.loop-at.invariant.1 c.in-Ok.ensures.bytes),
  grind (arith, nat_tests),
)
