use Rattle.noise_explain.proofs.PositionLemmas.{piece-more}
use Rattle.noise_explain.proofs.column.piece_column.Goals as goal

pub loop-after-preserved : goal.loop-after-preserved
loop-after-preserved c = piece-more c.args.list.now c.loop-after.left.now c.in-Some.after.now c.loop-after.invariant c.in-Some.ensures.some
