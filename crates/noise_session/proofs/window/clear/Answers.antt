use Rattle.std.proofs.Common.{rules, length-set}
use Rattle.noise_session.proofs.Clearing.{cleared, untouched, beyond}
use Rattle.noise_session.proofs.window.clear.Goals as goal

pub loop-back-preserved : goal.loop-back-preserved
loop-back-preserved c = search (rules, length-set, cleared, untouched, beyond)
