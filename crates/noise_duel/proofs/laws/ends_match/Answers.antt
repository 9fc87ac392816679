use Rattle.noise_duel.proofs.Invariant.{ends-stand}
use Rattle.noise_duel.proofs.OwnFrames.{ends-frame}
use Rattle.noise_duel.proofs.laws.ends_match.Goals as goal

pub returns-clause-state : goal.returns-clause-state
returns-clause-state c = ends-stand

pub returns-clause-frame : goal.returns-clause-frame
returns-clause-frame c = ends-frame
