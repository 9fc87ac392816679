use Rattle.noise_duel.proofs.RunOnce.{run-once}
use Rattle.noise_duel.proofs.laws.run_once.Goals as goal

pub returns : goal.returns
returns c = run-once c.laws_below.ensures
