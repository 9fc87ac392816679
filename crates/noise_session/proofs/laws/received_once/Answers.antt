use Rattle.noise_session.proofs.Once.{takes-once}
use Rattle.noise_session.proofs.laws.received_once.Goals as goal

pub returns : goal.returns
returns c = takes-once c.judged_once.ensures
