use Rattle.noise_session.proofs.Exactly.{accepted-exactly}
use Rattle.noise_session.proofs.laws.accepted_exactly.Goals as goal

pub returns : goal.returns
returns c = accepted-exactly c.judged_once.ensures
