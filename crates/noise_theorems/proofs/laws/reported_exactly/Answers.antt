use Rattle.noise_theorems.proofs.Exactly.{reported-exactly}
use Rattle.noise_theorems.proofs.laws.reported_exactly.Goals as goal

pub returns : goal.returns
returns c = reported-exactly c.judged_once.ensures c.accepted_exactly.ensures
