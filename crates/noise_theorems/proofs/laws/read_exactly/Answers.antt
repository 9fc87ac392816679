use Rattle.noise_theorems.proofs.Exactly.{read-exactly}
use Rattle.noise_theorems.proofs.laws.read_exactly.Goals as goal

pub returns : goal.returns
returns c = read-exactly c.accepted_once.ensures c.refused_once.ensures.one c.refused_once.ensures.apart
