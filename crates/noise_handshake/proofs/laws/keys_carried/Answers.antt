use Rattle.noise_handshake.proofs.Carried.{written-carry, accepted-carry, written-length}
use Rattle.noise_handshake.proofs.laws.keys_carried.Goals as goal

pub returns-clause-written : goal.returns-clause-written
returns-clause-written c = written-carry

pub returns-clause-accepted : goal.returns-clause-accepted
returns-clause-accepted c = accepted-carry

pub returns-clause-len : goal.returns-clause-len
returns-clause-len c = written-length
