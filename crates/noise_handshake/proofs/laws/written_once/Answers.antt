use Rattle.noise_handshake.proofs.Giving.{writes-one, lacks-one, writes-or}
use Rattle.noise_handshake.proofs.laws.written_once.Goals as goal

pub returns-clause-message : goal.returns-clause-message
returns-clause-message c = writes-one

pub returns-clause-token : goal.returns-clause-token
returns-clause-token c = lacks-one

pub returns-clause-apart : goal.returns-clause-apart
returns-clause-apart c = writes-or
