use Rattle.noise_handshake.proofs.Setting.{own-there, remote-exactly, counted}
use Rattle.noise_handshake.proofs.laws.setup_is_whole.Goals as goal

pub returns-clause-own : goal.returns-clause-own
returns-clause-own c = own-there

pub returns-clause-remote : goal.returns-clause-remote
returns-clause-remote c = remote-exactly

pub returns-clause-psks : goal.returns-clause-psks
returns-clause-psks c = counted
