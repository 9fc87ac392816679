use Rattle.noise_handshake.proofs.Counterparts.{starts-counterparts}
use Rattle.noise_handshake.proofs.laws.starts_are_counterparts.Goals as goal

pub returns : goal.returns
returns c = starts-counterparts
