use Rattle.noise_session.proofs.DatagramLaws.{sealed-opened}
use Rattle.noise_session.proofs.laws.sealed_is_opened.Goals as goal

pub returns : goal.returns
returns c = sealed-opened
