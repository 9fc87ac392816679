use Rattle.noise_session.proofs.DatagramLaws.{once}
use Rattle.noise_session.proofs.laws.opened_once.Goals as goal

pub returns : goal.returns
returns c = once
