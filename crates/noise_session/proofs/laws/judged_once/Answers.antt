use Rattle.noise_session.proofs.Once.{judged-once}
use Rattle.noise_session.proofs.laws.judged_once.Goals as goal

pub returns : goal.returns
returns c = judged-once c.accepted_once.ensures c.refused_once.ensures.one c.refused_once.ensures.apart c.transport_message_same.ensures
