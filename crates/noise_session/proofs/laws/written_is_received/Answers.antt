use Rattle.noise_session.proofs.Counterparts.{written-received}
use Rattle.noise_session.proofs.laws.written_is_received.Goals as goal

pub returns : goal.returns
returns c = written-received c.written_is_accepted.ensures.accepts c.written_is_accepted.ensures.next
