use Rattle.noise_session.proofs.SentOnce.{sends-once}
use Rattle.noise_session.proofs.laws.sent_once.Goals as goal

pub returns : goal.returns
returns c v x y payload =
    sends-once c.written_once.ensures.message c.written_once.ensures.token c.written_once.ensures.apart v payload x y
