use Rattle.noise_session.proofs.Ringing.{below-reported}
use Rattle.noise_session.proofs.window.Ring.is_old.Goals as goal

pub returns : goal.returns
returns c = rw (c.width.ensures, c.saturating_sub.ensures) (below-reported c.args.self.now c.args.nonce)
