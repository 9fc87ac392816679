use Rattle.noise_session.proofs.Common.{transport_of}
use Rattle.noise_session.proofs.datagrams.Datagrams.with_window.Goals as goal

pub returns : goal.returns
returns c v h = c.after.ensures.matches (transport_of v 0) (c.new.ensures.matches v h)
