use Rattle.noise_session.proofs.Cutting.{takes-joined}
use Rattle.noise_session.proofs.laws.cuts_alike.Goals as goal

pub returns : goal.returns
returns c v x y a b n s = takes-joined v x y a b n s
