use Rattle.std.proofs.Common.{refl}
use Rattle.noise_names.specs.Roles.{other-other}
use Rattle.noise_session.proofs.laws.message_is_due.Goals as goal

pub returns : goal.returns
returns c v w payload f = rw (f.state, f.interval, f.received, f.role, other-other v.role) refl
