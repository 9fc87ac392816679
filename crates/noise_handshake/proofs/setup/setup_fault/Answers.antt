use Rattle.std.proofs.Common.{rules}
use Rattle.noise_handshake.proofs.Starting.{few-psks}
use Rattle.noise_handshake.proofs.setup.setup_fault.Goals as goal

pub returns-then-psks-total-clause-few : goal.returns-then-psks-total-clause-few
returns-then-psks-total-clause-few g c _ = search (rules, few-psks)
