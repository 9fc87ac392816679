use Rattle.noise_handshake.proofs.Counterparts.{known-shown, dh-result-whole}
use Rattle.noise_handshake.proofs.laws.shown_is_known.Goals as goal

pub returns-clause-known : goal.returns-clause-known
returns-clause-known c = known-shown

pub returns-clause-dh_result : goal.returns-clause-dh_result
returns-clause-dh_result c = dh-result-whole
