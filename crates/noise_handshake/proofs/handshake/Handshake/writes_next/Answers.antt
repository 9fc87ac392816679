use Rattle.std.proofs.Common.{rules}
use Rattle.noise_handshake.proofs.Turns.{initiator-writes, responder-writes}
use Rattle.noise_handshake.proofs.handshake.Handshake.writes_next.Goals as goal

pub returns-in-Initiator : goal.returns-in-Initiator
returns-in-Initiator g c = search (rules, initiator-writes)

pub returns-in-Responder : goal.returns-in-Responder
returns-in-Responder g c = search (rules, responder-writes)
