use Rattle.noise_handshake.proofs.Widths.{start-keyed, next-keyed, line-overhead}
use Rattle.noise_handshake.proofs.laws.overhead_added.Goals as goal

pub returns-clause-first : goal.returns-clause-first
returns-clause-first c name prologue p initiator responder h = start-keyed name prologue p initiator responder h.initiator h.responder

pub returns-clause-next : goal.returns-clause-next
returns-clause-next c = next-keyed

pub returns-clause-len : goal.returns-clause-len
returns-clause-len c = line-overhead
