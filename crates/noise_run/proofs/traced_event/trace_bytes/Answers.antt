use Rattle.noise_run.proofs.Common.{Initiator, Responder}
use Rattle.noise_run.proofs.RoleLemmas.{received}
use Rattle.noise_run.proofs.traced_event.trace_bytes.Goals as goal

pub returns-in-Initiator : goal.returns-in-Initiator
returns-in-Initiator c =
    rw c.in-Initiator.is (received c.args.selection c.args.ends.now c.receive.new.self Initiator c.args.bytes.now c.receive.ensures.role
    c.args.entries.now c.args.traces.now.items c.receive.new.traces.items c.receive.result c.receive.ensures.lines)

pub returns-in-Responder : goal.returns-in-Responder
returns-in-Responder c =
    let step = c.receive-in-Responder in
    rw c.in-Responder.is (received c.args.selection c.args.ends.now step.new.self Responder c.args.bytes.now step.ensures.role
    c.args.entries.now c.args.traces.now.items step.new.traces.items step.result step.ensures.lines)
