use Rattle.noise_run.proofs.Common.{note_of, Initiator, Responder}
use Rattle.noise_run.proofs.RoleLemmas.{wrote}
use Rattle.noise_run.proofs.traced_event.write_at.Goals as goal

pub returns-in-Initiator : goal.returns-in-Initiator
returns-in-Initiator c =
    rw c.in-Initiator.is (wrote c.args.selection c.args.ends.now c.write.new.self Initiator c.args.frame.now c.write.ensures.role
    (note_of c.args.entry.now) c.write.result c.write.ensures.lines)

pub returns-in-Responder : goal.returns-in-Responder
returns-in-Responder c =
    let step = c.write-in-Responder in
    rw c.in-Responder.is (wrote c.args.selection c.args.ends.now step.new.self Responder c.args.frame.now step.ensures.role
    (note_of c.args.entry.now) step.result step.ensures.lines)
