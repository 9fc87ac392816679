use Rattle.std.proofs.Common.{◌∙◌, sym, ap}
use Rattle.noise_run.proofs.Common.{note_of}
use Rattle.noise_run.proofs.KeyUseLemmas.{neither-written, wrote-shown}
use Rattle.noise_run.proofs.traced_end.written_use.Goals as goal

pub returns-in-Wrote : goal.returns-in-Wrote
returns-in-Wrote c = λ s payload next note w follows reported is.
    wrote-shown c.args.end.now c.wrote.new.self c.wrote.result c.args.message.now c.in-Wrote.field-0 c.wrote.ensures.handshake c.wrote.ensures.transport
    s payload next note w follows (sym (ap note_of c.in-Wrote.is) ∙ reported) is

pub returns-in-WriteFault : goal.returns-in-WriteFault
returns-in-WriteFault c = λ s payload next note w follows reported is.
    c.unsent_use.ensures s payload next note w follows (sym (ap note_of c.in-WriteFault.is) ∙ reported)

pub returns-in_default : goal.returns-in_default
returns-in_default c = λ s payload next note w follows reported is.
    absurd (neither-written c.args.entry.now c.in_default.not-Wrote c.in_default.not-WriteFault s payload next note w reported)
