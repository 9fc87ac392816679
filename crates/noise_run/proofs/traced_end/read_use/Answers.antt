use Rattle.std.proofs.Common.{◌∙◌, sym, ap, refl}
use Rattle.noise_run.proofs.Common.{note_of}
use Rattle.noise_run.proofs.KeyUseLemmas.{default-shown, dropped-shown, refused-shown, took-shown}
use Rattle.noise_run.proofs.traced_end.read_use.Goals as goal

pub returns-in-Payload-clause-frame : goal.returns-in-Payload-clause-frame
returns-in-Payload-clause-frame c = λ s next text step r follows is reported.
    took-shown c.args.end.now c.took.new.self c.took.result c.args.message.now text c.in-Payload.field-0.items is c.took.ensures.handshake
    c.took.ensures.transport s next step r follows (sym (ap note_of c.in-Payload.is) ∙ reported)

pub returns-in-Dropped-clause-frame : goal.returns-in-Dropped-clause-frame
returns-in-Dropped-clause-frame c = λ s next text step r follows is reported.
    dropped-shown c.args.end.now (c.end_is_followed.ensures.ended c.args.end.now) (c.end_is_followed.ensures.partial c.args.end.now) c.tried.result text
    c.in-Dropped.field-0 c.tried.ensures.opened s next step r follows (sym (ap note_of c.in-Dropped.is) ∙ reported)

pub returns-in-Refused-clause-frame : goal.returns-in-Refused-clause-frame
returns-in-Refused-clause-frame c = λ s next text step r follows is reported.
    refused-shown c.args.end.now (c.end_is_followed.ensures.ended c.args.end.now) (c.end_is_followed.ensures.partial c.args.end.now) c.refused_use.result
    c.args.message.now text c.in-Refused.token c.in-Refused.cause is c.refused_use.ensures s next step r follows (sym (ap note_of c.in-Refused.is) ∙ reported)

pub returns-in_default : goal.returns-in_default
returns-in_default c = record {
  frame = λ s next text step r follows is reported.
      default-shown c.args.end.now (c.end_is_followed.ensures.ended c.args.end.now) (c.end_is_followed.ensures.partial c.args.end.now) c.args.entry.now
      c.in_default.not-Payload c.in_default.not-Dropped c.in_default.not-Refused text s next step r follows reported;
  none = λ no_frame. (refl, refl);
}
