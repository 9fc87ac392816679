use Rattle.std.proofs.Common.{◌∙◌, ◌∷◌, sym, ap}
use Rattle.noise_run.proofs.Common.{note_of, notes_of, Note, traces_of}
use Rattle.noise_run.proofs.EventLemmas.{no-entries, note-number, say-fault, say-frame, say-none}
use Rattle.noise_run.proofs.traced_event.trace_say.Goals as goal

pub returns-in_default : goal.returns-in_default
returns-in_default c = λ payload d next notes h traced frames reported.
    absurd (say-none c.args.selection d next c.args.role payload notes h (no-entries c.args.entries.now c.in_default.ensures.cases ∙ reported))

pub returns-in-Wrote : goal.returns-in-Wrote
returns-in-Wrote c = λ payload d next notes h traced frames reported.
    let first = c.in-Some.first.now in
    let noted = ap note_of c.in-Wrote.is in
    say-frame c.args.selection d next c.args.role first.0 payload notes (notes_of c.in-Some.later.now) h c.in-Wrote.number c.frame_numbered-frame.result.now
    (traces_of c.args.traces.now.items) (traces_of c.trace_write.new.traces.items) (traces_of c.trace_bytes.new.traces.items)
    c.args.ends.now c.trace_write.new.ends c.trace_bytes.new.ends c.other.result c.trace_bytes.result traced
    (ap (λ (n : Note). (first.0, n) ∷ notes_of c.in-Some.later.now) (sym noted) ∙ sym (ap notes_of c.in-Some.ensures.cases.0) ∙ reported)
    (c.frame_numbered-frame.ensures next frames) c.other.ensures
    (λ after text note w tr same is. c.in_ok-trace_write.ensures d next after text note w tr frames same (noted ∙ is))
    (λ e reader heard x tr all. c.trace_bytes.ensures e reader heard x tr all)

pub returns-in_default-1₀ : goal.returns-in_default-1₀
returns-in_default-1₀ c = λ payload d next notes h traced frames reported.
    let first = c.in-Some.first.now in
    say-fault c.args.selection d next c.args.role first.0 payload notes (notes_of c.in-Some.later.now) h (note_of first.1)
    (traces_of c.args.traces.now.items) (traces_of c.trace_write.new.traces.items) c.args.ends.now c.trace_write.new.ends traced
    (sym (ap notes_of c.in-Some.ensures.cases.0) ∙ reported) (note-number first.1 c.in_default-1₀.not-Wrote)
    (λ after text note w tr same is. c.in_ok-trace_write.ensures d next after text note w tr frames same is)
