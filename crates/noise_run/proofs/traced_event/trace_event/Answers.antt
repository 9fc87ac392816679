use Rattle.std.proofs.Common.{◌≡◌, ◌++◌, ◌∷◌, ◌∙◌, [], List, ℕ, OnOk, ap, slice_get, subst, sym, Vec}
use Rattle.noise_run.proofs.Common.{Global, bytes_of, note_of, notes_of, Sides, side, Deliver, Raw, Say, Write, event_of, traces_of, EndsTraced}
use Rattle.noise_run.proofs.EventLemmas.{Traces, event-same, frames-written, no-entries, none-first, of-deliver, of-missing, of-raw, of-write}
use Rattle.noise_run.proofs.ReceivedLemmas.{first-note, traces-push}
use Rattle.noise_run.proofs.RunningLemmas.{on_ok}
use Rattle.noise_run.proofs.traced_event.trace_event.Goals as goal

pub returns-in-Some : goal.returns-in-Some
returns-in-Some c = λ d next notes h traced frames reported.
    let selection = c.args.selection in
    let role = c.in-Write.role in
    let bytes = c.in-Write.field-1.items in
    let old = traces_of c.args.traces.now.items in
    let new = traces_of c.trace_write.new.traces.items in
    let first = c.in-Some.first.now in
    event-same selection d next notes (event_of c.args.event.now) (Write role bytes) (ap event_of c.in-Write.is)
    (λ x. OnOk c.trace_write.result ((new ≡ old ++ x) × EndsTraced c.trace_write.new.ends next))
    (λ w. let s = of-write selection d next role bytes notes w in
    on_ok c.trace_write.result _ _ (λ done. (
      done.0 ∙ ap (λ (x : Traces). old ++ x) (sym s.traces_are),
      subst (λ (z : Sides). EndsTraced c.trace_write.new.ends z) (sym s.next_is) done.1,
    )) (c.trace_write.ensures d next s.after bytes s.note s.w traced frames
    (ap (λ (z : Sides). (side z role).frames) s.next_is ∙ frames-written d role s.after)
    (first-note first.0 role (note_of first.1) s.note _ [] (sym (ap notes_of c.in-Some.ensures.cases.0) ∙ reported ∙ s.notes_are)).0)) h

pub returns-in-None : goal.returns-in-None
returns-in-None c = λ d next notes h traced frames reported.
    let selection = c.args.selection in
    let role = c.in-Write.role in
    let bytes = c.in-Write.field-1.items in
    let old = traces_of c.args.traces.now.items in
    event-same selection d next notes (event_of c.args.event.now) (Write role bytes) (ap event_of c.in-Write.is)
    (λ x. (old ≡ old ++ x) × EndsTraced c.args.ends.now next)
    (λ w. let s = of-write selection d next role bytes notes w in
    absurd (none-first role s.note [] (no-entries c.args.entries.now c.in-None.ensures.cases ∙ reported ∙ s.notes_are))) h

pub returns-in-Say : goal.returns-in-Say
returns-in-Say c = λ d next notes h traced frames reported.
    let old = traces_of c.args.traces.now.items in
    let new = traces_of c.trace_say.new.traces.items in
    event-same c.args.selection d next notes (event_of c.args.event.now) (Say c.in-Say.role c.in-Say.field-1.items) (ap event_of c.in-Say.is)
    (λ x. OnOk c.trace_say.result ((new ≡ old ++ x) × EndsTraced c.trace_say.new.ends next))
    (λ w. c.trace_say.ensures c.in-Say.field-1.items d next notes w traced frames reported) h

pub returns-in-Some-delivered : goal.returns-in-Some-delivered
returns-in-Some-delivered c = λ d next notes h traced frames reported.
    let selection = c.args.selection in
    let role = c.in-Deliver.role in
    let old = traces_of c.args.traces.now.items in
    let new = traces_of c.trace_bytes.new.traces.items in
    event-same selection d next notes (event_of c.args.event.now) (Deliver role c.in-Deliver.number) (ap event_of c.in-Deliver.is)
    (λ x. OnOk c.trace_bytes.result ((new ≡ old ++ x) × EndsTraced c.trace_bytes.new.ends next))
    (λ w. let s = of-deliver selection d next role c.in-Deliver.number notes w c.in-Some-delivered.frame.now
    (ap (λ z. slice_get (side next z).frames c.in-Deliver.number) (sym c.other.ensures) ∙ c.in-Some-delivered.ensures next frames) in
    on_ok c.trace_bytes.result _ _ (λ done. (
      done.0 ∙ ap (λ (x : Traces). old ++ x) (sym s.traces_are),
      subst (λ (z : Sides). EndsTraced c.trace_bytes.new.ends z) (sym s.next_is) done.1,
    )) (c.trace_bytes.ensures d s.reader s.heard s.x traced (reported ∙ s.notes_are))) h

pub returns-in_ok-push-in-None-delivered : goal.returns-in_ok-push-in-None-delivered
returns-in_ok-push-in-None-delivered c = λ d next notes h traced frames reported.
    let selection = c.args.selection in
    let role = c.in-Deliver.role in
    let old = traces_of c.args.traces.now.items in
    event-same selection d next notes (event_of c.args.event.now) (Deliver role c.in-Deliver.number) (ap event_of c.in-Deliver.is)
    (λ x. (traces_of c.push.new.self.items ≡ old ++ x) × EndsTraced c.args.ends.now next)
    (λ w. let s = of-missing selection d next role c.in-Deliver.number notes w
    (ap (λ z. slice_get (side next z).frames c.in-Deliver.number) (sym c.other.ensures) ∙ c.in-None-delivered.ensures next frames) in (
      ap traces_of c.in_ok-push-in-None-delivered.ensures.items ∙ traces-push c.args.traces.now.items c.new.result
          ∙ ap (λ (v : List (Vec ℕ Global)). old ++ bytes_of v ∷ []) c.new.ensures.items
          ∙ ap (λ (x : Traces). old ++ x) (sym s.1),
      subst (λ (z : Sides). EndsTraced c.args.ends.now z) (sym s.0) traced,
    )) h

pub returns-in-Raw : goal.returns-in-Raw
returns-in-Raw c = λ d next notes h traced frames reported.
    let selection = c.args.selection in
    let role = c.in-Raw.role in
    let bytes = c.deref.result.now in
    let old = traces_of c.args.traces.now.items in
    let new = traces_of c.trace_bytes-in-Raw.new.traces.items in
    event-same selection d next notes (event_of c.args.event.now) (Raw role bytes) (ap event_of c.in-Raw.is ∙ ap (λ (z : List ℕ). Raw role z) (sym c.deref.ensures.value))
    (λ x. OnOk c.trace_bytes-in-Raw.result ((new ≡ old ++ x) × EndsTraced c.trace_bytes-in-Raw.new.ends next))
    (λ w. let s = of-raw selection d next role bytes notes w in
    on_ok c.trace_bytes-in-Raw.result _ _ (λ done. (
      done.0 ∙ ap (λ (x : Traces). old ++ x) (sym s.traces_are),
      subst (λ (z : Sides). EndsTraced c.trace_bytes-in-Raw.new.ends z) (sym s.next_is) done.1,
    )) (c.trace_bytes-in-Raw.ensures d s.reader s.heard s.x traced (reported ∙ s.notes_are))) h
