use Rattle.std.proofs.Common.{◌≡◌, ◌+◌, ◌≤◌, ◌∷◌, ◌∙◌, arith, length, drop, ap, sym}
use Rattle.noise_run.proofs.Common.{drop_all, drop_more, event_of, events_of, traces_of}
use Rattle.noise_run.proofs.TracedRunLemmas.{all-traced, new-notes, none-traced, one-traced}
use Rattle.noise_run.proofs.tracing.run_traced.Goals as goal

pub loop-event-init : goal.loop-event-init
loop-event-init c = λ d st new tr none.
    none-traced c.args.selection d (events_of c.args.events.now) c.args.duel c.new-report.result c.args.ends.now (traces_of c.args.traces.now.items) st new tr
    none c.new-report.ensures.initiator c.new-report.ensures.responder c.new-report.ensures.entries

pub loop-event-preserved : goal.loop-event-preserved
loop-event-preserved c = λ d st new tr none.
    let h = c.loop-event.invariant d st new tr none in
    let e = c.in_ok-apply.ensures h.now h.matches h.frames in
    let events = c.args.events.now in
    let i = c.loop-event.event-index in
    let count : c.len-from.result ≡ length c.loop-event.report.entries.items =
    omega (arith, c.len-from.ensures, c.loop-event.report.entries.ok.0) in
    let noted = new-notes c.loop-event.report.entries.items c.apply.new.report.entries.items c.entries_from-entries.result.now e.notes c.len-from.result
    count c.entries_from-entries.ensures e.entries in
    one-traced c.args.selection d (events_of events) (events_of (drop i events)) (events_of (drop (i + 1) events)) (event_of c.event-item.result)
    c.loop-event.duel c.apply.new.self c.loop-event.report c.apply.new.report c.loop-event.ends c.trace_event.new.ends
    (traces_of c.loop-event.traces.items) (traces_of c.trace_event.new.traces.items)
    (ap events_of (drop_more events i c.event-item.result c.loop-event-test.true ∙ ap (λ x. x ∷ drop (i + 1) events) (sym c.event-item.is)))
    h e (c.in_ok-trace_event.ensures h.now e.next e.notes e.happens h.traced e.frames noted)

pub returns : goal.returns
returns c = λ d st new tr none.
    let events = c.args.events.now in
    let i = c.loop-event.event-index in
    let past : length events ≤ i = omega arith in
    all-traced c.args.selection d (events_of events) (events_of (drop i events)) c.loop-event.duel c.loop-event.report c.loop-event.ends
    (traces_of c.loop-event.traces.items) (ap events_of (drop_all i events past)) (c.loop-event.invariant d st new tr none)
