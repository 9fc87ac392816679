use Rattle.std.proofs.Common.{◌∙◌, ap, refl}
use Rattle.noise_run.proofs.Common.{events_of, bytes_of, traces_of, sides_of_file}
use Rattle.noise_run.proofs.TracedWhole.{traced-whole}
use Rattle.noise_run.proofs.tracing.trace.Goals as goal

pub returns-clause-lines : goal.returns-clause-lines
returns-clause-lines c =
    let a = c.in_ok-duel.ensures.ends in
    let file = c.args.file in
    let r = c.in_ok-duel-2.ensures (sides_of_file file a.plan) a.matches (refl, refl) a.traced (ap traces_of c.new-traces.ensures.items) in
    traced-whole c.args.selection file c.in_ok-duel.field-0 a (events_of c.deref.result.now) c.in_ok-duel-2.duel c.in_ok-duel-2.report c.run_traced.new.ends
    (traces_of c.run_traced.new.traces.items) (traces_of c.push_datagram_trace.new.traces.items) (bytes_of c.in_ok-duel.field-0.lines.items)
    (bytes_of c.in_ok-lines.lines.items) (bytes_of c.in_ok-outcome.outcome.lines.items)
    (ap events_of (c.deref.ensures.value ∙ ap (λ e. e.items) a.events)) r a.lines (c.in_ok-lines.ensures.lines r.last r.frames)
    (λ after are_last. c.in_ok-push_datagram_trace.ensures r.last r.matches r.traced after are_last)
    (c.in_ok-outcome.ensures.after r.last r.matches)
