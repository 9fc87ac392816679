use Rattle.std.proofs.Common.{◌+◌, ◌≤◌, ◌∷◌, ◌∙◌, arith, length, drop, ap, sym}
use Rattle.noise_duel.proofs.Common.{drop_all, drop_more, end_of, Initiator, Responder, event_of, events_of, notes_of, both_sides, begun_as}
use Rattle.noise_duel.proofs.Happening.{all-come, one-more}
use Rattle.noise_duel.proofs.Reporting.{ends-agree}
use Rattle.noise_duel.proofs.duel.Duel.run.Goals as goal

pub loop-event-preserved : goal.loop-event-preserved
loop-event-preserved g c v w st =
    let h = c.loop-event.invariant v w st in
    one-more g.A.Keys.pairs g.B.Keys.pairs (both_sides v w) (events_of c.args.events.now)
    (events_of (drop c.loop-event.event-index c.args.events.now)) (events_of (drop (c.loop-event.event-index + 1) c.args.events.now))
    (event_of c.event-item.result) c.loop-event.self c.apply.new.self c.loop-event.report c.apply.new.report
    (ap events_of
    (drop_more c.args.events.now c.loop-event.event-index c.event-item.result c.loop-event-test.true
    ∙ ap (λ e. e ∷ drop (c.loop-event.event-index + 1) c.args.events.now) (sym c.event-item.is)))
    h (c.in_ok-apply.ensures h.now h.matches h.frames)

pub returns-clause-reports : goal.returns-clause-reports
returns-clause-reports g c v w st =
    let none : length c.args.events.now ≤ c.loop-event.event-index = omega arith in
    all-come g.A.Keys.pairs g.B.Keys.pairs (both_sides v w) (events_of c.args.events.now)
    (events_of (drop c.loop-event.event-index c.args.events.now)) c.loop-event.self c.loop-event.report
    (ap events_of (drop_all c.loop-event.event-index c.args.events.now none)) (c.loop-event.invariant v w st)

pub returns-clause-agrees : goal.returns-clause-agrees
returns-clause-agrees g c p a b i j st =
    let left = returns-clause-reports g c (end_of (begun_as p Initiator a) i) (end_of (begun_as p Responder b) j) st in (
      left,
      ends-agree c.ends_match.ensures.state c.ends_match.ensures.frame c.ends_agree.ensures.seen c.ends_agree.ensures.back c.ends_agree.ensures.one
          c.ends_agree.ensures.payloads p a b i j (events_of c.args.events.now) (notes_of c.loop-event.report.entries.items) left.last left.run,
    )
