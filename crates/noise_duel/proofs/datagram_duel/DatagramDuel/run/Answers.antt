use Rattle.std.proofs.Common.{◌+◌, ◌≤◌, ◌∷◌, ◌∙◌, arith, length, drop, ap, sym}
use Rattle.noise_duel.proofs.Common.{drop_all, drop_more, datagram_event_of, datagram_events_of, datagram_notes_of, datagram_sides}
use Rattle.noise_duel.proofs.DatagramHappening.{all-come, one-more}
use Rattle.noise_duel.proofs.datagram_duel.DatagramDuel.run.Goals as goal

pub loop-event-preserved : goal.loop-event-preserved
loop-event-preserved c v w p =
    let h = c.loop-event.invariant v w p in
    one-more (datagram_sides v w) (datagram_events_of c.args.events.now)
    (datagram_events_of (drop c.loop-event.event-index c.args.events.now)) (datagram_events_of (drop (c.loop-event.event-index + 1) c.args.events.now))
    (datagram_event_of c.event-item.result) c.in_ok-reported.reported c.loop-event.self c.apply.new.self c.loop-event.sealed c.apply.new.sealed
    c.loop-event.report _
    (ap datagram_events_of
    (drop_more c.args.events.now c.loop-event.event-index c.event-item.result c.loop-event-test.true
    ∙ ap (λ e. e ∷ drop (c.loop-event.event-index + 1) c.args.events.now) (sym c.event-item.is)))
    c.in_ok-push.ensures.items
    h (c.in_ok-reported.ensures h.now h.matches h.sealed_match)

pub returns-clause-reports : goal.returns-clause-reports
returns-clause-reports c v w p =
    let none : length c.args.events.now ≤ c.loop-event.event-index = omega arith in
    all-come (datagram_sides v w) (datagram_events_of c.args.events.now)
    (datagram_events_of (drop c.loop-event.event-index c.args.events.now)) c.loop-event.self c.loop-event.sealed c.loop-event.report
    (ap datagram_events_of (drop_all c.loop-event.event-index c.args.events.now none)) (c.loop-event.invariant v w p)

pub returns-clause-agrees : goal.returns-clause-agrees
returns-clause-agrees c v w p b =
    let left = returns-clause-reports c v w p in
    (left, c.datagrams_agree.ensures.agree v w (datagram_events_of c.args.events.now) (datagram_notes_of c.loop-event.report.entries.items) left.last b left.run)
