use Rattle.std.proofs.Common.{rules, refl, arith, ◌≡◌, ◌+◌, ◌∙◌, ap, sym, subst, List, ◌∷◌, ◌++◌, length, ◌<◌, ◌^◌, []}
use Rattle.noise_vectors.proofs.Common.{false≢true, IsTrue, All, All-push, Event, IsAllowed, IsEvent, AfterEvents, event_words, lines_of, event_lines}
use Rattle.noise_vectors.proofs.AdditionLemmas.{event-stands}
use Rattle.noise_vectors.proofs.EventLemmas.{all-right, right-plain}
use Rattle.noise_vectors.proofs.LineLemmas.{lines_of-more}
use Rattle.noise_vectors.proofs.PartLemmas.{lines-over, next-of, reports-cut, reports-wrong}
use Rattle.noise_vectors.proofs.ReportedLemmas.{counted-ended}
use Rattle.noise_vectors.proofs.HeldLemmas.{lines-long}
use Rattle.noise_vectors.proofs.Results.{chosen_ok, err-is}
use Rattle.noise_vectors.proofs.events.read_events.Goals as goal

pub returns-in_default-clause-every : goal.returns-in_default-clause-every
returns-in_default-clause-every c = λ events rest right allowed over e.
    let f = next-of (event_lines c.args.allowed) (right-plain c.args.allowed) event-stands c.loop-alloc.events.items events c.args.lines.now.rest.now c.loop-alloc.lines.rest.now rest
    c.loop-alloc.invariant.0 (all-right c.args.allowed c.loop-alloc.events.items c.loop-alloc.invariant.2 c.loop-alloc.invariant.1) e (all-right c.args.allowed events right allowed) over
    (λ stop. false≢true (sym c.loop-alloc-test.true ∙ c.is_after_events.ensures.1 stop)) in
    let read = c.in_ok-line.ensures.every (event_words f.next) f.after (right-plain c.args.allowed f.next f.good) f.left_is in
    absurd (false≢true (rw c.in_default.is at (c.in_ok-event.ensures.every f.next f.good.0 f.good.1 read.0)))

pub returns-in_err-end-clause-every : goal.returns-in_err-end-clause-every
returns-in_err-end-clause-every c = λ events rest right allowed over e.
    let f = next-of (event_lines c.args.allowed) (right-plain c.args.allowed) event-stands c.loop-alloc.events.items events c.args.lines.now.rest.now c.loop-alloc.lines.rest.now rest
    c.loop-alloc.invariant.0 (all-right c.args.allowed c.loop-alloc.events.items c.loop-alloc.invariant.2 c.loop-alloc.invariant.1) e (all-right c.args.allowed events right allowed) over
    (λ stop. false≢true (sym c.loop-alloc-test.true ∙ c.is_after_events.ensures.1 stop)) in
    let read = c.in_ok-line.ensures.every (event_words f.next) f.after (right-plain c.args.allowed f.next f.good) f.left_is in
    absurd (false≢true (c.in_err-end.ensures.ended.1 read.2))

pub loop-alloc-preserved : goal.loop-alloc-preserved
loop-alloc-preserved c =
    let ended : IsTrue c.next.new.self.is_ended = c.in_ok-end.ensures.ended.0 refl in
    let found : c.in_ok-line.line.now ≡ event_words c.in-Some.event = rw c.in-Some.is at c.in_ok-event.ensures.text in
    let is_allowed : IsAllowed c.args.allowed c.in-Some.event = rw c.in-Some.is at c.in_ok-event.ensures.allowed in
    let is_event : IsEvent c.in-Some.event = rw c.in-Some.is at c.in_ok-event.ensures.right in
    let pushed : c.push.new.self.items ≡ c.loop-alloc.events.items ++ c.in-Some.event ∷ [] =
    chosen_ok c.push.result _ _ _ c.push.ensures.items (sym c.if-is_err.ensures.value) in (
      lines_of-more event_words c.args.lines.now.rest.now c.loop-alloc.lines.rest.now c.in_ok-line.line.now c.next.new.self.rest.now
          c.loop-alloc.events.items c.in-Some.event c.loop-alloc.invariant.0 (c.in_ok-line.ensures.read.ended ended) found
          ∙ ap (λ (events : List Event). lines_of event_words events c.next.new.self.rest.now) (sym pushed),
      subst (λ (events : List Event). All (IsAllowed c.args.allowed) events) (sym pushed)
          (All-push (IsAllowed c.args.allowed) c.loop-alloc.events.items c.in-Some.event c.loop-alloc.invariant.1 is_allowed),
      subst (λ (events : List Event). All IsEvent events) (sym pushed)
          (All-push IsEvent c.loop-alloc.events.items c.in-Some.event c.loop-alloc.invariant.2 is_event),
      counted-ended c.in_ok-line.ensures.read ended ∙ c.loop-alloc.invariant.3,
    )

pub returns-clause-every : goal.returns-clause-every
returns-clause-every c = λ events rest right allowed over e.
    let after : AfterEvents c.loop-alloc.lines.rest.now = search rules in
    lines-over (event_lines c.args.allowed) (right-plain c.args.allowed) event-stands c.loop-alloc.events.items events c.loop-alloc.lines.rest.now rest
    (all-right c.args.allowed c.loop-alloc.events.items c.loop-alloc.invariant.2 c.loop-alloc.invariant.1) (all-right c.args.allowed events right allowed) after over (sym c.loop-alloc.invariant.0 ∙ e)

pub returns-in_default-clause-reported : goal.returns-in_default-clause-reported
returns-in_default-clause-reported c =
    let long = lines-long event_words c.loop-alloc.events.items c.args.lines.now.rest.now c.loop-alloc.lines.rest.now c.next.new.self.rest.now c.loop-alloc.invariant.0
    c.in_ok-line.ensures.shorter in
    let few : length c.loop-alloc.events.items + 1 < 2 ^ 63 = omega (arith, long) in
    reports-wrong (event_lines c.args.allowed) c.args.lines.now c.loop-alloc.events.items
    c.loop-alloc.invariant.0 (all-right c.args.allowed c.loop-alloc.events.items c.loop-alloc.invariant.2 c.loop-alloc.invariant.1) (omega (arith, few)) (λ over. false≢true (sym c.loop-alloc-test.true ∙ c.is_after_events.ensures.1 over)) c.loop-alloc.invariant.3 c.in_ok-line.ensures.read c.fault.ensures
    (λ event good same.
    absurd (false≢true (rw c.in_default.is at (c.in_ok-event.ensures.every event good.0 good.1 same))))

pub returns-in_err-end-clause-reported : goal.returns-in_err-end-clause-reported
returns-in_err-end-clause-reported c =
    let long = lines-long event_words c.loop-alloc.events.items c.args.lines.now.rest.now c.loop-alloc.lines.rest.now c.next.new.self.rest.now c.loop-alloc.invariant.0
    c.in_ok-line.ensures.shorter in
    let few : length c.loop-alloc.events.items + 1 < 2 ^ 63 = omega (arith, long) in
    let found : c.in_ok-line.line.now ≡ event_words c.in-Some.event = rw c.in-Some.is at c.in_ok-event.ensures.text in
    let is_allowed : IsAllowed c.args.allowed c.in-Some.event = rw c.in-Some.is at c.in_ok-event.ensures.allowed in
    let is_event : IsEvent c.in-Some.event = rw c.in-Some.is at c.in_ok-event.ensures.right in
    rw (err-is c.from_residual-in_err-end.result c.from_residual-in_err-end.ensures.1) (reports-cut (event_lines c.args.allowed) c.args.lines.now c.loop-alloc.events.items c.in-Some.event
    c.loop-alloc.invariant.0 (all-right c.args.allowed c.loop-alloc.events.items c.loop-alloc.invariant.2 c.loop-alloc.invariant.1) few c.loop-alloc.invariant.3 c.in_ok-line.ensures.read c.in_err-end.ensures.fault found (is_event, is_allowed))
