use Rattle.std.proofs.Common.{rules, ◌+◌, ◌≤◌, ◌∷◌, ◌∙◌, arith, length, drop, ap, sym, subst}
use Rattle.noise_duel.proofs.Common.{drop_all, drop_more, say_events, Role, Say, Deliver, HasHappened, with_side, both_sides}
use Rattle.noise_duel.specs.Acts.{roles_and_payloads}
use Rattle.noise_duel.proofs.Happening.{all-come, one-more, said, said-nothing}
use Rattle.noise_duel.proofs.Reporting.{all-through}
use Rattle.noise_duel.proofs.duel.Duel.converse.Goals as goal

pub loop-role-preserved-in_default : goal.loop-role-preserved-in_default
loop-role-preserved-in_default g c v w st =
    let h = c.loop-role.invariant v w st in
    let role = c.loop-role-item.result.0 in
    let payload = c.as_slice.result.now in
    let wrote = c.in_ok-written.ensures h.now h.matches h.frames in
    one-more g.A.Keys.pairs g.B.Keys.pairs (both_sides v w) (say_events (roles_and_payloads c.args.lines.now))
    (say_events (roles_and_payloads (drop c.loop-role.role-index c.args.lines.now))) (say_events (roles_and_payloads (drop (c.loop-role.role-index + 1) c.args.lines.now)))
    (Say role payload) c.loop-role.self c.write.new.self c.loop-role.report c.write.new.report
    (ap (λ xs. say_events (roles_and_payloads xs))
    (drop_more c.args.lines.now c.loop-role.role-index c.loop-role-item.result c.loop-role-test.true
    ∙ ap (λ x. x ∷ drop (c.loop-role.role-index + 1) c.args.lines.now) (sym c.loop-role-item.is))
    ∙ ap (λ bytes. Say role bytes ∷ say_events (roles_and_payloads (drop (c.loop-role.role-index + 1) c.args.lines.now)))
    (sym c.as_slice.ensures.value))
    h (said-nothing g.A.Keys.pairs g.B.Keys.pairs h.now role payload _ c.write.new.self c.loop-role.report c.write.new.report wrote (search rules))

pub loop-role-preserved : goal.loop-role-preserved
loop-role-preserved g c v w st =
    let h = c.loop-role.invariant v w st in
    let role = c.loop-role-item.result.0 in
    let payload = c.as_slice.result.now in
    let wrote = c.in_ok-written.ensures h.now h.matches h.frames in
    one-more g.A.Keys.pairs g.B.Keys.pairs (both_sides v w) (say_events (roles_and_payloads c.args.lines.now))
    (say_events (roles_and_payloads (drop c.loop-role.role-index c.args.lines.now))) (say_events (roles_and_payloads (drop (c.loop-role.role-index + 1) c.args.lines.now)))
    (Say role payload) c.loop-role.self c.deliver.new.self c.loop-role.report c.deliver.new.report
    (ap (λ xs. say_events (roles_and_payloads xs))
    (drop_more c.args.lines.now c.loop-role.role-index c.loop-role-item.result c.loop-role-test.true
    ∙ ap (λ x. x ∷ drop (c.loop-role.role-index + 1) c.args.lines.now) (sym c.loop-role-item.is))
    ∙ ap (λ bytes. Say role bytes ∷ say_events (roles_and_payloads (drop (c.loop-role.role-index + 1) c.args.lines.now)))
    (sym c.as_slice.ensures.value))
    h (said g.A.Keys.pairs g.B.Keys.pairs h.now role payload _ c.in-Some.number c.write.new.self c.deliver.new.self
    c.loop-role.report c.write.new.report c.deliver.new.report wrote c.in-Some.is
    (subst (λ (r : Role). HasHappened g.A.Keys.pairs g.B.Keys.pairs (with_side h.now role wrote.next)
    (Deliver r c.in-Some.number) c.deliver.new.self c.write.new.report c.deliver.new.report) c.other.ensures
    (c.in_ok-deliver.ensures (with_side h.now role wrote.next) wrote.matches wrote.frames)))

pub returns-clause-reports : goal.returns-clause-reports
returns-clause-reports g c v w st =
    let none : length c.args.lines.now ≤ c.loop-role.role-index = omega arith in
    all-come g.A.Keys.pairs g.B.Keys.pairs (both_sides v w) (say_events (roles_and_payloads c.args.lines.now))
    (say_events (roles_and_payloads (drop c.loop-role.role-index c.args.lines.now))) c.loop-role.self c.loop-role.report
    (ap (λ xs. say_events (roles_and_payloads xs)) (drop_all c.loop-role.role-index c.args.lines.now none)) (c.loop-role.invariant v w st)

pub returns-clause-comes_through : goal.returns-clause-comes_through
returns-clause-comes_through g c w p prologue a b interval parts turns st = search (rules, all-through, returns-clause-reports)
