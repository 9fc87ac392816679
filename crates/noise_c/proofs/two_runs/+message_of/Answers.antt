use Rattle.std.proofs.Common.{◌∙◌, ap, false}
use Rattle.noise_c.specs.TwoRuns.{passed_by}
use Rattle.noise_c.proofs.Both.{at-first, at-next, beq-same, first-of, at-none, ok-match}
use Rattle.noise_c.proofs.two_runs.+message_of.Goals as goal

pub returns-then-number-eq0 : goal.returns-then-number-eq0
returns-then-number-eq0 t c =
    at-first c.args.responder c.in-Some.first.now c.in-Some.more.now (beq-same _ _ c.if-first-responder.true) c.if-not-first.true c.if-first-eq-OK.true
    c.args.steps.now c.args.number _ c.in-Some.ensures.cases.0 c.if-number-eq0.true (c.in_ok-from_slice.ensures.items ∙ c.deref.ensures.value)

pub returns-then-first-eq-OK : goal.returns-then-first-eq-OK
returns-then-first-eq-OK t c =
    let side = beq-same _ _ c.if-first-responder.true in
    ok-match c.message_of.result c.message_of.ensures
    (λ few. at-none c.args.steps.now c.in-Some.more.now c.args.responder c.in-Some.first.now c.args.number
    (ap (passed_by c.args.responder false) c.in-Some.ensures.cases.0 ∙ first-of c.args.responder c.in-Some.first.now c.in-Some.more.now side c.if-not-first.true c.if-first-eq-OK.true)
    c.if-number-eq0.false few)
    (λ m at. at-next c.args.responder c.in-Some.first.now c.in-Some.more.now side c.if-not-first.true c.if-first-eq-OK.true
    c.args.steps.now c.args.number m.items c.in-Some.ensures.cases.0 c.if-number-eq0.false at)
