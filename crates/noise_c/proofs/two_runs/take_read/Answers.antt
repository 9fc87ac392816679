use Rattle.std.proofs.Common.{◌≡◌, [], List, inr, subst}
use Rattle.std.specs.Prelude.{MatchOption}
use Rattle.noise_c.specs.RunSteps.{IsFirst}
use Rattle.noise_c.specs.TwoRuns.{waiting}
use Rattle.noise_c.specs.declared.two_runs.Step.{Step}
use Rattle.noise_c.proofs.two_runs.take_read.Goals as goal

pub returns : goal.returns
returns c =
    let side = c.args.responder in
    let at = subst (λ o. MatchOption o (waiting side c.deref.result.now ≡ []) (λ m. IsFirst m.items (waiting side c.deref.result.now))) c.in-Some.is
    c.in_ok-message.ensures in
    let first = subst (λ (z : List Step). IsFirst c.in-Some.message.items (waiting side z)) c.deref.ensures.value at in
    inr (c.in-Some.message.items, c.in_ok-step.step, first, c.in_ok-step.ensures, c.in_ok-push.ensures.items)
