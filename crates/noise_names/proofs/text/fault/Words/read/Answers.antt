use Rattle.noise_names.proofs.Common.{codes}
use Rattle.noise_names.proofs.Reading.{stripped, not-stripped, equal_from_test, differ_from_test}
use Rattle.noise_names.proofs.WordLists.{no-word, no-comma, read-end, read-more}
use Rattle.noise_names.proofs.text.fault.Words.read.Goals as goal

pub returns-in_err-token-clause-none : goal.returns-in_err-token-clause-none
returns-in_err-token-clause-none c =
    rw c.from_residual.ensures
    (no-word _ _ _ _ c.loop-token.invariant (λ t b more low e. c.in_err-token.ensures.every t b more low e tt) (λ t e. c.in_err-token.ensures.last t e tt))

pub returns-then-is_empty-clause-some : goal.returns-then-is_empty-clause-some
returns-then-is_empty-clause-some c =
    read-end _ _ _ _ _ _ _ c.loop-token.invariant c.in_ok-token.ensures.some (equal_from_test _ _ 0 c.is_empty.ensures c.if-is_empty.true)
    c.add.ensures.first c.add.ensures.own

pub returns-in_err-left-clause-none : goal.returns-in_err-left-clause-none
returns-in_err-left-clause-none c =
    rw c.from_residual-in_err-left.ensures
    (no-comma _ _ _ _ _ _ c.loop-token.invariant c.in_ok-token.ensures.every c.in_ok-token.ensures.last
    (differ_from_test _ _ 0 c.is_empty.ensures c.if-is_empty.false) (not-stripped _ (codes ", ") c.in_err-left.ensures.cases))

pub loop-token-preserved : goal.loop-token-preserved
loop-token-preserved c =
    read-more _ _ _ _ _ _ _ _ _ c.loop-token.invariant c.in_ok-token.ensures.some (stripped _ (codes ", ") c.in_ok-left.left c.in_ok-left.ensures.cases)
    c.add.ensures.first c.add.ensures.own
