use Rattle.std.proofs.Common.{rules, arith}
use Rattle.noise_names.proofs.Reading.{next-line, last-line, plain-push, sizes-push, length-own, equal_from_test, differ_from_test}
use Rattle.noise_names.proofs.text.read.read_messages.Goals.{then-is_empty-via-then-is_empty, then-is_empty-via-else-is_empty+then-is_full}
use Rattle.noise_names.proofs.text.read.read_messages.Goals as goal

pub returns-then-is_empty-clause-every : goal.returns-then-is_empty-clause-every
returns-then-is_empty-clause-every c = λ ms few sizes e.
    let next = next-line _ _ _ _ _ _ (c.loop-tokens.invariant.every ms few sizes e) c.in-Some.ensures.shorter c.in-Some.ensures.every in
    elim c.then-is_empty.branch [
      | then-is_empty-via-then-is_empty w ↦ absurd (omega (arith, equal_from_test _ _ 0 c.is_empty.ensures w.if-is_empty.true, next.some))
      | then-is_empty-via-else-is_empty+then-is_full w ↦ absurd
          (omega (arith, equal_from_test _ _ 8 w.is_full.ensures.value w.if-is_full.true, next.room, length-own ms))
    ]

pub loop-tokens-preserved : goal.loop-tokens-preserved
loop-tokens-preserved c = record {
  plain = search (rules, plain-push);
  sizes = search (rules, sizes-push, differ_from_test);
  few = omega (arith, c.push.ensures.len, differ_from_test _ _ 8 c.is_full.ensures.value c.if-is_full.false, c.is_full.ensures.fits);
  every = λ ms few sizes e.
      let next = next-line _ _ _ _ _ _ (c.loop-tokens.invariant.every ms few sizes e) c.in-Some.ensures.shorter c.in-Some.ensures.every in
      rw (c.push.ensures.items, c.of.ensures.value, c.as_slice.ensures.value, c.other-role.ensures) next.after;
}

pub returns-clause-every : goal.returns-clause-every
returns-clause-every c = λ ms few sizes e.
    last-line _ _ _ _ (c.loop-tokens.invariant.every ms few sizes e) (λ t ts more small f. c.in_default.ensures.every t ts more small f tt)
