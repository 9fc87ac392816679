use Rattle.std.proofs.Common.{arith}
use Rattle.noise_names.proofs.Common.{codes}
use Rattle.noise_names.proofs.Reading.{left-more, left-end, left-word, stripped, not-stripped}
use Rattle.noise_names.proofs.text.read.read_words.Goals as goal

pub loop-token-preserved : goal.loop-token-preserved
loop-token-preserved c = record {
  plain = c.push_own.ensures.plain c.loop-token.invariant.plain;
  shorter = omega (arith, c.in-Some-strip_prefix.ensures.cases.2, c.in-Some.ensures.shorter, c.loop-token.invariant.shorter);
  every = λ t ts more few e.
      left-more _ _ _ _ _ _ _ _ (c.loop-token.invariant.every t ts more few e) few c.in-Some.ensures.every c.push_own.ensures.written
      (stripped _ (codes ", ") c.in-Some-strip_prefix.more c.in-Some-strip_prefix.ensures.cases);
}

pub returns-in_default-strip_prefix-clause-every : goal.returns-in_default-strip_prefix-clause-every
returns-in_default-strip_prefix-clause-every c = λ t ts more few e.
    left-end _ _ _ _ _ _ _ (c.loop-token.invariant.every t ts more few e) few c.in-Some.ensures.every c.push_own.ensures.written
    (not-stripped _ (codes ", ") c.in_default-strip_prefix.ensures.cases)

pub returns-clause-every : goal.returns-clause-every
returns-clause-every c = λ t ts more few e.
    absurd (left-word _ _ _ _ (c.loop-token.invariant.every t ts more few e) (λ u b rest low f. c.in_default.ensures.every u b rest low f tt))
