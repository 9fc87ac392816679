use Rattle.std.proofs.Common.{arith, sym, ap, ◌∙◌, ◌++◌, append-nil}
use Rattle.noise_names.proofs.Common.{at_drop_all}
use Rattle.noise_names.proofs.Writing.{words-start, words-step, more_words}
use Rattle.noise_names.proofs.text.write.push_words.Goals as goal

pub loop-token-init : goal.loop-token-init
loop-token-init c = (words-start _ _ _ _ _ _ c.in-Some.ensures.cases.0 c.append.ensures.written c.word.ensures.value, omega arith)

pub loop-token-preserved : goal.loop-token-preserved
loop-token-preserved c = (
  words-step _ _ _ _ _ _ _ _ c.loop-token-test.true c.word-in-loop-token.ensures.value c.append-in-loop-token.ensures.written
      c.append-in-loop-token-2.ensures.written c.loop-token.invariant.0,
  omega arith,
)

pub returns : goal.returns
returns c = record {
  written = sym (append-nil c.loop-token.out.items)
      ∙ ap (λ k. c.loop-token.out.items ++ k) (sym (at_drop_all more_words c.in-Some.others.now c.loop-token.token-index c.loop-token-test.false))
      ∙ c.loop-token.invariant.0;
  bound = omega (arith, c.in-Some.ensures.cases.1);
}
