use Rattle.std.proofs.Common.{arith, refl}
use Rattle.noise_explain.proofs.FactLemmas.{token-step}
use Rattle.noise_explain.proofs.facts.push_tokens.Goals as goal

pub loop-index-preserved : goal.loop-index-preserved
loop-index-preserved c =
    token-step c.args.pattern.now c.args.message c.loop-index.index _ _ c.tokens_of-tokens.result.now _ _ _ c.tokens_of-tokens.ensures.value
    (omega (arith, c.tokens_of-tokens.ensures.few, c.loop-index-test.true)) refl c.loop-index.invariant c.in_ok-push_token.ensures.appended
