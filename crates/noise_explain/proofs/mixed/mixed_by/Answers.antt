use Rattle.std.proofs.Common.{arith, ◌≡◌}
use Rattle.noise_explain.proofs.FactLemmas.{mixed-front, mixed-more}
use Rattle.noise_explain.proofs.mixed.mixed_by.Goals as goal

pub loop-index-preserved : goal.loop-index-preserved
loop-index-preserved c =
    mixed-more c.args.pattern.now c.loop-index.index c.loop-index.mixed c.add_tokens-mixed.result c.tokens_at.result.now c.messages.result.now
    c.loop-index.invariant c.messages.ensures.value c.tokens_at.ensures.value c.add_tokens-mixed.ensures

pub returns : goal.returns
returns c =
    let ended : c.loop-index.index ≡ c.args.passed = omega (arith, c.loop-index-test.false, c.loop-index.auto.index-end) in
    mixed-front c.args.pattern.now c.loop-index.index c.args.passed c.args.count c.min.result c.loop-index.mixed c.add_tokens.result
    c.tokens_at-next.result.now c.split_at.result.0.now c.messages-2.result.now ended c.loop-index.invariant c.messages-2.ensures.value
    c.tokens_at-next.ensures.value c.min.ensures c.split_at.ensures.front c.add_tokens.ensures
