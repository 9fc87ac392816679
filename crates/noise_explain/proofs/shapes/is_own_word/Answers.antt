use Rattle.std.proofs.Common.{◌≡◌}
use Rattle.noise_keys.specs.declared.keys.Own.{Own}
use Rattle.noise_vectors.specs.VectorText.{own_word}
use Rattle.noise_explain.proofs.ShapeLemmas.{some-such}
use Rattle.noise_explain.proofs.shapes.is_own_word.Goals as goal

pub returns : goal.returns
returns c =
    some-such (λ (own : Own). c.args.word.now ≡ own_word own) c.read_own.result c.is_some.result c.is_some.ensures
    c.read_own.ensures.value c.read_own.ensures.every
