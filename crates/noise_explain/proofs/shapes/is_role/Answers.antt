use Rattle.std.proofs.Common.{◌≡◌}
use Rattle.noise_names.specs.declared.token.Role.{Role}
use Rattle.noise_vectors.specs.VectorText.{role_word}
use Rattle.noise_explain.proofs.ShapeLemmas.{some-such}
use Rattle.noise_explain.proofs.shapes.is_role.Goals as goal

pub returns : goal.returns
returns c =
    some-such (λ (role : Role). c.args.word.now ≡ role_word role) c.read_role.result c.is_some.result c.is_some.ensures
    c.read_role.ensures.value c.read_role.ensures.every
