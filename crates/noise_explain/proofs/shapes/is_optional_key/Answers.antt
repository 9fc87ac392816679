use Rattle.std.proofs.Common.{◌≡◌, ℕ, List, Option}
use Rattle.std.specs.Prelude.{IfSome}
use Rattle.noise_vectors.specs.VectorText.{key_word}
use Rattle.noise_vectors.specs.Words.{IsKey}
use Rattle.noise_explain.proofs.ShapeLemmas.{if-both, some-such}
use Rattle.noise_explain.proofs.shapes.is_optional_key.Goals as goal

pub returns : goal.returns
returns c =
    let is =
    some-such (λ (key : Option (List ℕ)). IfSome key IsKey × (c.args.word.now ≡ key_word key)) c.read_optional_key.result c.is_some.result c.is_some.ensures
    (if-both (λ (key : Option (List ℕ)). IfSome key IsKey) (λ (key : Option (List ℕ)). c.args.word.now ≡ key_word key) c.read_optional_key.result c.read_optional_key.ensures.right c.read_optional_key.ensures.value)
    (λ key h. c.read_optional_key.ensures.every key h.0 h.1) in
    (λ yes. let found = is.0 yes in (found.0, found.1.0, found.1.1), λ h. is.1 (h.0, (h.1, h.2)))
