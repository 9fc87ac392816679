use Rattle.std.proofs.Common.{◌≡◌, ℕ, List}
use Rattle.hex.specs.Hex.{encode_lower}
use Rattle.noise_vectors.specs.Words.{IsKey}
use Rattle.noise_explain.proofs.ShapeLemmas.{if-both, some-such}
use Rattle.noise_explain.proofs.shapes.is_key.Goals as goal

pub returns : goal.returns
returns c =
    let is =
    some-such (λ (key : List ℕ). IsKey key × (c.args.word.now ≡ encode_lower key)) c.read_key.result c.is_some.result c.is_some.ensures
    (if-both (λ (key : List ℕ). IsKey key) (λ (key : List ℕ). c.args.word.now ≡ encode_lower key) c.read_key.result c.read_key.ensures.right c.read_key.ensures.value)
    (λ key h. c.read_key.ensures.every key h.0 h.1) in
    (λ yes. let found = is.0 yes in (found.0, found.1.0, found.1.1), λ h. is.1 (h.0, (h.1, h.2)))
