use Rattle.std.proofs.Common.{◌≡◌, ℕ, List}
use Rattle.noise_vectors.specs.Cuts.{AreCuts}
use Rattle.noise_vectors.specs.VectorText.{lengths_word}
use Rattle.noise_explain.proofs.ShapeLemmas.{if-both, some-such}
use Rattle.noise_explain.proofs.shapes.are_cuts.Goals as goal

pub returns : goal.returns
returns c =
    let is =
    some-such (λ (cuts : List ℕ). AreCuts cuts × (c.args.word.now ≡ lengths_word cuts)) c.read_cuts.result c.is_some.result c.is_some.ensures
    (if-both (λ (cuts : List ℕ). AreCuts cuts) (λ (cuts : List ℕ). c.args.word.now ≡ lengths_word cuts) c.read_cuts.result c.read_cuts.ensures.right c.read_cuts.ensures.value)
    (λ cuts h. c.read_cuts.ensures.every cuts h.0 h.1) in
    (λ yes. let found = is.0 yes in (found.0, found.1.0, found.1.1), λ h. is.1 (h.0, (h.1, h.2)))
