use Rattle.std.proofs.Common.{◌∙◌, ap, refl, sym, ℕ, List, ◌++◌, Some, None, codes}
use Rattle.std.specs.Bool.{nat_eq}
use Rattle.noise_vectors.proofs.Common.{starts_with, Decides-eqb, strip_prefix_is, section_bytes, suffix}
use Rattle.noise_vectors.proofs.HeadingLemmas.{heading-parts, heading-test, section-plain}
use Rattle.noise_vectors.proofs.block.has_heading.Goals as goal

pub returns-in_default-split_once : goal.returns-in_default-split_once
returns-in_default-split_once c = λ right.
    let name = c.args.protocol.now in
    let section = section_bytes name.base name.places in
    let front = c.in-Some.ensures.every (codes "Noise") (section ++ suffix) refl (c.deref.ensures.0 ∙ c.write-name.ensures.written) in
    absurd (c.in_default-split_once.ensures.every section (codes "25519_ChaChaPoly_SHA256") (section-plain name right) front.1 tt)

pub returns-in-None : goal.returns-in-None
returns-in-None c = λ right.
    let name = c.args.protocol.now in
    let section = section_bytes name.base name.places in
    let front = c.in-Some.ensures.every (codes "Noise") (section ++ suffix) refl (c.deref.ensures.0 ∙ c.write-name.ensures.written) in
    let here = c.in-Some-split_once.ensures.every section (codes "25519_ChaChaPoly_SHA256") (section-plain name right) front.1 in
    let none = strip_prefix_is {A = ℕ} Decides-eqb c.args.text.now c.in-Some-split_once.section.now None c.in-None.ensures.cases in (
      λ yes. absurd (cc (yes)),
      λ begun. absurd (none (codes ":\n" ++ begun.0)
          (heading-parts name c.args.text.now begun.0 begun.1 ∙ ap (λ (s : List ℕ). s ++ (codes ":\n" ++ begun.0)) (sym here.0))),
    )

pub returns-in-Some-strip_prefix : goal.returns-in-Some-strip_prefix
returns-in-Some-strip_prefix c = λ right.
    let name = c.args.protocol.now in
    let section = section_bytes name.base name.places in
    let after = c.in-Some-strip_prefix.after in
    let front = c.in-Some.ensures.every (codes "Noise") (section ++ suffix) refl (c.deref.ensures.0 ∙ c.write-name.ensures.written) in
    let here = c.in-Some-split_once.ensures.every section (codes "25519_ChaChaPoly_SHA256") (section-plain name right) front.1 in
    let split = strip_prefix_is Decides-eqb c.args.text.now c.in-Some-split_once.section.now (Some after) c.in-Some-strip_prefix.ensures.cases in
    heading-test name c.args.text.now after.now c.starts_with.result (split ∙ ap (λ (s : List ℕ). s ++ after.now) here.0)
    (c.starts_with.ensures.value ∙ ap (λ (word : List ℕ). starts_with nat_eq after.now word) c.as_slice.ensures)
