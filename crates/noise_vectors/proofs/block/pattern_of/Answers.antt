use Rattle.std.proofs.Common.{◌∙◌, inl, refl}
use Rattle.noise_vectors.proofs.HeadingLemmas.{heading-one, other-name}
use Rattle.noise_vectors.proofs.block.pattern_of.Goals.{in_default-via-in-Ok+else-eq, in_default-via-in-Err+else-has_heading}
use Rattle.noise_vectors.proofs.block.pattern_of.Goals as goal

pub returns-in_default-clause-reported : goal.returns-in_default-clause-reported
returns-in_default-clause-reported c = λ right.
    let name = c.args.protocol.now in
    elim c.in_default.branch [
      | in_default-via-in-Ok+else-eq w ↦
          let spells = w.in-Ok.ensures.spelled in
          inl (
            λ begun. other-name w.name.result name w.eq.result w.eq.ensures w.if-eq.false
                (w.name.ensures ∙ heading-one w.in-Ok.pattern name c.args.text.now spells.is_pattern right spells.spelled begun.0 begun.1),
            refl,
          )
      | in_default-via-in-Err+else-has_heading w ↦
          inl (λ begun. let yes = (w.has_heading.ensures right).1 begun in absurd (cc (yes, w.if-has_heading.false)), refl)
    ]
