use Rattle.std.proofs.Common.{◌∙◌, ◌++◌, ap, refl, subst, sym, ℕ, List}
use Rattle.noise_lines.specs.declared.faults.Fault.TheVariants.{Text}
use Rattle.noise_explain.specs.Explained.{IsTextTold}
use Rattle.noise_explain.proofs.ExplainedLemmas.{fault-said}
use Rattle.noise_explain.proofs.explanation.explain_text.Goals as goal

pub returns-clause-said : goal.returns-clause-said
returns-clause-said c =
    let lines : List ℕ = c.deref.result.now in
    let words : List ℕ = c.deref-2.result.now in
    fault-said c.args.name.now c.args.text.now _ (Text c.args.fault) c.text_position-position.result _ lines words c.text_position-position.ensures.first refl
    (c.in_ok-extend_from_slice-2.ensures.items
    ∙ ap (λ (t : List ℕ). t ++ words) (c.in_ok-extend_from_slice.ensures.items ∙ ap (λ (t : List ℕ). t ++ lines) c.in_ok-reported.ensures))
    (c.deref.ensures.value ∙ c.in_ok-caret_lines.ensures) c.line_at.ensures
    (subst (IsTextTold c.args.text.now) (sym c.deref-2.ensures.value) c.in_ok-told_lines.ensures.told)
