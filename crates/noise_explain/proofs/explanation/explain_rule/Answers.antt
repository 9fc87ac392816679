use Rattle.std.proofs.Common.{◌∙◌, ◌++◌, ap, refl, subst, sym, ℕ, List}
use Rattle.noise_lines.specs.declared.faults.Fault.TheVariants.{Rule}
use Rattle.noise_explain.specs.Explained.{IsRuleTold}
use Rattle.noise_explain.proofs.ExplainedLemmas.{fault-said, rule-first}
use Rattle.noise_explain.proofs.explanation.explain_rule.Goals as goal

pub all_rule_lines-requires : goal.all_rule_lines-requires
all_rule_lines-requires c = record {
  first = rule-first c.args.text.now c.args.pattern.now c.args.fault c.rule_place-position.result c.requires.spells c.requires.fault
      c.rule_place-position.ensures;
  spells = c.requires.spells;
}

pub returns-clause-said : goal.returns-clause-said
returns-clause-said c =
    let lines : List ℕ = c.deref.result.now in
    let words : List ℕ = c.deref-2.result.now in
    let first =
    rule-first c.args.text.now c.args.pattern.now c.args.fault c.rule_place-position.result c.requires.spells c.requires.fault c.rule_place-position.ensures in
    fault-said c.args.name.now c.args.text.now _ (Rule c.args.fault) c.rule_place-position.result _ lines words first refl
    (c.in_ok-extend_from_slice-2.ensures.items
    ∙ ap (λ (t : List ℕ). t ++ words) (c.in_ok-extend_from_slice.ensures.items ∙ ap (λ (t : List ℕ). t ++ lines) c.in_ok-reported.ensures))
    (c.deref.ensures.value ∙ c.in_ok-caret_lines.ensures) c.line_at.ensures
    (subst (IsRuleTold c.args.text.now c.args.fault) (sym c.deref-2.ensures.value) c.in_ok-all_rule_lines.ensures.told)
