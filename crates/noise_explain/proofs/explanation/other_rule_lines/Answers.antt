use Rattle.std.proofs.Common.{◌∙◌, ap, List}
use Rattle.std.specs.Prelude.{flat_map}
use Rattle.std.proofs.lemmas.List.{take_all}
use Rattle.noise_names.specs.declared.faults.RuleFault.{RuleFault}
use Rattle.noise_explain.specs.RuleWords.{rule_lines}
use Rattle.noise_explain.proofs.explanation.other_rule_lines.Goals as goal

pub returns : goal.returns
returns c =
    let others : List RuleFault = c.deref-other-items.result.now in (
      others,
      c.loop-other.invariant
          ∙ ap (λ (t : List RuleFault). flat_map (rule_lines c.args.pattern.now) t) (take_all c.loop-other.other-index others c.loop-other-test.false),
    )
