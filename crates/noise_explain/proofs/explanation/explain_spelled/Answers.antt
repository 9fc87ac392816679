use Rattle.std.proofs.Common.{rules, ◌≡◌, sym, subst}
use Rattle.std.proofs.lemmas.List.Elements.{same_from_all_zip}
use Rattle.noise_names.specs.Text.{Spells}
use Rattle.noise_names.specs.Validity.{IsValid}
use Rattle.noise_explain.proofs.ExplainedLemmas.{few-said, right-said, wrong-said}
use Rattle.noise_explain.proofs.explanation.explain_spelled.Goals as goal

pub returns-in-Ok-clause-explained : goal.returns-in-Ok-clause-explained
returns-in-Ok-clause-explained c =
    let is_valid : IsValid c.args.pattern = search rules in
    right-said c.args.name.now c.args.text.now c.args.pattern c.in-Ok.valid c.explain_valid.result c.requires.spells c.in-Ok.ensures.value is_valid
    c.explain_valid.ensures.status c.explain_valid.ensures.text

pub returns-in-Ok-clause-bound : goal.returns-in-Ok-clause-bound
returns-in-Ok-clause-bound c = few-said c.explain_valid.result c.explain_valid.ensures.status

pub returns-in-Err-clause-explained : goal.returns-in-Err-clause-explained
returns-in-Err-clause-explained c = wrong-said c.args.name.now c.args.text.now c.explain_rule.result c.explain_rule.ensures.said

pub explain_rule-requires-clause-spells : goal.explain_rule-requires-clause-spells
explain_rule-requires-clause-spells c =
    let copy : c.in_ok-same.same ≡ c.args.pattern = search (rules, same_from_all_zip, c.in_ok-same.ensures.cases) in
    subst (Spells c.args.text.now) (sym copy) c.requires.spells
