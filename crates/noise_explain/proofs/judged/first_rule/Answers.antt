use Rattle.std.proofs.Common.{rules, ◌≡◌, subst}
use Rattle.std.proofs.lemmas.List.Elements.{same_from_all_zip}
use Rattle.noise_names.specs.Plan.{Plan}
use Rattle.noise_explain.specs.RulePlaces.{IsRulePlace}
use Rattle.noise_explain.proofs.ExplainedLemmas.{rule-first}
use Rattle.noise_explain.proofs.judged.first_rule.Goals as goal

pub returns-in-Err : goal.returns-in-Err
returns-in-Err c =
    let copy : c.in_ok-same.same ≡ c.args.pattern = search (rules, same_from_all_zip, c.in_ok-same.ensures.cases) in
    let place : IsRulePlace c.args.pattern c.in-Err.fault c.rule_place.result =
    subst (λ (p : Plan). IsRulePlace p c.in-Err.fault c.rule_place.result) copy c.rule_place.ensures in
    record {
      found = rule-first c.args.text.now c.args.pattern c.in-Err.fault c.rule_place.result c.requires.spells
          (c.args.pattern, c.requires.spells, c.in-Err.ensures.fault) place;
    }
