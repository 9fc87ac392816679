use Rattle.std.proofs.Common.{rules, ◌≤◌, length}
use Rattle.noise_explain.proofs.RuleLemmas.{list-all}
use Rattle.noise_explain.proofs.rule_place.list_len.Goals as goal

pub returns-clause-value : goal.returns-clause-value
returns-clause-value c =
    let past : length c.args.tokens.now ≤ c.loop-index.index = search rules in
    list-all c.args.tokens.now c.loop-index.index c.args.token c.loop-index.count _ past c.loop-index.invariant.below c.loop-index.invariant.same
    c.saturating_sub.ensures
