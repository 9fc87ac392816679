use Rattle.noise_explain.proofs.RuleLemmas.{rule-place}
use Rattle.noise_explain.proofs.rule_place.rule_place.Goals as goal

pub returns : goal.returns
returns c =
    rule-place c.args.pattern.now c.args.fault c.spot-message.result.0 c.spot-message.result.1 c.saturating_sub.result c.saturating_sub-2.result
    c.pre_line_count.result c.list_len.result c.messages-messages.result.now c.tokens_at-tokens.result.now c.messages-messages.ensures.limits
    c.messages-messages.ensures.value c.spot-message.ensures.message c.spot-message.ensures.token c.saturating_sub.ensures c.saturating_sub-2.ensures
    c.pre_line_count.ensures.lines c.tokens_at-tokens.ensures.value c.list_len.ensures.value
