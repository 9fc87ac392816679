use Rattle.noise_names.specs.Rules.{tokens-keep-rules}
use Rattle.noise_names.proofs.laws.tokens_keep_rules.Goals as goal

pub returns : goal.returns
returns c = tokens-keep-rules
