use Rattle.noise_tool.proofs.TemplateLemmas.{no-setup-fault, pattern-of}
use Rattle.noise_tool.proofs.laws.templates_start.Goals as goal

pub returns : goal.returns
returns c = λ g p text template. record {
  pattern = pattern-of g p template.file template.pattern template.is;
  set_up = no-setup-fault g p template.file template.pattern (c.tokens_match.ensures.before p) template.is;
}
