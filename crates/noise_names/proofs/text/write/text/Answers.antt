use Rattle.noise_names.proofs.TextLengths.{few-text}
use Rattle.noise_names.proofs.text.write.text.Goals as goal

pub returns-clause-bound : goal.returns-clause-bound
returns-clause-bound c = few-text c.args.pattern.now c.messages-messages.ensures.limits
