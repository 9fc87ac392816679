use Rattle.noise_trace.proofs.Lengths.{few-tokens}
use Rattle.noise_trace.proofs.schedule.list_for.Goals as goal

pub returns-clause-few : goal.returns-clause-few
returns-clause-few g c i = few-tokens c.args.handshake.now.pattern c.pattern-pattern.ensures.limits i
