use Rattle.std.proofs.Common.{rules, append_assoc}
use Rattle.noise_session.proofs.Streaming.{consumed}
use Rattle.noise_session.proofs.frame.Frame.fill_from.Goals as goal

pub returns-in-Filled-clause-bytes : goal.returns-in-Filled-clause-bytes
returns-in-Filled-clause-bytes g c = search (rules, consumed, append_assoc)
