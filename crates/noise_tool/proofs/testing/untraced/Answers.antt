use Rattle.std.proofs.Common.{rules}
use Rattle.noise_tool.proofs.PerformingLemmas.{no-traces}
use Rattle.noise_tool.proofs.testing.untraced.Goals as goal

pub returns-clause-plain : goal.returns-clause-plain
returns-clause-plain c = search (rules, no-traces)
