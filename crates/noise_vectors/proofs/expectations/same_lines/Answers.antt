use Rattle.std.proofs.Common.{rules}
use Rattle.noise_vectors.proofs.ExpectationLemmas.{line-at, same-more}
use Rattle.noise_vectors.proofs.expectations.same_lines.Goals as goal

pub loop-same-preserved : goal.loop-same-preserved
loop-same-preserved c = search (rules, line-at, same-more)

pub returns-else-eq-clause-differ : goal.returns-else-eq-clause-differ
returns-else-eq-clause-differ c = search (rules, line-at)
