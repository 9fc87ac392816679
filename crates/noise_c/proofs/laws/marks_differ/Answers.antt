use Rattle.std.proofs.Common.{rules}
use Rattle.std.specs.List.{IsDistinct}
use Rattle.noise_c.proofs.laws.marks_differ.Goals as goal

pub returns-clause-differ : goal.returns-clause-differ
unfolding IsDistinct
returns-clause-differ c = search rules
