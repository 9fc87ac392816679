use Rattle.std.proofs.Common.{length}
use Rattle.noise_c.proofs.supplied_keys.+result_for.Given as goal

abbrev pub decreases-result_for : goal.decreases-result_for
decreases-result_for l = length l.answers.now
