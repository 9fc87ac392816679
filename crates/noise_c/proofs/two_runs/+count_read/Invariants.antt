use Rattle.std.proofs.Common.{length}
use Rattle.noise_c.proofs.two_runs.+count_read.Given as goal

abbrev pub decreases-count_read : goal.decreases-count_read
decreases-count_read l = length l.steps.now
