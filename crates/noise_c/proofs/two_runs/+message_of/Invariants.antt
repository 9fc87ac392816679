use Rattle.std.proofs.Common.{length}
use Rattle.noise_c.proofs.two_runs.+message_of.Given as goal

abbrev pub decreases-message_of : goal.decreases-message_of
decreases-message_of l = length l.steps.now
