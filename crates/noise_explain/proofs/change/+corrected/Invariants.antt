use Rattle.std.proofs.Common.{length}
use Rattle.noise_explain.proofs.change.+corrected.Given as goal

abbrev pub decreases-corrected : goal.decreases-corrected
decreases-corrected l = length l.changes.now
