use Rattle.std.proofs.Common.{length}
use Rattle.noise_explain.proofs.places.+push_psks.Given as goal

abbrev pub decreases-push_psks : goal.decreases-push_psks
decreases-push_psks l = length l.indices.now
