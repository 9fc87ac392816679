use Rattle.std.proofs.Common.{length}
use Rattle.noise_trace.proofs.start.+mix_keys.Given as goal

abbrev pub decreases-mix_keys : goal.decreases-mix_keys
decreases-mix_keys l = length l.tokens.now
