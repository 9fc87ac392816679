use Rattle.std.proofs.Common.{length}
use Rattle.noise_keys.proofs.key_tokens.+sends_in.Given as goal

abbrev pub decreases-sends_in : goal.decreases-sends_in
decreases-sends_in l = length l.messages.now
