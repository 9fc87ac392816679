use Rattle.std.proofs.Common.{length}
use Rattle.noise_handshake.proofs.layout.+place_tokens.Given as goal

abbrev pub decreases-place_tokens : goal.decreases-place_tokens
decreases-place_tokens l = length l.tokens.now
