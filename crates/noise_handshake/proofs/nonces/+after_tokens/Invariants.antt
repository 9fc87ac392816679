use Rattle.std.proofs.Common.{length}
use Rattle.noise_handshake.proofs.nonces.+after_tokens.Given as goal

abbrev pub decreases-after_tokens : goal.decreases-after_tokens
decreases-after_tokens l = length l.tokens.now
