use Rattle.std.proofs.Common.{length}
use Rattle.noise_handshake.proofs.writer.+write_tokens.Given as goal

abbrev pub decreases-write_tokens : goal.decreases-write_tokens
decreases-write_tokens g l = length l.placed.now
