use Rattle.std.proofs.Common.{length}
use Rattle.noise_handshake.proofs.reader.+read_tokens.Given as goal

abbrev pub decreases-read_tokens : goal.decreases-read_tokens
decreases-read_tokens g l = length l.placed.now
