use Rattle.std.proofs.Common.{length}
use Rattle.noise_handshake.proofs.writer.+write_lacking.Given as goal

abbrev pub decreases-write_lacking : goal.decreases-write_lacking
decreases-write_lacking g l = length l.placed.now
