use Rattle.std.proofs.Common.{length}
use Rattle.noise_handshake.proofs.setup.+mix_premessage.Given as goal

abbrev pub decreases-mix_premessage : goal.decreases-mix_premessage
decreases-mix_premessage l = length l.tokens.now
