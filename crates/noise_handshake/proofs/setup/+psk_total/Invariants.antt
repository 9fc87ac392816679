use Rattle.std.proofs.Common.{length}
use Rattle.noise_handshake.proofs.setup.+psk_total.Given as goal

abbrev pub decreases-psk_total : goal.decreases-psk_total
decreases-psk_total l = length l.messages.now
