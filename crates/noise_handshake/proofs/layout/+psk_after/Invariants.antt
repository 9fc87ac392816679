use Rattle.std.proofs.Common.{length}
use Rattle.noise_handshake.proofs.layout.+psk_after.Given as goal

abbrev pub decreases-psk_after : goal.decreases-psk_after
decreases-psk_after l = length l.placed.now
