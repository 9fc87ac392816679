use Rattle.std.proofs.Common.{length}
use Rattle.noise_handshake.proofs.nonces.+after_messages.Given as goal

abbrev pub decreases-after_messages : goal.decreases-after_messages
decreases-after_messages l = length l.messages.now
