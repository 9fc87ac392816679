use Rattle.std.proofs.Common.{arith, ap, length}
use Rattle.noise_handshake.proofs.Layouts.{length-tokens_of}
use Rattle.noise_handshake.proofs.layout.+psk_after.Goals as goal

pub overflow_add-result : goal.overflow_add-result
overflow_add-result t c =
    omega (arith, c.in_ok-k-in-Psk-default.ensures.place, length-tokens_of c.in_ok-first.later.now, c.requires.few, ap length c.in_ok-first.ensures.cases.0)

pub overflow_add-result-in_default : goal.overflow_add-result-in_default
overflow_add-result-in_default t c =
    omega (arith, c.in_ok-k-in_default.ensures.place.within, length-tokens_of c.in_ok-first.later.now, c.requires.few, ap length c.in_ok-first.ensures.cases.0)
