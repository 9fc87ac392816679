-- Why a payload isn't written, whatever the keys agree on.
use Rattle.std.proofs.Common.{rules, ◌≡◌, ℕ, ◌+◌, ◌<◌, ◌≤◌, true, length}
use Rattle.std.specs.Prelude.{nat_lt}
use Rattle.noise_handshake.proofs.Common.{Some, overhead_of, WriteFault, HandshakeValue, length_now, write_fault, DoesNotWrite, party_of}
use Rattle.noise_keys.specs.Keys.{KeyPairs}

module _ {K : Type 0} (pairs : K → KeyPairs) (h : HandshakeValue K) (within : h.passed ≤ length h.pattern.messages) (payload : ℕ) where
  long : nat_lt 65535 (length_now h payload) ≡ true → 65535 < overhead_of h.pattern (h.passed + 1) + payload
  long e = search rules

  pub withholds-of : (f : WriteFault) → write_fault h payload ≡ Some f → DoesNotWrite (party_of pairs h) payload f
  withholds-of f e = search rules
