-- What is shown of a key schedule (Noise, 5.2).
use Rattle.noise_state.specs.declared.symmetric.SymmetricState.{SymmetricState}
use Rattle.noise_trace.specs.declared.values.StateValues.{StateValues}

-- the hash, the chaining key, the key and the nonce of a state
abbrev pub values_of : SymmetricState → StateValues
values_of s = record { hash = s.hash; chaining_key = s.chaining_key; key = s.cipher.key; nonce = s.cipher.nonce }
