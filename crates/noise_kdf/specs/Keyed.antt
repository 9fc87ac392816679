-- The two hashers with which HMAC goes on under one key (RFC 2104).
use Rattle.std.specs.Prelude.{ℕ, List, map, bit_xor}
use Rattle.sha2.specs.Hashers.{Holds256}
use Rattle.noise_kdf.specs.Hkdf.{block_key}
use Rattle.noise_kdf.specs.declared.keyed.Hmac.{Hmac}

-- each hasher holds the padded key under its pad
pub record HasHmacKey (h : Hmac) (key : List ℕ) : Type 0 where
  pub inner : Holds256 h.inner (map (λ b. bit_xor b 0x36) (block_key key))
  pub outer : Holds256 h.outer (map (λ b. bit_xor b 0x5c) (block_key key))
