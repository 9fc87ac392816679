-- Tags of the symmetric state.
use Rattle.std.proofs.Common.{◌≡◌, ℕ, ◌+◌, refl, arith}
use Rattle.std.specs.Prelude.{Bool, true, false}
use Rattle.noise_handshake.proofs.Common.{tag_width}
use Rattle.noise_state.specs.Cipher.{sealed_len}

-- a text with its tag
pub sealed_len-tag : (keyed : Bool) (n : ℕ) → sealed_len keyed n ≡ n + tag_width keyed
sealed_len-tag true n = refl
sealed_len-tag false n = omega arith
