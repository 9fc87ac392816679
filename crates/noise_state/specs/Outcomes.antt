-- EncryptAndHash and DecryptAndHash succeed wherever they may.
use Rattle.std.specs.Prelude.{◌≡◌, ◌≤◌, ℕ, List, length, Err, is_some, refl}
use Rattle.std.proofs.Common.{arith}
use Rattle.noise_state.specs.declared.symmetric.SymmetricState.{SymmetricState}
use Rattle.noise_state.specs.declared.cipher.CipherFault.{CipherFault}
use Rattle.noise_state.specs.declared.cipher.CipherFault.TheVariants.{Exhausted, Tag, Short, TooLong}
use Rattle.noise_state.specs.Cipher.{HasNonce, EncryptRefused, sealed_len}
use Rattle.noise_state.specs.Symmetric.{DecryptsAndHashes, ciphertext}
use Rattle.noise_state.specs.Ciphertexts.{tagged}

-- with a nonce left, no text is refused whose ciphertext has at most 65535 bytes
pub encrypts-not : (s : SymmetricState) (len : ℕ) (fault : CipherFault) → EncryptRefused (is_some s.cipher.key) s.cipher.nonce len fault
    → HasNonce (is_some s.cipher.key) s.cipher.nonce → sealed_len (is_some s.cipher.key) len ≤ 65535 → ⊥
encrypts-not s len Exhausted h left fits = omega (arith, h.1, left h.0)
encrypts-not s len TooLong h left fits = omega (arith, h.1)
encrypts-not s len Short h left fits = h
encrypts-not s len Tag h left fits = h

-- with a nonce left, no text travels as at most 65535 bytes that are refused
pub decrypts-not : (s t : SymmetricState) (buf new : List ℕ) (fault : CipherFault) → DecryptsAndHashes s buf (Err fault) t new
    → HasNonce (is_some s.cipher.key) s.cipher.nonce → length buf ≤ 65535 → (text : List ℕ) → buf ≡ ciphertext s text → ⊥
decrypts-not s t buf new Exhausted h left fits text e = omega (arith, h.0.1, left h.0.0)
decrypts-not s t buf new TooLong h left fits text e = omega (arith, h.0.1)
decrypts-not s t buf new Tag h left fits text e = h.1 refl text e
decrypts-not s t buf new Short h left fits text e =
    omega (arith, h.0.3, tagged s.cipher.key s.cipher.nonce s.hash text buf e h.0.2)
