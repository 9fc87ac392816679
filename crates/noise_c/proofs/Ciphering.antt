-- A message whose tag is wrong is no text's.
use Rattle.std.proofs.Common.{◌≡◌, ◌≤◌, ℕ, List, length, ap, sym, ◌∙◌, refl}
use Rattle.noise_c.proofs.Common.{ciphertext_under}
use Rattle.noise_state.specs.declared.cipher.CipherState.{CipherState}
use Rattle.noise_state.specs.declared.cipher.CipherFault.{CipherFault}
use Rattle.noise_state.specs.Cipher.{key_in, keyed_in, nonce_in, HasNonce, DecryptRefused}
use Rattle.noise_c.specs.declared.structs.NoiseCipher.{NoiseCipher}
use Rattle.noise_c.specs.CipherStructs.{cipher_from_c, encrypted}
use Rattle.noise_c.specs.TransportCodes.{cipher_code}
use Rattle.noise_c.proofs.Numbers.{other}
use Rattle.noise_state.specs.declared.cipher.CipherFault.TheVariants as cipher

-- with a nonce left the bytes are no text's, if they are at most 65535
abbrev Forged : CipherState → List ℕ → List ℕ → Type 0
Forged c ad message = HasNonce (keyed_in c) (nonce_in c) → length message ≤ 65535
    → (text : List ℕ) → message ≡ ciphertext_under (key_in c) (nonce_in c) ad text → ⊥

refused : (c : CipherState) (ad message : List ℕ) (fault : CipherFault) → cipher_code fault ≡ 16
    → DecryptRefused (keyed_in c) (nonce_in c) (length message) fault → Forged c ad message
    → (text : List ℕ) → message ≡ ciphertext_under (key_in c) (nonce_in c) ad text → ⊥
refused c ad message cipher.TooLong e r never text same = other 11 16 refl e
refused c ad message cipher.Short e r never text same = other 15 16 refl e
refused c ad message cipher.Exhausted e r never text same = other 17 16 refl e
refused c ad message cipher.Tag e r never text same = never r.0 r.1 text same

pub forged : (k : NoiseCipher) (c : CipherState) (ad message : List ℕ) (fault : CipherFault) (code : ℕ) → c ≡ cipher_from_c k → code ≡ cipher_code fault
    → DecryptRefused (keyed_in c) (nonce_in c) (length message) fault → Forged c ad message
    → code ≡ 16 → (text : List ℕ) → message ≡ encrypted k ad text → ⊥
forged k c ad message fault code stored is r never e text same =
    refused c ad message fault (sym is ∙ e) r never text (same ∙ ap (λ (z : CipherState). ciphertext_under (key_in z) (nonce_in z) ad text) (sym stored))
