-- A symmetric state (Noise 5.2), and what each of its calls makes of it.
use Rattle.std.specs.Prelude.{◌≡◌, ◌≤◌, ℕ, ◌-◌, List, [], ◌++◌, length, replicate, take, drop, Some, None, Result, Ok, Err, is_some, nat_le, if◌then◌else◌}
use Rattle.sha2.specs.Sha256.{sha256}
use Rattle.noise_kdf.specs.Hkdf.{first_output, second_output, third_output}
use Rattle.noise_state.specs.declared.symmetric.SymmetricState.{SymmetricState}
use Rattle.noise_state.specs.declared.cipher.CipherState.{CipherState}
use Rattle.noise_state.specs.declared.cipher.CipherFault.{CipherFault}
use Rattle.noise_state.specs.declared.cipher.CipherFault.TheVariants.{Tag}
use Rattle.noise_state.specs.Cipher.{cipher_of, ciphertext_under, next_nonce, sealed_len, HasNonce, EncryptRefused, DecryptRefused}

-- the first hash: the name itself, with zeros up to 32 bytes, or its digest
abbrev pub start_value : List ℕ → List ℕ
start_value name = if nat_le (length name) 32 then name ++ replicate (32 - length name) 0 else sha256 name

-- InitializeSymmetric
abbrev pub initialize : List ℕ → SymmetricState
initialize name = record { chaining_key = start_value name; hash = start_value name; cipher = cipher_of None 0 }

abbrev pub mix_hash : SymmetricState → List ℕ → SymmetricState
mix_hash s text = record s { hash = sha256 (s.hash ++ text) }

abbrev pub mix_key : SymmetricState → List ℕ → SymmetricState
mix_key s input = record s {
  chaining_key = first_output s.chaining_key input;
  cipher = cipher_of (Some (second_output s.chaining_key input)) 0;
}

abbrev pub mix_key_and_hash : SymmetricState → List ℕ → SymmetricState
mix_key_and_hash s input = record {
  chaining_key = first_output s.chaining_key input;
  hash = sha256 (s.hash ++ second_output s.chaining_key input);
  cipher = cipher_of (Some (third_output s.chaining_key input)) 0;
}

-- how a text travels now: as it is without a key, else sealed at the nonce with the hash as associated data
abbrev pub ciphertext : SymmetricState → List ℕ → List ℕ
ciphertext s text = ciphertext_under s.cipher.key s.cipher.nonce s.hash text

-- the state after EncryptAndHash or DecryptAndHash of a text that travels as these bytes
abbrev pub after_ciphertext : SymmetricState → List ℕ → SymmetricState
after_ciphertext s bytes = record s {
  hash = sha256 (s.hash ++ bytes);
  cipher = cipher_of s.cipher.key (next_nonce (is_some s.cipher.key) s.cipher.nonce);
}

-- What EncryptAndHash does with the first `len` bytes of a buffer: they travel as their ciphertext, and the rest stays;
-- or nothing changes, for this fault.
abbrev pub EncryptsAndHashes : SymmetricState → ℕ → List ℕ → Result ℕ CipherFault → SymmetricState → List ℕ → Type 0
EncryptsAndHashes s len buf (Ok n) t new =
    HasNonce (is_some s.cipher.key) s.cipher.nonce
    × (n ≡ sealed_len (is_some s.cipher.key) len) × (n ≤ 65535) × (n ≤ length new)
    × (take n new ≡ ciphertext s (take len buf)) × (drop n new ≡ drop n buf)
    × (t ≡ after_ciphertext s (ciphertext s (take len buf)))
EncryptsAndHashes s len buf (Err fault) t new =
    EncryptRefused (is_some s.cipher.key) s.cipher.nonce len fault × (t ≡ s) × (new ≡ buf)

-- What DecryptAndHash does with a buffer: the text that travelled stands at its front; or nothing changes, for this
-- fault, and at Tag no text travels as these bytes.
abbrev pub DecryptsAndHashes : SymmetricState → List ℕ → Result ℕ CipherFault → SymmetricState → List ℕ → Type 0
DecryptsAndHashes s buf (Ok n) t new =
    HasNonce (is_some s.cipher.key) s.cipher.nonce × (length buf ≤ 65535)
    × (sealed_len (is_some s.cipher.key) n ≡ length buf) × (n ≤ length new)
    × (buf ≡ ciphertext s (take n new)) × (drop n new ≡ drop n buf)
    × (t ≡ after_ciphertext s buf)
DecryptsAndHashes s buf (Err fault) t new =
    DecryptRefused (is_some s.cipher.key) s.cipher.nonce (length buf) fault
    × (fault ≡ Tag → (text : List ℕ) → buf ≡ ciphertext s text → ⊥)
    × (t ≡ s) × (new ≡ buf)

-- the keys of Split: of the initiator's messages, and of the responder's
abbrev pub initiator_key : SymmetricState → List ℕ
initiator_key s = first_output s.chaining_key []

abbrev pub responder_key : SymmetricState → List ℕ
responder_key s = second_output s.chaining_key []

-- Split: the cipher state of the initiator's messages, and that of the responder's
abbrev pub split : SymmetricState → CipherState × CipherState
split s = (cipher_of (Some (initiator_key s)) 0, cipher_of (Some (responder_key s)) 0)
