-- What the struct of a cipher state matches (Noise 5.1, 5.2 and 7.4).
use Rattle.std.specs.Prelude.{◌≡◌, ◌≢◌, ◌⊎◌, ◌<◌, ℕ, ◌==◌, ◌+◌, nat_lt, not, ◌&&◌, ◌||◌, Bool, Option, Some, None, MatchOption, List, length, take, drop, replicate, if◌then◌else◌}
use Rattle.noise_names.specs.declared.token.Role.TheVariants.{Initiator, Responder}
use Rattle.noise_names.specs.Tokens.{other, same_role}
use Rattle.noise_names.specs.Plan.{is_one_way}
use Rattle.noise_state.specs.declared.cipher.CipherState.{CipherState}
use Rattle.noise_state.specs.Cipher.{cipher_of}
use Rattle.noise_aead.specs.Sealing.{sealed, nonce_of}
use Rattle.noise_handshake.specs.Party.{Party}
use Rattle.noise_session.specs.Transport.{split_key, last_nonce}
use Rattle.noise_c.specs.declared.structs.NoiseCipher.{NoiseCipher}
use Rattle.noise_c.specs.declared.structs.NoiseResult.{NoiseResult}
use Rattle.noise_c.specs.declared.codes.numbers.TheConstants.{EXHAUSTED, LENGTH, OK, ONE_WAY, RECEIVING_CIPHER, ROOM, SENDING_CIPHER, SHORT, STRUCT, TAG, TOO_LONG}

-- the cipher state
abbrev pub cipher_from_c : NoiseCipher → CipherState
cipher_from_c k = cipher_of (Some k.key) k.nonce

-- what a text becomes under its key and nonce, with this associated data (5.1)
abbrev pub encrypted : NoiseCipher → List ℕ → List ℕ → List ℕ
encrypted k ad text = sealed k.key (nonce_of k.nonce) ad text

-- a call has left it, for one of the two directions
abbrev pub is_cipher : NoiseCipher → Bool
is_cipher k = (k.mark == SENDING_CIPHER) || (k.mark == RECEIVING_CIPHER)

-- the number of a struct that holds no cipher state: it is no such struct, or was discarded (7.4)
abbrev pub struct_code : Bool → NoiseCipher → ℕ
struct_code known k = if not known then STRUCT else if not (k.one_way == 0) then ONE_WAY else OK

-- a cipher state with this key at nonce 0; none where it is discarded
abbrev pub begun_cipher : ℕ → Bool → List ℕ → NoiseCipher
begun_cipher mark discarded key =
    if discarded then record { mark = mark; one_way = 1; key = replicate 32 0; nonce = 0 }
    else record { mark = mark; one_way = 0; key = key; nonce = 0 }

-- those of Split (5.2) for the messages that a party writes and for those that it reads; a one-way pattern discards the
-- responder's (7.4)
abbrev pub sending_cipher : Party → NoiseCipher
sending_cipher v = begun_cipher SENDING_CIPHER (is_one_way v.pattern && same_role v.role Responder)
    (split_key v.state v.role)

abbrev pub receiving_cipher : Party → NoiseCipher
receiving_cipher v = begun_cipher RECEIVING_CIPHER (is_one_way v.pattern && same_role v.role Initiator)
    (split_key v.state (other v.role))

-- the number of encryption, by the lengths of the associated data, of the text and of what there is room for
abbrev pub encrypt_code : NoiseCipher → ℕ → ℕ → ℕ → ℕ
encrypt_code k ad text room =
    if not (k.mark == SENDING_CIPHER) then STRUCT
    else if not (k.one_way == 0) then ONE_WAY
    else if nat_lt 65535 ad then LENGTH
    else if nat_lt room (text + 16) then ROOM
    else if k.nonce == last_nonce then EXHAUSTED
    else if nat_lt 65535 (text + 16) then TOO_LONG
    else OK

-- the number of a message of this length that isn't looked into, by that of the associated data too
abbrev pub decrypt_refusal : NoiseCipher → ℕ → ℕ → Option ℕ
decrypt_refusal k ad message =
    if not (k.mark == RECEIVING_CIPHER) then Some STRUCT
    else if not (k.one_way == 0) then Some ONE_WAY
    else if nat_lt 65535 ad then Some LENGTH
    else if k.nonce == last_nonce then Some EXHAUSTED
    else if nat_lt 65535 message then Some TOO_LONG
    else if nat_lt message 16 then Some SHORT
    else None

-- it is no text's, with this associated data
abbrev pub IsNoneOf : NoiseCipher → List ℕ → List ℕ → Type 0
IsNoneOf k ad message = (text : List ℕ) → message ≢ encrypted k ad text

-- the numbers of encryption and of decryption
abbrev pub IsEncryptCode : ℕ → Type 0
IsEncryptCode n = (n ≡ OK) ⊎ (n ≡ TOO_LONG) ⊎ (n ≡ EXHAUSTED) ⊎ (n ≡ ROOM) ⊎ (n ≡ ONE_WAY) ⊎ (n ≡ STRUCT) ⊎ (n ≡ LENGTH)

abbrev pub IsDecryptCode : ℕ → Type 0
IsDecryptCode n = (n ≡ OK) ⊎ (n ≡ TOO_LONG) ⊎ (n ≡ SHORT) ⊎ (n ≡ TAG) ⊎ (n ≡ EXHAUSTED) ⊎ (n ≡ ONE_WAY) ⊎ (n ≡ STRUCT)
    ⊎ (n ≡ LENGTH)

-- A text of n bytes is encrypted in place in a buffer, or what is wrong is the number.
pub record Encrypts (ad text : List ℕ) (n : ℕ) (old new : NoiseCipher) (buffer after : List ℕ)
    (results next : NoiseResult) (code : ℕ) : Type 0 where
  pub code_is : code ≡ encrypt_code old (length ad) n (length buffer)
  pub place : code ≡ OK → next ≡ record results { from = 0; len = n + 16 }
  pub encrypts : code ≡ OK → take (n + 16) after ≡ encrypted old ad text
  pub beyond : drop (n + 16) after ≡ drop (n + 16) buffer
  pub counted : code ≡ OK → new ≡ record old { nonce = old.nonce + 1 }
  pub unchanged : OK < code → (new ≡ old) × (after ≡ buffer) × (next ≡ results)
  pub codes : IsEncryptCode code

-- A message is decrypted in place, or what is wrong is the number.
pub record Decrypts (ad : List ℕ) (old new : NoiseCipher) (message after : List ℕ)
    (results next : NoiseResult) (code : ℕ) : Type 0 where
  pub code_is : MatchOption (decrypt_refusal old (length ad) (length message))
      ((code ≡ OK) ⊎ (code ≡ TAG)) (λ refusal. code ≡ refusal)
  pub place : code ≡ OK → (next ≡ record results { from = 0; len = next.len }) × (next.len + 16 ≡ length after)
  pub decrypts : code ≡ OK → message ≡ encrypted old ad (take next.len after)
  pub beyond : code ≡ OK → drop next.len after ≡ drop next.len message
  pub counted : code ≡ OK → new ≡ record old { nonce = old.nonce + 1 }
  pub unchanged : OK < code → (new ≡ old) × (after ≡ message) × (next ≡ results)
  pub codes : IsDecryptCode code
