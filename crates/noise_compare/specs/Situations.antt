-- The step of a right line, by the facts of its run and the right lines before it.
use Rattle.std.specs.Prelude.{◌≡◌, ◌⊎◌, ◌≤◌, ℕ, ◌-◌, ◌==◌, ◌++◌, Bool, List, [], Option, Some, None, codes, find, if◌then◌else◌, length, option_map, replicate, slice_get, take, unwrap_or}
use Rattle.std.specs.Str.{bytes_eq}
use Rattle.sha2.specs.Sha256.{sha256}
use Rattle.noise_aead.specs.Sealing.{nonce_of, sealed}
use Rattle.noise_kdf.specs.Hkdf.{first_output}
use Rattle.noise_compare.specs.Lines.{word_at, words_in}
use Rattle.noise_compare.specs.Steps.{hashes_in, last_state, states_before, transport_keys}
use Rattle.noise_compare.specs.Values.{kind_in, state_in, word_bytes}
use Rattle.noise_compare.specs.declared.facts.Facts.{Facts}
use Rattle.noise_compare.specs.declared.line.Line.{Line}
use Rattle.noise_compare.specs.declared.state.Kind.{Kind}
use Rattle.noise_compare.specs.declared.state.Kind.TheVariants as kind
use Rattle.noise_compare.specs.declared.state.Situation.{Situation}
use Rattle.noise_compare.specs.declared.state.State.{State}

-- the state after the last right line that the log's party has, where the lines from this place on are left; that before
-- the step, where it has none
abbrev pub agreed_state : List Line → ℕ → State → State
agreed_state right left before =
    if left == 0 then before else unwrap_or (option_map state_in (slice_get right (left - 1))) before

-- a secret of the run gives the chaining key after the step (4.3)
abbrev pub gives_chaining_key : State → State → List ℕ → Bool
gives_chaining_key before after secret = bytes_eq (first_output before.chaining_key secret) after.chaining_key

-- the first of them that does, or zeros
abbrev pub secret_among : List (List ℕ) → State → State → List ℕ
secret_among secrets before after = unwrap_or (find (gives_chaining_key before after) secrets) (replicate 32 0)

-- the DH result of a DH token, or the psk of a psk
abbrev pub secret_of : Facts → Kind → State → State → List ℕ
secret_of facts kind.Agreement before after = secret_among facts.results.items before after
secret_of facts kind.Secret before after = secret_among facts.psks.items before after
secret_of facts other before after = replicate 32 0

-- all secrets of the run that the step may take
abbrev pub secrets_of : Facts → Kind → List (List ℕ)
secrets_of facts kind.Secret = facts.psks.items
secrets_of facts other = facts.results.items

-- a public key gives the hash after MixHash (5.2)
abbrev pub gives_hash : State → State → List ℕ → Bool
gives_hash before after key = bytes_eq (sha256 (before.hash ++ key)) after.hash

-- the first of these keys that does, or nothing
abbrev pub public_among : List (List ℕ) → State → State → List ℕ
public_among publics before after = unwrap_or (find (gives_hash before after) publics) []

-- what MixHash takes: the prologue, the public key of a pre-message, or the bytes
abbrev pub data_of : Facts → Line → State → State → List ℕ → List ℕ
data_of facts expected before after bytes = if bytes_eq (word_at (words_in expected) 4) (codes "prologue") then facts.prologue.items
    else (if bytes_eq (word_at (words_in expected) 2) (codes "start")
    then public_among facts.publics.items before after else bytes)

-- the text is encrypted to these bytes, under a key and the state before the step (5.1)
abbrev pub IsOpened : List ℕ → State → List ℕ → List ℕ → Type 0
IsOpened key before bytes text = bytes ≡ sealed key (nonce_of before.nonce) before.hash text

-- Without a key the text of bytes is they themselves. With one it is what is encrypted to them, if something is; no
-- message has more than 65535 of them.
abbrev pub IsWholeText : Option (List ℕ) → State → List ℕ → List ℕ → Type 0
IsWholeText None before bytes text = text ≡ bytes
IsWholeText (Some key) before bytes text = IsOpened key before bytes text
    ⊎ ((text ≡ bytes) × (length bytes ≤ 65535 → (other : List ℕ) → IsOpened key before bytes other → ⊥))

-- the text of a step's bytes, and no more of it than a message has
pub record IsTextOf (before : State) (bytes text : List ℕ) : Type 0 where
  pub whole : List ℕ
  pub whole_is : IsWholeText before.key before bytes whole
  pub text_is : text ≡ take 65535 whole

-- This is the step of a right line: what it is, the states before and after it, its bytes and their text, its DH result
-- or psk, the hashes before it, the keys of the transport, and what the file has. The log's party has the right lines up
-- to a place.
pub record IsSituation (facts : Facts) (right : List Line) (left : ℕ) (expected : Line) (at : Situation) : Type 0 where
  pub kind : at.kind ≡ kind_in expected
  pub before : at.before ≡ last_state (states_before right expected) (state_in expected)
  pub agreed : at.agreed ≡ agreed_state right left (last_state (states_before right expected) (state_in expected))
  pub after : at.right ≡ state_in expected
  pub bytes : at.bytes.now ≡ word_bytes (word_at (words_in expected) 7)
  pub data_is : at.data.now ≡ take 65535 (data_of facts expected (last_state (states_before right expected) (state_in expected))
      (state_in expected) (word_bytes (word_at (words_in expected) 7)))
  pub text : IsTextOf (last_state (states_before right expected) (state_in expected))
      (word_bytes (word_at (words_in expected) 7)) at.text.now
  pub secret : at.secret ≡ secret_of facts (kind_in expected)
      (last_state (states_before right expected) (state_in expected)) (state_in expected)
  pub secrets : at.secrets.now ≡ secrets_of facts (kind_in expected)
  pub name : at.name.now ≡ facts.name.items
  pub publics : at.publics.now ≡ facts.publics.items
  pub hashes : at.hashes.now ≡ hashes_in (states_before right expected)
  pub keys : at.keys.now ≡ transport_keys right
