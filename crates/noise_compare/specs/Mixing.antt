-- The values that mistakes of the start and of MixHash give.
use Rattle.std.specs.Prelude.{ℕ, ◌-◌, ◌&&◌, ◌||◌, Bool, List, ◌++◌, Some, count_by, length, map, nat_le, nat_lt, replicate, take, if◌then◌else◌}
use Rattle.std.specs.Char.{to_ascii_lowercase}
use Rattle.std.specs.Str.{bytes_eq}
use Rattle.std.specs.Int.{w16, w32, to_be_bytes, to_le_bytes}
use Rattle.hex.specs.Hex.{encode_lower}
use Rattle.sha2.specs.Sha256.{sha256}
use Rattle.noise_kdf.specs.Hkdf.{first_output, second_output}
use Rattle.noise_compare.specs.States.{fits, has, key_fits, nonce_fits}
use Rattle.noise_compare.specs.declared.state.State.{State}
use Rattle.noise_compare.specs.declared.state.Situation.{Situation}
use Rattle.noise_compare.specs.declared.state.Logged.{Logged}
use Rattle.noise_compare.specs.declared.mistake.NameMistake.{NameMistake}
use Rattle.noise_compare.specs.declared.mistake.NameMistake.TheVariants.{Hashed, Padded, LowerCase, ChainingKeyOfZeros}
use Rattle.noise_compare.specs.declared.mistake.HashMistake.{HashMistake}
use Rattle.noise_compare.specs.declared.mistake.HashMistake.TheVariants.{LeftOut, LengthInFront, LengthMixed, DataFirst, KeyLeftOut, KeyMixed, OtherKey, HexDigits, StepsLeftOut}

-- 32 bytes of a text: cut, or with zeros after it
abbrev pub padded : List ℕ → List ℕ
padded text = take 32 text ++ replicate (32 - length text) 0

-- the hash with which a handshake of this name begins (Noise 5.2)
abbrev pub first_hash : List ℕ → List ℕ
first_hash name = if nat_le (length name) 32 then padded name else sha256 name

-- the hash and the chaining key are these, and all else is right
abbrev pub start_fits : Situation → Logged → List ℕ → List ℕ → Bool
start_fits at logged hash chaining_key = has logged.bytes at.bytes.now && has logged.hash hash
    && has logged.chaining_key chaining_key && key_fits logged.key at.right.key && nonce_fits logged.nonce at.right.nonce

unfoldable pub name_explains : NameMistake → Situation → Logged → Bool
name_explains Hashed at logged = start_fits at logged (sha256 at.name.now) (sha256 at.name.now)
name_explains Padded at logged = start_fits at logged (padded at.name.now) (padded at.name.now)
name_explains LowerCase at logged = start_fits at logged (first_hash (map to_ascii_lowercase at.name.now))
    (first_hash (map to_ascii_lowercase at.name.now))
name_explains ChainingKeyOfZeros at logged = start_fits at logged at.right.hash (replicate 32 0)

-- ---- MixHash

-- a state with another hash
abbrev pub with_hash : State → List ℕ → State
with_hash state hash = record state { hash = hash }

-- MixKey of an input, from this chaining key
abbrev pub with_key : State → List ℕ → List ℕ → State
with_key state chaining_key input = record {
  hash = state.hash;
  chaining_key = first_output chaining_key input;
  key = Some (second_output chaining_key input);
  nonce = 0;
}

-- MixHash of the data, and MixKey too where the right step changes the chaining key
abbrev pub redone : Situation → State
redone at = if bytes_eq at.right.chaining_key at.before.chaining_key
    then with_hash at.agreed (sha256 (at.agreed.hash ++ at.data.now))
    else with_key (with_hash at.agreed (sha256 (at.agreed.hash ++ at.data.now))) at.agreed.chaining_key at.data.now

-- this length and the bytes go into one MixHash, or each into one of its own
abbrev pub length_in_front : Situation → List ℕ → State
length_in_front at front = with_hash at.right (sha256 (at.before.hash ++ front ++ at.data.now))

abbrev pub length_mixed : Situation → List ℕ → State
length_mixed at front = with_hash at.right (sha256 (sha256 (at.before.hash ++ front) ++ at.data.now))

-- one of the lengths of a text gives it: 2 or 4 bytes, big-endian or little-endian
abbrev pub by_a_length : List ℕ → (List ℕ → Bool) → Bool
by_a_length text gives = gives (to_be_bytes w16 (length text)) || gives (to_le_bytes w16 (length text))
    || gives (to_be_bytes w32 (length text)) || gives (to_le_bytes w32 (length text))

abbrev pub length_in_front_explains : Situation → Logged → Bool
length_in_front_explains at logged = by_a_length at.data.now (λ front. fits logged at.bytes.now (length_in_front at front))

abbrev pub length_mixed_explains : Situation → Logged → Bool
length_mixed_explains at logged = by_a_length at.data.now (λ front. fits logged at.bytes.now (length_mixed at front))

-- the right state, with the hash of these bytes
abbrev pub hashed : Situation → List ℕ → State
hashed at bytes = with_hash at.right (sha256 (at.before.hash ++ bytes))

-- some public key of the file, in place of the step's, gives the logged values
abbrev pub other_public_explains : Situation → Logged → Bool
other_public_explains at logged = nat_lt 0 (count_by (λ key. fits logged at.bytes.now (hashed at key)) at.publics.now)

-- so do the hex digits of the data, as text
abbrev pub digits_explain : Situation → Logged → Bool
digits_explain at logged = fits logged at.bytes.now (hashed at (encode_lower at.data.now))

-- what a mistake gives; those of lengths, of keys and of digits are above
unfoldable pub hash_state : HashMistake → Situation → State
hash_state LeftOut at = with_hash at.right at.before.hash
hash_state LengthInFront at = at.right
hash_state LengthMixed at = at.right
hash_state DataFirst at = with_hash at.right (sha256 (at.data.now ++ at.before.hash))
hash_state KeyLeftOut at = with_hash at.before at.right.hash
hash_state KeyMixed at = with_key at.right at.before.chaining_key at.data.now
hash_state OtherKey at = at.right
hash_state HexDigits at = at.right
hash_state StepsLeftOut at = redone at

unfoldable pub hash_explains : HashMistake → Situation → Logged → Bool
hash_explains LengthInFront at logged = length_in_front_explains at logged
hash_explains LengthMixed at logged = length_mixed_explains at logged
hash_explains OtherKey at logged = other_public_explains at logged
hash_explains HexDigits at logged = digits_explain at logged
hash_explains mistake at logged = fits logged at.bytes.now (hash_state mistake at)
