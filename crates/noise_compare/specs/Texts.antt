-- The values that mistakes of `s` and of a payload give.
use Rattle.std.specs.Prelude.{ℕ, ◌+◌, ◌-◌, ◌||◌, Bool, List, [], ◌∷◌, ◌++◌, Option, Some, None, count_by, drop, length, nat_lt, replicate, take, if◌then◌else◌}
use Rattle.std.specs.Int.{w64, to_be_bytes, to_le_bytes}
use Rattle.sha2.specs.Sha256.{sha256}
use Rattle.noise_aead.specs.Sealing.{nonce_of, sealed}
use Rattle.noise_compare.specs.Mixing.{hashed, length_in_front_explains, length_mixed_explains, redone, with_hash}
use Rattle.noise_compare.specs.Secrets.{with_nonce}
use Rattle.noise_compare.specs.States.{fits}
use Rattle.noise_compare.specs.declared.state.State.{State}
use Rattle.noise_compare.specs.declared.state.Situation.{Situation}
use Rattle.noise_compare.specs.declared.state.Logged.{Logged}
use Rattle.noise_compare.specs.declared.mistake.TextMistake.{TextMistake}
use Rattle.noise_compare.specs.declared.mistake.TextMistake.TheVariants.{Clear, OtherKey, TagLeftOff, TagAdded, TagInFront, BigEndian, FirstBytes, BigEndianFirstBytes, NonceFromOne, NonceOfZero, NoAssociatedData, ChainingKeyAsData, EarlierHash, LaterHash, TextHashedBefore, HashLeftOut, TextHashed, TagNotHashed, LengthHashed, LengthMixed, NonceKept, NonceRaised, StepsLeftOut}

-- a text under this key, if there is one
abbrev pub sealed_under : Option (List ℕ) → List ℕ → List ℕ → List ℕ → List ℕ
sealed_under None nonce ad text = text
sealed_under (Some key) nonce ad text = sealed key nonce ad text

-- the text under this nonce and with this associated data, and MixHash of it, are what was logged
abbrev pub bytes_fit : Situation → Logged → List ℕ → Bool
bytes_fit at logged bytes = fits logged bytes (hashed at bytes)

abbrev pub nonce_fits_text : Situation → Logged → List ℕ → Bool
nonce_fits_text at logged nonce = bytes_fit at logged (sealed_under at.before.key nonce at.before.hash at.text.now)

-- so are those of a text under the nonce of a number
abbrev pub sealed_fits : Situation → Logged → ℕ → List ℕ → List ℕ → Bool
sealed_fits at logged n ad text = bytes_fit at logged (sealed_under at.before.key (nonce_of n) ad text)

-- ---- nonces that are none

abbrev pub big_endian : ℕ → List ℕ
big_endian n = 0 ∷ 0 ∷ 0 ∷ 0 ∷ to_be_bytes w64 n

abbrev pub first_bytes : ℕ → List ℕ
first_bytes n = to_le_bytes w64 n ++ 0 ∷ 0 ∷ 0 ∷ 0 ∷ []

abbrev pub big_endian_first_bytes : ℕ → List ℕ
big_endian_first_bytes n = to_be_bytes w64 n ++ 0 ∷ 0 ∷ 0 ∷ 0 ∷ []

-- the number after a nonce, as it fits 8 bytes
abbrev pub one_more : ℕ → ℕ
one_more n = if nat_lt n 0xffff_ffff_ffff_ffff then n + 1 else n

-- the nonce after a text: raised, if there is a key
abbrev pub raised : Option (List ℕ) → ℕ → ℕ
raised None n = n
raised (Some key) n = one_more n

-- ---- what the mistakes give

-- these bytes, and MixHash of them, with a nonce that goes on from where it was or from 0, are what was logged
abbrev pub zero_fits : Situation → Logged → List ℕ → Bool
zero_fits at logged bytes = bytes_fit at logged bytes
    || fits logged bytes (with_nonce (hashed at bytes) (raised at.before.key 0))

-- the text under nonce 0
abbrev pub sealed_by_zero : Situation → List ℕ
sealed_by_zero at = sealed_under at.before.key (nonce_of 0) at.before.hash at.text.now

-- the text after the last line that agrees, without the steps since
abbrev pub sealed_without_steps : Situation → List ℕ
sealed_without_steps at = sealed_under at.agreed.key (nonce_of at.agreed.nonce) at.agreed.hash at.text.now

abbrev pub state_without_steps : Situation → List ℕ → State
state_without_steps at bytes = with_nonce (with_hash at.agreed (sha256 (at.agreed.hash ++ bytes)))
    (raised at.agreed.key at.agreed.nonce)

-- The steps since are left out. A party without a key that reads takes the right bytes in the clear.
abbrev pub without_steps_explains : Situation → Logged → Bool
without_steps_explains at logged = fits logged (sealed_without_steps at) (state_without_steps at (sealed_without_steps at))
    || fits logged at.bytes.now (redone at)

-- the hash before some step, as associated data, gives what was logged
abbrev pub earlier_hash_explains : Situation → Logged → Bool
earlier_hash_explains at logged = nat_lt 0 (count_by (λ hash. sealed_fits at logged at.before.nonce hash at.text.now) at.hashes.now)

-- another public key of the file, as the text, gives it
abbrev pub other_key_explains : Situation → Logged → Bool
other_key_explains at logged = nat_lt 0 (count_by (λ key. sealed_fits at logged at.before.nonce at.before.hash key) at.publics.now)

abbrev pub without_tag : List ℕ → List ℕ
without_tag bytes = take (length bytes - 16) bytes

-- the last 16 bytes, then those before them
abbrev pub tag_first : List ℕ → List ℕ
tag_first bytes = drop (length bytes - 16) bytes ++ take (length bytes - 16) bytes

-- MixHash takes the plain text, and the hash after it is the associated data
abbrev pub hashed_before : Situation → Logged → Bool
hashed_before at logged =
    fits logged (sealed_under at.before.key (nonce_of at.before.nonce) (sha256 (at.before.hash ++ at.text.now)) at.text.now)
    (hashed at at.text.now)

-- the state with a mistake after which the bytes are right
unfoldable pub text_state : TextMistake → Situation → State
text_state HashLeftOut at = with_hash at.right at.before.hash
text_state TextHashed at = hashed at at.text.now
text_state TagNotHashed at = hashed at (without_tag at.bytes.now)
text_state NonceKept at = with_nonce at.right at.before.nonce
text_state NonceRaised at = with_nonce at.right (one_more at.right.nonce)
text_state other at = at.right

unfoldable pub text_explains : TextMistake → Situation → Logged → Bool
text_explains Clear at logged = fits logged at.text.now (with_hash at.before (sha256 (at.before.hash ++ at.text.now)))
text_explains OtherKey at logged = other_key_explains at logged
text_explains TagLeftOff at logged = fits logged (without_tag at.bytes.now)
    (with_hash at.before (sha256 (at.before.hash ++ without_tag at.bytes.now)))
text_explains TagAdded at logged = bytes_fit at logged (at.text.now ++ replicate 16 0)
text_explains TagInFront at logged = bytes_fit at logged (tag_first at.bytes.now)
text_explains BigEndian at logged = nonce_fits_text at logged (big_endian at.before.nonce)
text_explains FirstBytes at logged = nonce_fits_text at logged (first_bytes at.before.nonce)
text_explains BigEndianFirstBytes at logged = nonce_fits_text at logged (big_endian_first_bytes at.before.nonce)
text_explains NonceFromOne at logged = sealed_fits at logged (one_more at.before.nonce) at.before.hash at.text.now
text_explains NonceOfZero at logged = zero_fits at logged (sealed_by_zero at)
text_explains NoAssociatedData at logged = sealed_fits at logged at.before.nonce [] at.text.now
text_explains ChainingKeyAsData at logged = sealed_fits at logged at.before.nonce at.before.chaining_key at.text.now
text_explains EarlierHash at logged = earlier_hash_explains at logged
text_explains LaterHash at logged = sealed_fits at logged at.before.nonce at.right.hash at.text.now
text_explains TextHashedBefore at logged = hashed_before at logged
text_explains LengthHashed at logged = length_in_front_explains at logged
text_explains LengthMixed at logged = length_mixed_explains at logged
text_explains StepsLeftOut at logged = without_steps_explains at logged
text_explains mistake at logged = fits logged at.bytes.now (text_state mistake at)
