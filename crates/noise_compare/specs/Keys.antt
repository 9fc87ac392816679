-- The values that mistakes of Split and of Rekey give.
use Rattle.std.specs.Prelude.{ℕ, ◌&&◌, ◌||◌, Bool, false, not, List, [], Option, Some, None, count_by, drop, nat_lt, replicate, take}
use Rattle.std.specs.Str.{bytes_eq}
use Rattle.noise_aead.specs.Sealing.{nonce_of, rekeyed}
use Rattle.noise_kdf.specs.Hkdf.{first_output, second_output, third_output}
use Rattle.noise_compare.specs.Mixing.{with_hash}
use Rattle.noise_compare.specs.Secrets.{with_nonce}
use Rattle.noise_compare.specs.States.{has, fits, nonce_fits}
use Rattle.noise_compare.specs.Texts.{one_more, sealed_under}
use Rattle.noise_compare.specs.declared.state.Situation.{Situation}
use Rattle.noise_compare.specs.declared.state.Logged.{Logged}
use Rattle.noise_compare.specs.declared.mistake.KeyMistake.{KeyMistake}
use Rattle.noise_compare.specs.declared.mistake.KeyMistake.TheVariants.{SplitLater, SplitOfHash, SplitOfZeros, SplitInputs, Exchanged, NonceFromOne, EarlierHash, NonceRaised, NonceSetBack, RekeyLater, RekeyLeftOut, RekeyByNonce, RekeyByZero, RekeyByOnes, RekeyLastBytes}

-- the right state with another key
abbrev pub fits_with_key : Situation → Logged → List ℕ → Bool
fits_with_key at logged key = has logged.bytes at.bytes.now && has logged.hash at.right.hash
    && has logged.chaining_key at.right.chaining_key && has logged.key key && nonce_fits logged.nonce at.right.nonce

-- Split's keys, where HKDF takes these two in place of the chaining key and no bytes
abbrev pub split_explains : Situation → Logged → List ℕ → List ℕ → Bool
split_explains at logged key input = fits_with_key at logged (first_output key input)
    || fits_with_key at logged (second_output key input)

-- its second and third outputs, where its inputs are right
abbrev pub later_outputs_explain : Situation → Logged → Bool
later_outputs_explain at logged = fits_with_key at logged (second_output at.right.chaining_key [])
    || fits_with_key at logged (third_output at.right.chaining_key [])

abbrev pub is_key : Option (List ℕ) → List ℕ → Bool
is_key None other = false
is_key (Some key) other = bytes_eq key other

-- the right key is the one after Rekey of this one
abbrev pub precedes : Situation → List ℕ → Bool
precedes at key = is_key at.right.key (rekeyed key)

abbrev pub key_before_fits : Situation → Logged → List ℕ → Bool
key_before_fits at logged key = fits_with_key at logged key && precedes at key

abbrev pub other_key_fits : Situation → Logged → List ℕ → Bool
other_key_fits at logged key = fits_with_key at logged key && not (precedes at key)

-- the key before Rekey gives the logged values
abbrev pub key_before_explains : Situation → Logged → Bool
key_before_explains at logged = nat_lt 0 (count_by (λ key. key_before_fits at logged key) at.keys.now)

-- another key of the transport gives them
abbrev pub other_key_explains : Situation → Logged → Bool
other_key_explains at logged = nat_lt 0 (count_by (λ key. other_key_fits at logged key) at.keys.now)

-- the hash before some step gives them
abbrev pub earlier_hash_fits : Situation → Logged → Bool
earlier_hash_fits at logged = nat_lt 0 (count_by (λ hash. fits logged at.bytes.now (with_hash at.right hash)) at.hashes.now)

-- Rekey is left out: the state is that before it, or its key is
abbrev pub left_out_explains : Situation → Logged → Bool
left_out_explains at logged = fits logged at.bytes.now at.before || key_before_explains at logged

-- the key is 32 bytes, from this place on, of 32 zeros that are encrypted under the key before with this nonce: 48 bytes
-- (Rekey, Noise 4.2)
abbrev pub rekey_explains : Situation → Logged → List ℕ → ℕ → Bool
rekey_explains at logged nonce from =
    fits_with_key at logged (take 32 (drop from (sealed_under at.before.key nonce [] (replicate 32 0))))

unfoldable pub key_explains : KeyMistake → Situation → Logged → Bool
key_explains SplitLater at logged = later_outputs_explain at logged
key_explains SplitOfHash at logged = split_explains at logged at.right.chaining_key at.right.hash
key_explains SplitOfZeros at logged = split_explains at logged at.right.chaining_key (replicate 32 0)
-- HMAC pads a key of no bytes and one of 32 zeros to the same
key_explains SplitInputs at logged = split_explains at logged (replicate 32 0) at.right.chaining_key
key_explains Exchanged at logged = other_key_explains at logged
key_explains NonceFromOne at logged = fits logged at.bytes.now (with_nonce at.right (one_more at.right.nonce))
key_explains EarlierHash at logged = earlier_hash_fits at logged
key_explains NonceRaised at logged = fits logged at.bytes.now (with_nonce at.right (one_more at.right.nonce))
key_explains NonceSetBack at logged = fits logged at.bytes.now (with_nonce at.right 0)
key_explains RekeyLater at logged = key_before_explains at logged
key_explains RekeyLeftOut at logged = left_out_explains at logged
key_explains RekeyByNonce at logged = rekey_explains at logged (nonce_of at.right.nonce) 0
key_explains RekeyByZero at logged = rekey_explains at logged (nonce_of 0) 0
key_explains RekeyByOnes at logged = rekey_explains at logged (replicate 12 255) 0
key_explains RekeyLastBytes at logged = rekey_explains at logged (nonce_of 0xffff_ffff_ffff_ffff) 16
