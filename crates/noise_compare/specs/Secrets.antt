-- The values that mistakes of MixKey and MixKeyAndHash give.
use Rattle.std.specs.Prelude.{ℕ, Bool, true, false, List, [], ◌∷◌, ◌++◌, Some, count_by, map, nat_lt, reverse, bit_xor, if◌then◌else◌}
use Rattle.sha2.specs.Sha256.{sha256}
use Rattle.noise_kdf.specs.Hkdf.{first_output, hmac_of, second_output, third_output}
use Rattle.noise_compare.specs.Mixing.{with_hash}
use Rattle.noise_compare.specs.States.{fits}
use Rattle.noise_compare.specs.declared.state.Kind.{Kind}
use Rattle.noise_compare.specs.declared.state.Kind.TheVariants as kind
use Rattle.noise_compare.specs.declared.state.State.{State}
use Rattle.noise_compare.specs.declared.state.Situation.{Situation}
use Rattle.noise_compare.specs.declared.state.Logged.{Logged}
use Rattle.noise_compare.specs.declared.secrets.Outputs.{Outputs}
use Rattle.noise_compare.specs.declared.mistake.SecretMistake.{SecretMistake}
use Rattle.noise_compare.specs.declared.mistake.SecretMistake.TheVariants.{InputsExchanged, OutputsExchanged, Reversed, Digested, CountedFromZero, Unchained, ShortBlocks, ChainingKeyKept, NonceKept, NonceFromOne, LeftOut, HashedToo, KeyAlone, HashLeftOut, Other, StepsLeftOut}

abbrev pub outputs : List ℕ → List ℕ → List ℕ → Outputs
outputs first second third = record { first = first; second = second; third = third }

-- the three outputs of HKDF
abbrev pub expanded : List ℕ → List ℕ → Outputs
expanded chaining_key input = outputs (first_output chaining_key input) (second_output chaining_key input) (third_output chaining_key input)

-- those that are counted from 0
abbrev pub zero_first : List ℕ → List ℕ
zero_first temporary = hmac_of temporary (0 ∷ [])

abbrev pub zero_second : List ℕ → List ℕ
zero_second temporary = hmac_of temporary (zero_first temporary ++ 1 ∷ [])

abbrev pub counted_from_zero : List ℕ → Outputs
counted_from_zero temporary =
    outputs (zero_first temporary) (zero_second temporary) (hmac_of temporary (zero_second temporary ++ 2 ∷ []))

-- those of which each takes its number alone
abbrev pub unchained : List ℕ → Outputs
unchained temporary =
    outputs (hmac_of temporary (1 ∷ [])) (hmac_of temporary (2 ∷ [])) (hmac_of temporary (3 ∷ []))

-- HMAC under a key of 32 bytes that isn't padded
abbrev pub short_hmac : List ℕ → List ℕ → List ℕ
short_hmac key text = sha256 (map (λ b. bit_xor b 0x5c) key ++ sha256 (map (λ b. bit_xor b 0x36) key ++ text))

abbrev pub short_first : List ℕ → List ℕ
short_first temporary = short_hmac temporary (1 ∷ [])

abbrev pub short_second : List ℕ → List ℕ
short_second temporary = short_hmac temporary (short_first temporary ++ 2 ∷ [])

abbrev pub short_outputs : List ℕ → Outputs
short_outputs temporary =
    outputs (short_first temporary) (short_second temporary) (short_hmac temporary (short_second temporary ++ 3 ∷ []))

-- ---- the state that outputs give

-- MixKey by these outputs
abbrev pub mixed_key : State → Outputs → State
mixed_key before o = record { hash = before.hash; chaining_key = o.first; key = Some o.second; nonce = 0 }

-- MixKeyAndHash by these outputs
abbrev pub mixed_key_and_hash : State → Outputs → State
mixed_key_and_hash before o =
    record { hash = sha256 (before.hash ++ o.second); chaining_key = o.first; key = Some o.third; nonce = 0 }

abbrev pub is_psk : Kind → Bool
is_psk kind.Secret = true
is_psk _ = false

-- what the step makes of these outputs: MixKeyAndHash at `psk`, else MixKey
abbrev pub applied : Kind → State → Outputs → State
applied k before o = if is_psk k then mixed_key_and_hash before o else mixed_key before o

-- the outputs with the last two of those that the step takes exchanged
abbrev pub exchanged : Kind → Outputs → Outputs
exchanged k o = if is_psk k then outputs o.first o.third o.second else outputs o.second o.first o.third

abbrev pub with_nonce : State → ℕ → State
with_nonce state nonce = record state { nonce = nonce }

-- the state after the step with this secret, from this state on
abbrev pub after_secret : Situation → State → List ℕ → State
after_secret at from secret = applied at.kind from (expanded from.chaining_key secret)

-- what a mistake gives; that of another secret is below
unfoldable pub secret_state : SecretMistake → Situation → State
secret_state InputsExchanged at = applied at.kind at.before (expanded at.secret at.before.chaining_key)
secret_state OutputsExchanged at = applied at.kind at.before (exchanged at.kind (expanded at.before.chaining_key at.secret))
secret_state Reversed at = after_secret at at.before (reverse at.secret)
secret_state Digested at = after_secret at at.before (sha256 at.secret)
secret_state CountedFromZero at = applied at.kind at.before (counted_from_zero (hmac_of at.before.chaining_key at.secret))
secret_state Unchained at = applied at.kind at.before (unchained (hmac_of at.before.chaining_key at.secret))
secret_state ShortBlocks at = applied at.kind at.before (short_outputs (short_hmac at.before.chaining_key at.secret))
secret_state ChainingKeyKept at = record at.right { chaining_key = at.before.chaining_key }
secret_state NonceKept at = with_nonce at.right at.before.nonce
secret_state NonceFromOne at = with_nonce at.right 1
secret_state LeftOut at = at.before
secret_state HashedToo at = with_hash at.right (sha256 (at.right.hash ++ at.secret))
secret_state KeyAlone at = mixed_key at.before (expanded at.before.chaining_key at.secret)
secret_state HashLeftOut at = with_hash at.right at.before.hash
secret_state Other at = at.right
secret_state StepsLeftOut at = after_secret at at.agreed at.secret

-- some secret of the run gives the logged values
abbrev pub other_explains : Situation → Logged → Bool
other_explains at logged =
    nat_lt 0 (count_by (λ secret. fits logged at.bytes.now (after_secret at at.before secret)) at.secrets.now)

unfoldable pub secret_explains : SecretMistake → Situation → Logged → Bool
secret_explains Other at logged = other_explains at logged
secret_explains mistake at logged = fits logged at.bytes.now (secret_state mistake at)
