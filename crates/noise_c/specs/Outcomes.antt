-- What writing and reading a message come to.
use Rattle.std.specs.Prelude.{◌≡◌, Bool, ℕ, ◌+◌, ◌<◌, ◌≤◌, ◌⊎◌, List, Option, length, take, drop, slice_range, Some}
use Rattle.noise_names.specs.Plan.{Plan}
use Rattle.noise_handshake.specs.HandshakeValue.{message_len_of}
use Rattle.noise_handshake.specs.Asking.{WantsPskToRead, WantsPskToWrite}
use Rattle.noise_handshake.specs.Party.{Party}
use Rattle.noise_handshake.specs.Wanting.{WantsToRead, WantsToWrite}
use Rattle.noise_c.specs.declared.codes.numbers.TheConstants.{DONE, ENDED, LENGTH, NOT_YOUR_TURN, OK, ROOM, SHORT, STRUCT, TAG, WANTED, WANTED_PSK}
use Rattle.noise_c.specs.declared.structs.NoiseHandshake.{NoiseHandshake}
use Rattle.noise_c.specs.declared.structs.NoiseResult.{NoiseResult}
use Rattle.noise_c.specs.HalfStructs.{IsAround}
use Rattle.noise_c.specs.HandshakeStructs.{handshake_from_c, own_in, remote_reported, text_from_c, ForParty, HasMessageLen, IsPatternOf, IsUsable, KeepsParty, ReportsDhResult, ReportsRemote, WasDeclined, WasRead, WasRefused, WasWithheld, WasWritten, struct_left}

-- What `noise_write` leaves of the struct, the buffer and the struct of results, by what they were before and by the
-- payload, and the number that it returns.
pub data WriteOutcome (old : NoiseHandshake) (payload out : List ℕ) (results : NoiseResult)
    (new : NoiseHandshake) (after : List ℕ) (next : NoiseResult) : ℕ → Type 0 where
  written : IsUsable new → HasMessageLen old (length payload) (Some next.len)
      → next ≡ record results { from = 0; len = next.len } → next.len ≤ length after
      → drop next.len after ≡ drop next.len out
      → ForParty old (λ p v. WasWritten p v payload (take next.len after) new)
      → WriteOutcome old payload out results new after next OK
  wants_dh_result : ReportsDhResult results next → new ≡ old → after ≡ out
      → ForParty old (λ _ v. WantsToWrite v (own_in next.of_static) next.remote)
      → WriteOutcome old payload out results new after next WANTED
  wants_psk : ReportsRemote results next → new ≡ old → after ≡ out
      → ForParty old (λ _ v. WantsPskToWrite v old.psk_count × (remote_reported next ≡ v.remote.s))
      → WriteOutcome old payload out results new after next WANTED_PSK
  withheld : (code : ℕ) → NOT_YOUR_TURN ≤ code → code ≤ ENDED → next ≡ results → new ≡ old → after ≡ out
      → ForParty old (λ _ v. WasWithheld v (length payload) code)
      → WriteOutcome old payload out results new after next code
  no_room : HasMessageLen old (length payload) (Some next.len) → length out < next.len
      → next ≡ record results { len = next.len } → new ≡ old → after ≡ out
      → WriteOutcome old payload out results new after next ROOM
  unusable : (IsUsable old → ⊥) → next ≡ results → new ≡ old → after ≡ out
      → WriteOutcome old payload out results new after next STRUCT

-- The same of `noise_read`, where a refusal ends the handshake, and of `noise_try_read`, where it doesn't.
pub data ReadOutcome (ends : Bool) (old : NoiseHandshake) (message : List ℕ) (results : NoiseResult)
    (new : NoiseHandshake) (after : List ℕ) (next : NoiseResult) : ℕ → Type 0 where
  accepted : IsUsable new → next ≡ record results { from = next.from; len = next.len }
      → next.from + next.len ≤ length after → IsAround message after next.from (next.from + next.len)
      → ForParty old (λ p v. WasRead p v message (slice_range after next.from (next.from + next.len)) new)
      → ReadOutcome ends old message results new after next OK
  wants_dh_result : ReportsDhResult results next → after ≡ message
      → ForParty old (λ _ v. WantsToRead v message (own_in next.of_static) next.remote)
      → ReadOutcome ends old message results new after next WANTED
  wants_psk : ReportsRemote results next → after ≡ message
      → ForParty old (λ _ v. WantsPskToRead v old.psk_count message (remote_reported next))
      → ReadOutcome ends old message results new after next WANTED_PSK
  declined : (code : ℕ) → (code ≡ NOT_YOUR_TURN) ⊎ ((DONE ≤ code) × (code ≤ ENDED))
      → next ≡ results → new ≡ old → after ≡ message → ForParty old (λ _ v. WasDeclined v message code)
      → ReadOutcome ends old message results new after next code
  refused : (code : ℕ) → SHORT ≤ code → code ≤ TAG
      → next ≡ record results { token = next.token } → new ≡ struct_left ends old → (IsUsable old → IsUsable new)
      → after ≡ message
      → ForParty old (λ p v. WasRefused ends p v message code next.token new)
      → ReadOutcome ends old message results new after next code
  too_long : 65535 < length message → IsUsable old → next ≡ results → after ≡ message
      → ReadOutcome ends old message results new after next LENGTH
  unusable : (IsUsable old → ⊥) → next ≡ results → after ≡ message
      → ReadOutcome ends old message results new after next STRUCT

-- what there is too little room for isn't written
abbrev pub RefusesRoom : NoiseHandshake → ℕ → ℕ → ℕ → Type 0
RefusesRoom old payload room code = (p : Plan) → IsPatternOf (text_from_c old) p → (n : ℕ)
    → message_len_of (handshake_from_c p old) payload ≡ Some n → room < n → (code ≡ ROOM) ⊎ (code ≡ STRUCT)

-- Where a psk lacks first, it is asked for: to write a message that there is room for, and to read one, with the
-- other party's static key as it is known then.
abbrev pub AsksToWrite : NoiseHandshake → ℕ → ℕ → ℕ → Type 0
AsksToWrite old payload room code = IsUsable old → (p : Plan) (v : Party) → KeepsParty old p v
    → WantsPskToWrite v old.psk_count → (n : ℕ) → message_len_of (handshake_from_c p old) payload ≡ Some n
    → n ≤ room → code ≡ WANTED_PSK

abbrev pub AsksToRead : NoiseHandshake → List ℕ → NoiseResult → ℕ → Type 0
AsksToRead old message results code =
    IsUsable old → length message ≤ 65535 → (p : Plan) (v : Party) → KeepsParty old p v
    → (remote : Option (List ℕ)) → WantsPskToRead v old.psk_count message remote
    → (code ≡ WANTED_PSK) × (remote_reported results ≡ remote)
