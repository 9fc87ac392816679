-- What the calls that read and write messages return and leave (Noise, 5.3).
use Rattle.std.specs.Prelude.{◌≡◌, ℕ, ◌≤◌, ◌⊎◌, ◌==◌, ◌&&◌, not, List, length, take, drop, slice_range, Bool, false, Option, Some, None, Result, Ok, Err, MatchOption}
use Rattle.noise_names.specs.declared.token.Role.{Role}
use Rattle.noise_names.specs.Plan.{Plan}
use Rattle.noise_keys.specs.Keys.{KeyPairs}
use Rattle.noise_keys.specs.declared.keys.Own.{Own}
use Rattle.noise_handshake.specs.declared.faults.Cause.TheVariants.{Agreement}
use Rattle.noise_handshake.specs.declared.faults.ReadFault.{ReadFault}
use Rattle.noise_handshake.specs.declared.faults.ReadFault.TheVariants as read
use Rattle.noise_handshake.specs.declared.faults.Unread.{Unread}
use Rattle.noise_handshake.specs.declared.faults.Unread.TheVariants as unread
use Rattle.noise_handshake.specs.declared.faults.Unwritten.{Unwritten}
use Rattle.noise_handshake.specs.declared.faults.Unwritten.TheVariants as unwritten
use Rattle.noise_handshake.specs.declared.faults.WriteFault.{WriteFault}
use Rattle.noise_handshake.specs.declared.faults.WriteFault.TheVariants as write
use Rattle.noise_handshake.specs.HandshakeValue.{HandshakeValue, HasPsks, IsAgreement, after_read, after_read_fault, after_unread, after_write_fault, after_written, is_turn, message_len_of, write_fault}
use Rattle.noise_handshake.specs.Asking.{IsWantedToRead, IsWantedToWrite}
use Rattle.noise_handshake.specs.Late.{LacksPskAt, party_with}
use Rattle.noise_handshake.specs.Matching.{DoesNotRead, DoesNotWrite, party_of}
use Rattle.noise_handshake.specs.Party.{Party, Accepts, Listens, Refuses}
use Rattle.noise_handshake.specs.Wanting.{WantsToRead, WantsToWrite}
use Rattle.noise_handshake.specs.Writing.{LacksDhResult, Writes}

-- no message has passed of a handshake with this pattern, role and keys, and it hasn't ended
abbrev pub HasBegun : {K : Type 0} → Plan → Role → K → HandshakeValue K → Type 0
HasBegun p role keys h = (h.pattern ≡ p) × (h.role ≡ role) × (h.keys ≡ keys) × (h.passed ≡ 0) × (h.ended ≡ false)

-- whether a message of this party is due
abbrev pub speaks_now : {K : Type 0} → HandshakeValue K → Bool
speaks_now h = not h.ended && not (h.passed == length h.pattern.messages) && is_turn h.role h.passed

-- the place is within these bytes, from its first number up to its second
abbrev pub IsPlaceIn : List ℕ → ℕ × ℕ → Type 0
IsPlaceIn bytes place = (place.0 ≤ place.1) × (place.1 ≤ length bytes)

-- the bytes before the place and after it are as they were
abbrev pub IsSameAround : List ℕ → List ℕ → ℕ × ℕ → Type 0
IsSameAround old new place = (take place.0 new ≡ take place.0 old) × (drop place.1 new ≡ drop place.1 old)

-- The party would refuse the message because it lacks this DH result; or it wouldn't refuse it for that.
abbrev pub ReadingWants : Party → List ℕ → Option (Own × List ℕ) → Type 0
ReadingWants v message want =
    MatchOption want ((token : ℕ) → Refuses v message token Agreement → ⊥) (λ w. WantsToRead v message w.0 w.1)

-- The party can't write its message because it lacks this DH result; or it lacks none.
abbrev pub WritingWants : Party → Option (Own × List ℕ) → Type 0
WritingWants v want = MatchOption want ((token : ℕ) → LacksDhResult v token → ⊥) (λ w. WantsToWrite v w.0 w.1)

-- The payload has this place in the message, and the bytes around it are as they were.
abbrev pub IsPayloadIn : List ℕ → List ℕ → ℕ × ℕ → Type 0
IsPayloadIn message new place = IsPlaceIn new place × IsSameAround message new place

-- The message is so many bytes of the buffer, as `message_len_of` has it, and the bytes after it are as they were.
abbrev pub IsMessageIn : {K : Type 0} → HandshakeValue K → ℕ → List ℕ → List ℕ → ℕ → Type 0
IsMessageIn h payload out new n =
    (message_len_of h payload ≡ Some n) × (n ≤ length new) × (drop n new ≡ drop n out)

-- The handshake has the psks of its next message, and goes on after it, which this party of it accepts as this payload.
abbrev pub HasRead : {K : Type 0} → Party → HandshakeValue K → List ℕ → List ℕ → HandshakeValue K → Type 0
HasRead v h message payload next =
    HasPsks h × ((xs : List (List ℕ)) × Accepts v message xs payload × (next ≡ after_read h xs payload))

-- It goes on after its own, as which this party of it writes the payload.
abbrev pub HasWritten : {K : Type 0} → Party → HandshakeValue K → List ℕ → List ℕ → HandshakeValue K → Type 0
HasWritten v h payload message next =
    HasPsks h × ((xs : List (List ℕ)) × Writes v payload xs message × (next ≡ after_written h xs payload))

module _ {K : Type 0} (pairs : K → KeyPairs) where
  -- Why a message isn't read: none is due; or its party refuses it; or a psk is lacking for its token, which is as a DH
  -- without a result.
  abbrev pub IsNotRead : HandshakeValue K → List ℕ → ReadFault → Type 0
  IsNotRead h message (read.Refused token cause) = (HasPsks h × Refuses (party_of pairs h) message token cause)
      ⊎ (Listens (party_of pairs h) × LacksPskAt h token × (cause ≡ Agreement))
  IsNotRead h message fault = DoesNotRead (party_of pairs h) message fault

  -- The handshake hasn't read it for this fault.
  abbrev pub HasNotRead : HandshakeValue K → List ℕ → ReadFault → HandshakeValue K → Type 0
  HasNotRead h message fault next = IsNotRead h message fault × (next ≡ after_read_fault h fault)

  -- What reading a message in place returns, and what it leaves of the handshake and of the message.
  abbrev pub HandshakeReads : HandshakeValue K → List ℕ → Result (ℕ × ℕ) ReadFault → HandshakeValue K → List ℕ → Type 0
  HandshakeReads h message (Ok place) next new =
      IsPayloadIn message new place × HasRead (party_of pairs h) h message (slice_range new place.0 place.1) next
  HandshakeReads h message (Err fault) next new = HasNotRead h message fault next × (new ≡ message)

  -- Why a payload of this length isn't written: no message of this length is due; or its party has no DH result, or a
  -- psk is lacking, for this token.
  abbrev pub IsNotWritten : HandshakeValue K → ℕ → WriteFault → Type 0
  IsNotWritten h payload (write.Agreement token) = (write_fault h payload ≡ None)
      × ((HasPsks h × LacksDhResult (party_of pairs h) token) ⊎ LacksPskAt h token)
  IsNotWritten h payload fault = DoesNotWrite (party_of pairs h) payload fault

  -- What writing a payload returns, and what it leaves of the handshake and of the buffer: where a DH result lacks, any
  -- bytes.
  abbrev pub HandshakeWrites : HandshakeValue K → List ℕ → List ℕ → Result ℕ WriteFault → HandshakeValue K → List ℕ
      → Type 0
  HandshakeWrites h payload out (Ok n) next new =
      IsMessageIn h (length payload) out new n × HasWritten (party_of pairs h) h payload (take n new) next
  HandshakeWrites h payload out (Err fault) next new = IsNotWritten h (length payload) fault
      × (next ≡ after_write_fault h fault) × ((IsAgreement fault → ⊥) → new ≡ out)

-- The same of the calls that ask for what is lacking, for the party with these psks after those that were handed in.
module _ {K : Type 0} (pairs : K → KeyPairs) (later : List (List ℕ)) where
  -- Why a message isn't read: none is due; or its party refuses it, and for no DH result; or it wants this first.
  abbrev pub IsUnread : HandshakeValue K → List ℕ → Unread → Type 0
  IsUnread h message (unread.Wants want) = IsWantedToRead (party_with pairs later h) (length h.psks) message want
  IsUnread h message (unread.Declined (read.Refused token cause)) =
      Refuses (party_with pairs later h) message token cause × (cause ≡ Agreement → ⊥)
  IsUnread h message (unread.Declined fault) = DoesNotRead (party_with pairs later h) message fault

  -- What reading a message in place returns, and what it leaves.
  abbrev pub ReadsOrAsks : HandshakeValue K → List ℕ → Result (ℕ × ℕ) Unread → HandshakeValue K → List ℕ → Type 0
  ReadsOrAsks h message (Ok place) next new = IsPayloadIn message new place
      × HasRead (party_with pairs later h) h message (slice_range new place.0 place.1) next
  ReadsOrAsks h message (Err reason) next new =
      IsUnread h message reason × (next ≡ after_unread h reason) × (new ≡ message)

  -- Why a payload of this length isn't written: no message of this length is due; or its party wants this first.
  abbrev pub IsUnwritten : HandshakeValue K → ℕ → Unwritten → Type 0
  IsUnwritten h payload (unwritten.Wants want) =
      (write_fault h payload ≡ None) × IsWantedToWrite (party_with pairs later h) (length h.psks) want
  IsUnwritten h payload (unwritten.Withheld (write.Agreement token)) = ⊥
  IsUnwritten h payload (unwritten.Withheld fault) = DoesNotWrite (party_with pairs later h) payload fault

  -- What writing a payload returns, and what it leaves: all as it was where nothing is written.
  abbrev pub WritesOrAsks : HandshakeValue K → List ℕ → List ℕ → Result ℕ Unwritten → HandshakeValue K → List ℕ
      → Type 0
  WritesOrAsks h payload out (Ok n) next new =
      IsMessageIn h (length payload) out new n × HasWritten (party_with pairs later h) h payload (take n new) next
  WritesOrAsks h payload out (Err reason) next new =
      IsUnwritten h (length payload) reason × (next ≡ h) × (new ≡ out)
