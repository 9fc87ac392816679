-- A message that isn't due isn't read, and none is written; the handshake stays as it was.
use Rattle.std.proofs.Common.{rules, ◌≡◌, ◌≤◌, ℕ, List, length, refl, subst}
use Rattle.noise_handshake.proofs.Common.{Option, Some, ◌==◌, HandshakeValue, ReadFault, WriteFault, after_read_fault, after_write_fault, read_fault, write_fault, is_turn, DoesNotRead, party_of, with_later}
use Rattle.noise_handshake.specs.Calls.{IsNotRead, IsNotWritten, IsUnread, IsUnwritten}
use Rattle.noise_handshake.specs.declared.faults.Cause.{Cause}
use Rattle.noise_handshake.specs.declared.faults.ReadFault.TheVariants as read
use Rattle.noise_handshake.specs.declared.faults.WriteFault.TheVariants as write
use Rattle.noise_handshake.specs.declared.faults.Unread.TheVariants as unread
use Rattle.noise_handshake.specs.declared.faults.Unwritten.TheVariants as unwritten
use Rattle.noise_handshake.proofs.LateParties.{fault-no-agreement}
use Rattle.noise_handshake.proofs.Standing.{Reported, reported}
use Rattle.noise_handshake.proofs.Withheld.{withholds-of}
use Rattle.noise_keys.specs.Keys.{KeyPairs}

module _ {K : Type 0} (pairs : K → KeyPairs) (h : HandshakeValue K) (within : h.passed ≤ length h.pattern.messages) where
  no-refusal : (token : ℕ) (cause : Cause) → read_fault h ≡ Some (read.Refused token cause) → ⊥
  no-refusal token cause e =
      let all = h.passed == length h.pattern.messages in
      subst (λ (o : Option ReadFault). Reported h.ended all (is_turn h.role h.passed) o) e (reported h.ended all (is_turn h.role h.passed))

  unreadable : (m : List ℕ) (fault : ReadFault) → read_fault h ≡ Some fault → DoesNotRead (party_of pairs h) m fault
  unreadable m fault e = search rules

  pub not-read : (m : List ℕ) (fault : ReadFault) → read_fault h ≡ Some fault
      → IsNotRead pairs h m fault × (h ≡ after_read_fault h fault)
  not-read m read.Ended e = (unreadable m read.Ended e, refl)
  not-read m read.Done e = (unreadable m read.Done e, refl)
  not-read m read.NotYourTurn e = (unreadable m read.NotYourTurn e, refl)
  not-read m (read.Refused token cause) e = absurd (no-refusal token cause e)

  pub not-written : (payload : ℕ) (fault : WriteFault) → write_fault h payload ≡ Some fault
      → IsNotWritten pairs h payload fault × (h ≡ after_write_fault h fault)
  not-written payload write.Ended e = (withholds-of pairs h within payload write.Ended e, refl)
  not-written payload write.Done e = (withholds-of pairs h within payload write.Done e, refl)
  not-written payload write.NotYourTurn e = (withholds-of pairs h within payload write.NotYourTurn e, refl)
  not-written payload write.TooLong e = (withholds-of pairs h within payload write.TooLong e, refl)
  not-written payload (write.Agreement token) e = absurd (fault-no-agreement h payload (write.Agreement token) e tt)

-- the same with the psks that are lacking
module _ {K : Type 0} (pairs : K → KeyPairs) (h : HandshakeValue K) (within : h.passed ≤ length h.pattern.messages) (later : List (List ℕ)) where
  abbrev all : HandshakeValue K
  all = with_later h later

  pub still-unread : (m : List ℕ) (fault : ReadFault) → read_fault h ≡ Some fault
      → IsUnread pairs later h m (unread.Declined fault) × (h ≡ after_read_fault h fault)
  still-unread m read.Ended e = (unreadable pairs all within m read.Ended e, refl)
  still-unread m read.Done e = (unreadable pairs all within m read.Done e, refl)
  still-unread m read.NotYourTurn e = (unreadable pairs all within m read.NotYourTurn e, refl)
  still-unread m (read.Refused token cause) e = absurd (no-refusal pairs h within token cause e)

  pub still-unwritten : (payload : ℕ) (fault : WriteFault) → write_fault h payload ≡ Some fault
      → IsUnwritten pairs later h payload (unwritten.Withheld fault)
  still-unwritten payload write.Ended e = withholds-of pairs all within payload write.Ended e
  still-unwritten payload write.Done e = withholds-of pairs all within payload write.Done e
  still-unwritten payload write.NotYourTurn e = withholds-of pairs all within payload write.NotYourTurn e
  still-unwritten payload write.TooLong e = withholds-of pairs all within payload write.TooLong e
  still-unwritten payload (write.Agreement token) e = fault-no-agreement h payload (write.Agreement token) e tt
