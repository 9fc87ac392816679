-- The step of a whole message, and what a handshake by itself returns to one: each result in exactly one case.
use Rattle.std.specs.Prelude.{◌≡◌, ◌≢◌, ◌↔◌, ℕ, List, length, IsTrue, nat_lt, if◌then◌else◌, Result, Ok, Err, MatchResult}
use Rattle.noise_handshake.specs.declared.faults.Cause.{Cause}
use Rattle.noise_handshake.specs.declared.faults.Cause.TheVariants.{Short, Tag}
use Rattle.noise_handshake.specs.declared.faults.ReadFault.{ReadFault}
use Rattle.noise_handshake.specs.declared.faults.ReadFault.TheVariants as read
use Rattle.noise_handshake.specs.Party.{Party, Listens, Accepts, Refuses}
use Rattle.noise_handshake.specs.Matching.{DoesNotRead}
use Rattle.noise_session.specs.Transport.{last_nonce}
use Rattle.noise_session.specs.Steps.{StepValue}
use Rattle.noise_session.specs.Steps.StepValue.{Payload, Dropped, Refused, Exhausted}
use Rattle.noise_session.specs.Progress.{is_open}
use Rattle.noise_session.specs.Ends.{EndState, progress_of}
use Rattle.noise_session.specs.Taking.{Judges}
use Rattle.noise_session.specs.Exactly.{Encodes}

-- An open end that has a nonce left drops the message: it is one of no payload, and the cause is that of its
-- length, since a tag has 16 bytes (Noise 12.3).
pub record IsDropped (v : EndState) (message : List ℕ) (cause : Cause) : Type 0 where
  pub opens : IsTrue (is_open (progress_of v))
  pub nonce : v.received ≢ last_nonce
  pub none : (payload : List ℕ) → Encodes v message payload → ⊥
  pub why : cause ≡ (if nat_lt (length message) 16 then Short else Tag)

-- An open end has no nonce left to receive at (Noise 5.1).
pub record HasNoNonce (v : EndState) : Type 0 where
  pub opens : IsTrue (is_open (progress_of v))
  pub nonce : v.received ≡ last_nonce

-- The step of a whole message that comes to an end that listens, each in exactly its case.
pub record AllReportedExactly (v : EndState) (message : List ℕ) (reported : StepValue) : Type 0 where
  pub payload : (payload : List ℕ) → reported ≡ Payload payload ↔ Encodes v message payload
  pub refused : (token : ℕ) (cause : Cause) → reported ≡ Refused token cause ↔ Refuses v.party message token cause
  pub dropped : (cause : Cause) → reported ≡ Dropped cause ↔ IsDropped v message cause
  pub exhausted : reported ≡ Exhausted ↔ HasNoNonce v

abbrev pub ReportedExactly : Type 0
ReportedExactly = (v next : EndState) (message : List ℕ) (reported : StepValue) → Judges v message reported next
    → AllReportedExactly v message reported

-- What reading returns: a payload that the party accepts, or why it doesn't accept the message.
abbrev pub IsReadResult : Party → List ℕ → Result (List ℕ) ReadFault → Type 0
IsReadResult v message returned =
    MatchResult returned (λ payload. (xs : List (List ℕ)) × Accepts v message xs payload)
    (λ fault. DoesNotRead v message fault)

-- What a party returns to which a message is due.
pub record IsReadExactly (v : Party) (message : List ℕ) (returned : Result (List ℕ) ReadFault) : Type 0 where
  pub payload : (payload : List ℕ) → returned ≡ Ok payload ↔ ((xs : List (List ℕ)) × Accepts v message xs payload)
  pub refused : (token : ℕ) (cause : Cause) → returned ≡ Err (read.Refused token cause) ↔ Refuses v message token cause

abbrev pub ReadExactly : Type 0
ReadExactly = (v : Party) (message : List ℕ) (returned : Result (List ℕ) ReadFault) → Listens v
    → IsReadResult v message returned → IsReadExactly v message returned
