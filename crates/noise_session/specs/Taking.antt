-- What bytes make of an end (Noise 5.3, 11.3 and 13).
use Rattle.std.specs.Prelude.{◌≡◌, ◌≢◌, ℕ, ◌+◌, ◌≤◌, List, [], ◌++◌, length, Some, None, IsTrue, nat_lt, if◌then◌else◌}
use Rattle.noise_names.specs.Tokens.{other}
use Rattle.noise_handshake.specs.declared.faults.Cause.{Cause}
use Rattle.noise_handshake.specs.declared.faults.Cause.TheVariants.{Short, Tag}
use Rattle.noise_handshake.specs.Party.{Accepts, Refuses}
use Rattle.noise_handshake.specs.Matching.{after_message}
use Rattle.noise_session.specs.Frames.{frame, IsPartial}
use Rattle.noise_session.specs.Transport.{transport_message, last_nonce}
use Rattle.noise_session.specs.Steps.{StepValue}
use Rattle.noise_session.specs.Steps.StepValue.{More, Payload, Dropped, Refused, Exhausted}
use Rattle.noise_session.specs.Progress.{is_open, idle_step}
use Rattle.noise_session.specs.Ends.{EndValue, EndState, EndMatches, progress_of, ended_session}
use Rattle.noise_keys.specs.Keys.{KeyPairs}

-- A whole message comes to an end that listens. A refused handshake message ends the session; a refused transport
-- message is dropped.
pub data Judges : EndState → List ℕ → StepValue → EndState → Type 0 where
  accepted : (v : EndState) (message payload : List ℕ) (xs : List (List ℕ)) → Accepts v.party message xs payload
      → Judges v message (Payload payload) (record v { party = after_message v.party xs payload; partial = [] })
  refused : (v : EndState) (message : List ℕ) (token : ℕ) (cause : Cause) → Refuses v.party message token cause
      → Judges v message (Refused token cause) (ended_session v)
  opened : (v : EndState) (message payload : List ℕ) → IsTrue (is_open (progress_of v)) → v.received ≢ last_nonce
      → message ≡ transport_message v.party.state (other v.party.role) v.interval v.received payload
      → Judges v message (Payload payload) (record v { received = v.received + 1; partial = [] })
  dropped : (v : EndState) (message : List ℕ) → IsTrue (is_open (progress_of v)) → v.received ≢ last_nonce
      → ((payload : List ℕ)
      → message ≢ transport_message v.party.state (other v.party.role) v.interval v.received payload)
      → Judges v message (Dropped (if nat_lt (length message) 16 then Short else Tag)) (record v { partial = [] })
  exhausted : (v : EndState) (message : List ℕ) → IsTrue (is_open (progress_of v)) → v.received ≡ last_nonce
      → Judges v message Exhausted (ended_session v)

-- A piece of the stream comes to an end, which takes so many of its bytes: none where it doesn't listen; all where they
-- make no whole frame with the partial one; else those up to the end of the first frame.
pub data Takes : EndState → List ℕ → ℕ → StepValue → EndState → Type 0 where
  idles : (v : EndState) (piece : List ℕ) (step : StepValue) → idle_step (progress_of v) ≡ Some step
      → Takes v piece 0 step v
  waits : (v : EndState) (piece : List ℕ) → idle_step (progress_of v) ≡ None → IsPartial (v.partial ++ piece)
      → Takes v piece (length piece) More (record v { partial = v.partial ++ piece })
  judges : (v next : EndState) (piece message rest : List ℕ) (taken : ℕ) (step : StepValue)
      → idle_step (progress_of v) ≡ None
      → v.partial ++ piece ≡ frame message ++ rest → length message ≤ 65535 → taken + length rest ≡ length piece
      → Judges v message step next → Takes v piece taken step next

module _ {K : Type 0} (pairs : K → KeyPairs) where
  -- An end takes so many bytes of a piece, with this step: as every state takes them that the end matches, and then
  -- it matches the state after them.
  abbrev pub EndTakes : EndValue K → List ℕ → ℕ → StepValue → EndValue K → Type 0
  EndTakes old piece taken step new = (v : EndState) → EndMatches pairs old v
      → (next : EndState) × Takes v piece taken step next × EndMatches pairs new next
