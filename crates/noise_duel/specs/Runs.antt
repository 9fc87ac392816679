-- What events make of two ends: over whole messages, whatever the pieces that bytes come in.
use Rattle.std.specs.Prelude.{◌≡◌, ◌≢◌, ℕ, ◌≤◌, List, [], ◌∷◌, ◌++◌, length, Some, None, Err, IsTrue, ⊤, slice_get}
use Rattle.noise_names.specs.declared.token.Role.{Role}
use Rattle.noise_names.specs.Tokens.{other}
use Rattle.noise_handshake.specs.Party.{Accepts}
use Rattle.noise_handshake.specs.Writing.{Writes}
use Rattle.noise_session.specs.declared.faults.SendFault.{SendFault}
use Rattle.noise_session.specs.Frames.{frame, IsPartial}
use Rattle.noise_session.specs.Transport.{transport_message, last_nonce}
use Rattle.noise_session.specs.Steps.{StepValue}
use Rattle.noise_session.specs.Steps.StepValue.{Payload}
use Rattle.noise_session.specs.Progress.{is_open, idle_step, refusal}
use Rattle.noise_session.specs.Ends.{EndState, progress_of}
use Rattle.noise_session.specs.Taking.{Judges}
use Rattle.noise_session.specs.Sending.{Sends}
use Rattle.noise_duel.specs.Sides.{Side, Sides, side, with_side, wrote_handshake, accepted_handshake, wrote_transport, accepted_transport, with_state}
use Rattle.noise_events.specs.Events.{Event, Write, Say, Deliver, Raw}
use Rattle.noise_duel.specs.Notes.{Note, Wrote, WriteFault, Judged, Missing, left_note, held_note, noted_by}

-- An end writes a payload as a frame, or doesn't (Noise 5.3, 11.3 and 13).
pub data SideWrites : Side → List ℕ → Note → Side → Type 0 where
  writes_nothing : (s : Side) (payload : List ℕ) (why : SendFault) (next : EndState)
      → Sends s.state payload (Err why) next
      → SideWrites s payload (WriteFault why) (with_state s next)
  writes_handshake : (s : Side) (message payload : List ℕ) (xs : List (List ℕ))
      → refusal (progress_of s.state) (length payload) ≡ None
      → Writes s.state.party payload xs message
      → SideWrites s payload (Wrote (length s.frames))
      (wrote_handshake s (record { message = message; carried = xs; payload = payload }))
  writes_transport : (s : Side) (message payload : List ℕ)
      → refusal (progress_of s.state) (length payload) ≡ None
      → IsTrue (is_open (progress_of s.state))
      → message ≡ transport_message s.state.party.state s.state.party.role s.state.interval s.state.sent payload
      → SideWrites s payload (Wrote (length s.frames))
      (wrote_transport s (record { message = message; payload = payload }))

-- a step that hands out no payload
abbrev pub GivesNoPayload : StepValue → Type 0
GivesNoPayload (Payload bytes) = ⊥
GivesNoPayload _ = ⊤

-- An end accepts a whole message, or doesn't (Noise 5.3 and 11.3).
pub data SideReads : Side → List ℕ → StepValue → Side → Type 0 where
  accepts_handshake : (s : Side) (message payload : List ℕ) (xs : List (List ℕ))
      → Accepts s.state.party message xs payload
      → SideReads s message (Payload payload)
      (accepted_handshake s (record { message = message; carried = xs; payload = payload }))
  accepts_transport : (s : Side) (message payload : List ℕ)
      → IsTrue (is_open (progress_of s.state)) → s.state.received ≢ last_nonce
      → message ≡ transport_message s.state.party.state
      (other s.state.party.role) s.state.interval s.state.received payload
      → SideReads s message (Payload payload)
      (accepted_transport s (record { message = message; payload = payload }))
  refuses_message : (s : Side) (message : List ℕ) (step : StepValue) (next : EndState)
      → GivesNoPayload step → Judges s.state message step next
      → SideReads s message step (with_state s next)

-- Bytes come to an end: after those that it holds they are cut into frames, and each frame's message is read, until the
-- bytes end or the end doesn't listen (Noise 13).
pub data SideReceives : Side → List ℕ → List Note → Side → Type 0 where
  is_idle : (s : Side) (bytes : List ℕ) (step : StepValue) → idle_step (progress_of s.state) ≡ Some step
      → SideReceives s bytes (left_note step (length bytes)) s
  waits : (s : Side) (bytes : List ℕ) → idle_step (progress_of s.state) ≡ None → IsPartial (s.state.partial ++ bytes)
      → SideReceives s bytes [] (with_state s (record (s.state) { partial = s.state.partial ++ bytes }))
  reads_frame : (s next last : Side) (bytes message rest : List ℕ) (step : StepValue) (notes : List Note)
      → idle_step (progress_of s.state) ≡ None
      → s.state.partial ++ bytes ≡ frame message ++ rest → length message ≤ 65535
      → SideReads s message step next → SideReceives next rest notes last
      → SideReceives s bytes (Judged step ∷ notes) last

-- One event, what is noted of it, and the two ends after it.
pub data Happens : Sides → Event → List (Role × Note) → Sides → Type 0 where
  writes : (d : Sides) (role : Role) (payload : List ℕ) (note : Note) (next : Side)
      → SideWrites (side d role) payload note next
      → Happens d (Write role payload) ((role, note) ∷ []) (with_side d role next)
  says_nothing : (d : Sides) (role : Role) (payload : List ℕ) (why : SendFault) (next : Side)
      → SideWrites (side d role) payload (WriteFault why) next
      → Happens d (Say role payload) ((role, WriteFault why) ∷ []) (with_side d role next)
  says : (d : Sides) (role : Role) (payload bytes : List ℕ) (n : ℕ) (notes : List Note) (next reader : Side)
      → SideWrites (side d role) payload (Wrote n) next → slice_get next.frames n ≡ Some bytes
      → SideReceives (side d (other role)) bytes notes reader
      → Happens d (Say role payload)
      ((role, Wrote n) ∷ noted_by (other role) (notes ++ held_note (length reader.state.partial)))
      (with_side (with_side d role next) (other role) reader)
  delivers : (d : Sides) (role : Role) (n : ℕ) (bytes : List ℕ) (notes : List Note) (reader : Side)
      → slice_get (side d (other role)).frames n ≡ Some bytes → SideReceives (side d role) bytes notes reader
      → Happens d (Deliver role n)
      (noted_by role (notes ++ held_note (length reader.state.partial))) (with_side d role reader)
  misses : (d : Sides) (role : Role) (n : ℕ) → slice_get (side d (other role)).frames n ≡ None
      → Happens d (Deliver role n) ((role, Missing n) ∷ []) d
  injects : (d : Sides) (role : Role) (bytes : List ℕ) (notes : List Note) (reader : Side)
      → SideReceives (side d role) bytes notes reader
      → Happens d (Raw role bytes)
      (noted_by role (notes ++ held_note (length reader.state.partial))) (with_side d role reader)

-- Events, one after another.
pub data Run : Sides → List Event → List (Role × Note) → Sides → Type 0 where
  ends : (d : Sides) → Run d [] [] d
  begins : (d next last : Sides) (event : Event) (events : List Event) (notes more : List (Role × Note))
      → Happens d event notes next → Run next events more last → Run d (event ∷ events) (notes ++ more) last

-- A run is determined: of two ends and a list of events one list of notes and one pair of ends comes.
abbrev pub RunOnce : Type 0
RunOnce = (d x y : Sides) (events : List Event) (ms ns : List (Role × Note))
    → Run d events ms x → Run d events ns y → (ms ≡ ns) × (x ≡ y)
