-- What is printed of a run: a line for each note, and then one for each of the two ends, here without their LF.
use Rattle.std.specs.Prelude.{◌≡◌, ℕ, List, [], ◌∷◌, ◌++◌, Vec, codes, decimal, slice_get, unwrap_or}
use Rattle.std.specs.Global.{Global}
use Rattle.noise_names.specs.declared.token.Role.{Role}
use Rattle.noise_names.specs.declared.token.Role.TheVariants.{Initiator, Responder}
use Rattle.noise_handshake.specs.declared.faults.Cause.{Cause}
use Rattle.noise_handshake.specs.declared.faults.Cause.TheVariants as cause
use Rattle.noise_session.specs.declared.faults.SendFault.{SendFault}
use Rattle.noise_session.specs.declared.faults.SendFault.TheVariants as fault
use Rattle.noise_session.specs.Ends.{EndState, progress_of}
use Rattle.noise_session.specs.declared.stage.Stage.{Stage}
use Rattle.noise_session.specs.declared.stage.Stage.TheVariants as stage
use Rattle.noise_session.specs.Progress.{Progress}
use Rattle.noise_session.specs.Progress.Progress.{Handshaking, Open, HasEnded}
use Rattle.noise_session.specs.Steps.{StepValue}
use Rattle.noise_session.specs.Steps.StepValue.{Ended, YourTurn, Silent, Payload, Dropped, Refused, Exhausted}
use Rattle.noise_duel.specs.Notes.{Note, Wrote, WriteFault, Judged, Left, Missing, Held}
use Rattle.noise_duel.specs.Sides.{Side, Sides, side}
use Rattle.noise_lines.specs.Lines.{line_of}
use Rattle.noise_names.specs.Lists.{bytes_of}
use Rattle.noise_vectors.specs.HexWord.{hex_of}
use Rattle.noise_vectors.specs.VectorText.{role_word}

-- these lines are added to those before
abbrev pub Appended : Vec (Vec ℕ Global) Global → Vec (Vec ℕ Global) Global → List (List ℕ) → Type 0
Appended before after lines = bytes_of after.items ≡ bytes_of before.items ++ lines

abbrev pub cause_word : Cause → List ℕ
cause_word cause.Short = codes "short"
cause_word cause.Tag = codes "tag"
cause_word cause.Agreement = codes "agreement"

-- why nothing was written; the last is of writers outside, and no run has it
abbrev pub send_fault_words : SendFault → List (List ℕ)
send_fault_words fault.NotYourTurn = codes "not-your-turn" ∷ []
send_fault_words fault.TooLong = codes "too-long" ∷ []
send_fault_words (fault.Agreement token) = codes "agreement" ∷ decimal token ∷ []
send_fault_words fault.Ended = codes "ended" ∷ []
send_fault_words fault.OneWay = codes "one-way" ∷ []
send_fault_words fault.Exhausted = codes "exhausted" ∷ []
send_fault_words (fault.Output written) = codes "output" ∷ decimal written ∷ []

-- why an end takes no bytes; no other step says so
abbrev pub idle_word : StepValue → List ℕ
idle_word YourTurn = codes "your-turn"
idle_word Silent = codes "silent"
idle_word Ended = codes "ended"
idle_word _ = []

-- what a frame came to; a frame comes to no other step
abbrev pub frame_words : Role → StepValue → List (List ℕ)
frame_words role (Payload bytes) = codes "payload" ∷ role_word role ∷ hex_of bytes ∷ []
frame_words role (Dropped why) = codes "dropped" ∷ role_word role ∷ cause_word why ∷ []
frame_words role (Refused token why) = codes "refused" ∷ role_word role ∷ decimal token ∷ cause_word why ∷ []
frame_words role Exhausted = codes "exhausted" ∷ role_word role ∷ []
frame_words role _ = []

-- the frame of this number that a side wrote
abbrev pub frame_numbered : Side → ℕ → List ℕ
frame_numbered s n = unwrap_or (slice_get s.frames n) []

-- the words of a note of this side, which has this role
abbrev pub note_words : Side → Role → Note → List (List ℕ)
note_words s role (Wrote n) = codes "wrote" ∷ role_word role ∷ decimal n ∷ hex_of (frame_numbered s n) ∷ []
note_words s role (WriteFault why) = codes "unwritten" ∷ role_word role ∷ send_fault_words why
note_words s role (Judged step) = frame_words role step
note_words s role (Left step n) = codes "left" ∷ role_word role ∷ idle_word step ∷ decimal n ∷ []
note_words s role (Missing n) = codes "missing" ∷ role_word role ∷ decimal n ∷ []
note_words s role (Held n) = codes "held" ∷ role_word role ∷ decimal n ∷ []

-- the line of a note, after which these two sides stand
abbrev pub note_line : Sides → Role × Note → List ℕ
note_line d (role, note) = line_of (note_words (side d role) role note)

-- how far an end has come; the handshake's hash (Noise 11.2) once it is open
abbrev pub progress_words : Progress → List ℕ → List (List ℕ)
progress_words (Handshaking pattern role passed) hash = codes "handshake" ∷ decimal passed ∷ []
progress_words (Open role one_way sent received) hash =
    codes "transport" ∷ decimal sent ∷ decimal received ∷ hex_of hash ∷ []
progress_words (HasEnded role) hash = codes "ended" ∷ []

-- the same of a stage; the hash is read where it is open
abbrev pub stage_words : Stage → List ℕ → List (List ℕ)
stage_words (stage.Handshake passed ours) hash = codes "handshake" ∷ decimal passed ∷ []
stage_words (stage.Transport sent received) hash =
    codes "transport" ∷ decimal sent ∷ decimal received ∷ hex_of hash ∷ []
stage_words stage.Ended hash = codes "ended" ∷ []

abbrev pub state_line : Role → EndState → List ℕ
state_line role v = line_of (codes "state" ∷ role_word role ∷ progress_words (progress_of v) v.party.state.hash)

-- the states of both ends
abbrev pub state_lines : Sides → List (List ℕ)
state_lines d = state_line Initiator d.initiator.state ∷ state_line Responder d.responder.state ∷ []
