-- The entries and frames that code has, as notes and bytes.
use Rattle.std.specs.Prelude.{ℕ, List, Result, Ok, Err, map}
use Rattle.noise_names.specs.declared.token.Role.{Role}
use Rattle.noise_session.specs.declared.faults.SendFault.{SendFault}
use Rattle.noise_session.specs.Steps.{StepValue}
use Rattle.noise_session.specs.Steps.StepValue.{Ended, YourTurn, Silent, Payload, Dropped, Refused, Exhausted}
use Rattle.noise_duel.specs.declared.entry.Entry.{Entry}
use Rattle.noise_duel.specs.declared.entry.Entry.TheVariants as entry
use Rattle.noise_duel.specs.declared.entry.Idle.{Idle}
use Rattle.noise_duel.specs.declared.entry.Idle.TheVariants as idle
use Rattle.noise_duel.specs.Notes.{Note, Wrote, WriteFault, Judged, Left, Missing, Held}

abbrev pub step_of : Idle → StepValue
step_of idle.YourTurn = YourTurn
step_of idle.Silent = Silent
step_of idle.Ended = Ended

abbrev pub note_of : Entry → Note
note_of (entry.Wrote n) = Wrote n
note_of (entry.WriteFault why) = WriteFault why
note_of (entry.Payload bytes) = Judged (Payload bytes.items)
note_of (entry.Dropped cause) = Judged (Dropped cause)
note_of (entry.Refused token cause) = Judged (Refused token cause)
note_of entry.Exhausted = Judged Exhausted
note_of (entry.Left why n) = Left (step_of why) n
note_of (entry.Missing n) = Missing n
note_of (entry.Held n) = Held n

abbrev pub notes_of : List (Role × Entry) → List (Role × Note)
notes_of entries = map (λ e. (e.0, note_of e.1)) entries

-- what is noted of a write: its frame's number, or why there is none
abbrev pub written_note : Result ℕ SendFault → Note
written_note (Ok n) = Wrote n
written_note (Err why) = WriteFault why
