-- The key schedules in a run.
use Rattle.std.specs.Prelude.{◌≡◌, ℕ, Bool, false, List, [], ◌++◌, length}
use Rattle.noise_names.specs.declared.token.Role.{Role}
use Rattle.noise_names.specs.declared.token.Role.TheVariants.{Initiator, Responder}
use Rattle.noise_names.specs.Plan.{Plan, has_psk}
use Rattle.noise_events.specs.Events.{Event}
use Rattle.noise_session.specs.Ends.{EndState}
use Rattle.noise_session.specs.Faults.{ends}
use Rattle.noise_trace.specs.declared.end_trace.EndTrace.{EndTrace}
use Rattle.noise_trace.specs.EndFollowing.{EndFollows}
use Rattle.noise_trace.specs.KeyUses.{KeyUseValue}
use Rattle.noise_duel.specs.declared.report.Report.{Report}
use Rattle.noise_duel.specs.Entries.{notes_of}
use Rattle.noise_duel.specs.DuelValue.{HasFrames, DuelValue}
use Rattle.noise_duel.specs.Notes.{Held, Left, Note, WriteFault, Wrote}
use Rattle.noise_duel.specs.Runs.{Run}
use Rattle.noise_duel.specs.Sides.{Side, Sides}
use Rattle.noise_names.specs.Lists.{bytes_of}
use Rattle.noise_vectors.specs.declared.file_keys.FileKeys.{FileKeys}
use Rattle.noise_vectors.specs.declared.vector.VectorFile.{VectorFile}
use Rattle.noise_run.specs.Ends.{FileDuelMatches, IsPlanOf, sides_of_file}
use Rattle.noise_run.specs.KeyUseLines.{RenewsBeforeLastNonce}
use Rattle.noise_run.specs.Printed.{frame_numbered}
use Rattle.noise_run.specs.Tracing.{run_traces, start_traces}
use Rattle.noise_run.specs.declared.key_use_lines.Selection.{Selection}
use Rattle.noise_run.specs.declared.traced_end.TracedEnd.{TracedEnd}
use Rattle.noise_run.specs.declared.traced_ends.TracedEnds.{TracedEnds}
use Rattle.noise_run.specs.declared.traced_ends.TracedStart.{TracedStart}
use Rattle.noise_vectors.specs.FileKeys.{pairs_of}

-- the key schedule of the end of this state
abbrev pub Follow : EndTrace FileKeys → EndState → Type 0
Follow t v = EndFollows pairs_of t v

-- a call used these keys as it was to, and leaves the key schedule of this state
abbrev pub Used : KeyUseValue → KeyUseValue → EndTrace FileKeys → EndState → Type 0
Used got due t v = (got ≡ due) × RenewsBeforeLastNonce got × Follow t v

-- It shows the end of this state.
pub record ShowsEnd (t : TracedEnd) (v : EndState) : Type 0 where
  pub psks : t.psks ≡ has_psk v.party.pattern
  pub follows : Follow t.end v

-- and has the bytes of its next frame
pub record TracedMatches (t : TracedEnd) (v : EndState) : Type 0 where
  pub shows : ShowsEnd t v
  pub partial : t.partial.items ≡ v.partial

-- so do both
pub record EndsTraced (ends : TracedEnds) (d : Sides) : Type 0 where
  pub initiator : TracedMatches ends.initiator d.initiator.state
  pub responder : TracedMatches ends.responder d.responder.state
  pub first : ends.initiator.role ≡ Initiator
  pub second : ends.responder.role ≡ Responder

-- whether a session has ended with what a note says of a write
abbrev pub note_ends : Note → Bool
note_ends (WriteFault why) = ends why
note_ends note = false

-- a note of bytes that make no frame
abbrev pub IsOfNoFrame : Note → Type 0
IsOfNoFrame (Left step n) = Unit {0}
IsOfNoFrame (Held n) = Unit {0}
IsOfNoFrame note = ⊥

-- the frame that a side wrote, where a note says that it wrote one
abbrev pub entry_frame : Side → Note → List ℕ
entry_frame s (Wrote n) = frame_numbered s n
entry_frame s note = []

-- no side has written
abbrev pub IsNewSides : Sides → Type 0
IsNewSides d = (d.initiator.frames ≡ []) × (d.responder.frames ≡ [])

-- all handshake messages of both have passed
abbrev pub AreOver : Sides → Type 0
AreOver d = (d.initiator.state.party.passed ≡ length d.initiator.state.party.pattern.messages)
    × (d.responder.state.party.passed ≡ length d.responder.state.party.pattern.messages)

-- the two ends start from what the file says, and so do their key schedules
pub record AreTracedEnds (selection : Selection) (file : VectorFile) (made : TracedStart) : Type 0 where
  pub plan : Plan
  pub of_file : IsPlanOf file plan
  pub matches : FileDuelMatches made.duel (sides_of_file file plan)
  pub traced : EndsTraced made.ends (sides_of_file file plan)
  pub lines : bytes_of made.lines.items ≡ start_traces selection file plan
  pub events : made.events ≡ file.events
  pub version : made.version ≡ file.version

-- So far: what comes of the events that are left comes, after the notes and lines so far, of all events.
pub record HasTracedTo (selection : Selection) (d : Sides) (events rest : List Event)
    (duel : DuelValue FileKeys FileKeys) (report : Report) (ends : TracedEnds)
    (traces : List (List (List ℕ))) : Type 0 where
  pub now : Sides
  pub goes_on : (notes : List (Role × Note)) (last : Sides) (run : Run now rest notes last)
      → (all : List (Role × Note)) × (whole : Run d events all last) × (all ≡ notes_of report.entries.items ++ notes)
      × (run_traces selection d last events all whole ≡ traces ++ run_traces selection now last rest notes run)
  pub matches : FileDuelMatches duel now
  pub frames : HasFrames report now
  pub traced : EndsTraced ends now

-- These events make of the sides the report, and these lines of the key schedules.
pub record HasRunTraced (selection : Selection) (d : Sides) (events : List Event) (duel : DuelValue FileKeys FileKeys)
    (report : Report) (ends : TracedEnds) (traces : List (List (List ℕ))) : Type 0 where
  pub notes : List (Role × Note)
  pub notes_are : notes_of report.entries.items ≡ notes
  pub last : Sides
  pub run : Run d events notes last
  pub traces_are : traces ≡ run_traces selection d last events notes run
  pub matches : FileDuelMatches duel last
  pub frames : HasFrames report last
  pub traced : EndsTraced ends last
