-- What following an event adds to the traces of a run: for each of its entries the lines that follow it.
use Rattle.std.specs.Prelude.{◌≡◌, ℕ, List, ◌∷◌, [], ◌++◌, length, Result, IfOk, OnOk, Vec}
use Rattle.std.specs.Global.{Global}
use Rattle.noise_duel.specs.declared.entry.Entry.{Entry}
use Rattle.noise_duel.specs.declared.report.Report.{Report}
use Rattle.noise_duel.specs.Entries.{notes_of}
use Rattle.noise_duel.specs.DuelValue.{HasFrames}
use Rattle.noise_duel.specs.Notes.{Note, Judged, held_note, noted_by}
use Rattle.noise_duel.specs.Runs.{Happens, SideReads, SideReceives, SideWrites}
use Rattle.noise_duel.specs.Sides.{Side, Sides, side, with_side}
use Rattle.noise_events.specs.Events.{Event}
use Rattle.noise_lines.specs.TracedLines.{traces_of}
use Rattle.noise_names.specs.declared.token.Role.{Role}
use Rattle.noise_session.specs.Steps.{StepValue}
use Rattle.noise_run.specs.declared.key_use_lines.Selection.{Selection}
use Rattle.noise_run.specs.declared.traced_end.TracedEnd.{TracedEnd}
use Rattle.noise_run.specs.declared.traced_ends.TracedEnds.{TracedEnds}
use Rattle.noise_run.specs.TracedEnds.{EndsTraced, ShowsEnd, TracedMatches}
use Rattle.noise_run.specs.Tracing.{came_traces, happened_traces, read_trace, written_frame, written_trace}
use Rattle.noise_names.specs.Lists.{bytes_of}

-- the traces of a run, as code has them
abbrev pub Traces : Type 0
Traces = List (Vec (Vec ℕ Global) Global)

abbrev pub Entries : Type 0
Entries = List (Role × Entry)

-- the entries are those of bytes that came to this role, of which its side then has these notes
abbrev pub AreOfBytes : Role → Side → List Note → Entries → Type 0
AreOfBytes role reader notes entries =
    notes_of entries ≡ noted_by role (notes ++ held_note (length reader.state.partial))

-- ---- one end

-- the lines of a write, by its frame and its note, and the end after it
abbrev pub TracesWrite : {E : Type 0} → Selection → TracedEnd → TracedEnd → List ℕ → Note
    → Result (Vec (Vec ℕ Global) Global) E → Type 0
TracesWrite selection old new bytes noted result =
    (s : Side) (payload : List ℕ) (next : Side) (note : Note) (w : SideWrites s payload note next)
    → TracedMatches old s.state → noted ≡ note → bytes ≡ written_frame s payload next note w
    → IfOk result (λ lines. (bytes_of lines.items ≡ written_trace selection old.role s payload next note w)
    × TracedMatches new next.state)

-- the lines of a message that came, by its note, and the end after it
abbrev pub TracesRead : {E : Type 0} → Selection → TracedEnd → TracedEnd → List ℕ → Note
    → Result (Vec (Vec ℕ Global) Global) E → Type 0
TracesRead selection old new message noted result =
    (s next : Side) (text : List ℕ) (step : StepValue) (r : SideReads s text step next)
    → ShowsEnd old s.state → message ≡ text → noted ≡ Judged step
    → IfOk result (λ lines. (bytes_of lines.items ≡ read_trace selection old.role s next text step r)
    × ShowsEnd new next.state)

-- for each of these entries of bytes that came, the lines that follow it, and the bytes of the next frame
abbrev pub TracesReads : {E : Type 0} → Selection → TracedEnd → TracedEnd → List ℕ → Entries → Traces → Traces
    → Result (Vec ℕ Global) E → Type 0
TracesReads selection old new came entries before after result =
    (s reader : Side) (role : Role) (bytes : List ℕ) (notes : List Note) (x : SideReceives s bytes notes reader)
    → ShowsEnd old s.state → came ≡ s.state.partial ++ bytes → AreOfBytes role reader notes entries
    → IfOk result (λ left. (left.items ≡ reader.state.partial)
    × (traces_of after ≡ traces_of before ++ came_traces selection old.role s reader bytes notes x)
    × ShowsEnd new reader.state)

-- the same, with these bytes in the end after it
abbrev pub TracesReceived : {A E : Type 0} → Selection → TracedEnd → TracedEnd → List ℕ → Entries → Traces → Traces
    → Result A E → Type 0
TracesReceived selection old new bytes entries before after result =
    (s reader : Side) (role : Role) (notes : List Note) (x : SideReceives s bytes notes reader)
    → TracedMatches old s.state → AreOfBytes role reader notes entries
    → OnOk result ((traces_of after ≡ traces_of before ++ came_traces selection old.role s reader bytes notes x)
    × TracedMatches new reader.state)

-- ---- both ends

-- these traces come after the others, and the ends are traced up to these sides
abbrev pub AreTraced : TracedEnds → Sides → Traces → Traces → List (List (List ℕ)) → Type 0
AreTraced ends d before after more = (traces_of after ≡ traces_of before ++ more) × EndsTraced ends d

-- the lines of a write of this role, by its frame and its note
abbrev pub TracesWriteOf : {E : Type 0} → Selection → Role → List ℕ → Note → TracedEnds → TracedEnds
    → Result (Vec (Vec ℕ Global) Global) E → Type 0
TracesWriteOf selection role bytes noted old new result =
    (d : Sides) (next : Side) (payload : List ℕ) (note : Note) (w : SideWrites (side d role) payload note next)
    → EndsTraced old d → noted ≡ note → bytes ≡ written_frame (side d role) payload next note w
    → IfOk result (λ lines. (bytes_of lines.items ≡ written_trace selection role (side d role) payload next note w)
    × EndsTraced new (with_side d role next))

-- the same, by a report that has the frame
abbrev pub TracesEntry : {A E : Type 0} → Selection → Role → Report → Note → TracedEnds → TracedEnds → Traces → Traces
    → Result A E → Type 0
TracesEntry selection role report noted old new before after result =
    (d last : Sides) (next : Side) (payload : List ℕ) (note : Note) (w : SideWrites (side d role) payload note next)
    → EndsTraced old d → HasFrames report last → (side last role).frames ≡ next.frames → noted ≡ note
    → OnOk result (AreTraced new (with_side d role next) before after
    (written_trace selection role (side d role) payload next note w ∷ []))

-- the lines of bytes that came to this role, by their entries
abbrev pub TracesBytes : {A E : Type 0} → Selection → Role → List ℕ → Entries → TracedEnds → TracedEnds → Traces
    → Traces → Result A E → Type 0
TracesBytes selection role bytes entries old new before after result =
    (d : Sides) (reader : Side) (notes : List Note) (x : SideReceives (side d role) bytes notes reader)
    → EndsTraced old d → AreOfBytes role reader notes entries
    → OnOk result (AreTraced new (with_side d role reader) before after
    (came_traces selection role (side d role) reader bytes notes x))

-- the lines of an event, by its entries, which the report has
abbrev pub TracesEvent : {A E : Type 0} → Selection → Event → Report → Entries → TracedEnds → TracedEnds → Traces
    → Traces → Result A E → Type 0
TracesEvent selection event report entries old new before after result =
    (d next : Sides) (notes : List (Role × Note)) (h : Happens d event notes next)
    → EndsTraced old d → HasFrames report next → notes_of entries ≡ notes
    → OnOk result (AreTraced new next before after (happened_traces selection d next event notes h))
