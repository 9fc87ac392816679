-- What an event is, and the lines of it.
use Rattle.std.proofs.Common.{rules, ◌≡◌, ◌≢◌, ◌∙◌, ◌⊎◌, inl, inr, refl, sym, ap, subst, ℕ, List, [], ◌∷◌, ◌++◌, length, Option, Some, None, slice_get, append_assoc, Result, OnOk}
use Rattle.noise_run.proofs.Common.{unwrap_or, Role, Initiator, Responder, other, Event, Write, Say, Deliver, Raw, SendFault, frame, Entry, note_of, notes_of, Note, Wrote, WriteFault, held_note, noted_by, Happens, SideReceives, SideWrites, writes_nothing, writes_handshake, writes_transport, Side, Sides, side, with_side, frame_numbered, EndsTraced, entry_frame, came_traces, happened_traces, written_frame, written_trace, Selection, TracedEnds, get-last}
use Rattle.noise_duel.specs.Runs.Happens.{writes, says_nothing, says, delivers, misses, injects}
use Rattle.noise_run.proofs.ReceivedLemmas.{first-note}
use Rattle.noise_run.proofs.RunningLemmas.{on_ok}
use Rattle.std.proofs.lemmas.Option.{same_Some}
use Rattle.noise_duel.specs.declared.entry.Entry.TheVariants as entry

abbrev pub Traces : Type 0
Traces = List (List (List ℕ))

-- the lines of an event that is the same
pub event-same : (selection : Selection) (d next : Sides) (notes : List (Role × Note)) (e f : Event) → e ≡ f → (P : Traces → Type 0)
    → ((h : Happens d f notes next) → P (happened_traces selection d next f notes h)) → (h : Happens d e notes next) → P (happened_traces selection d next e notes h)
event-same selection d next notes e f same P at =
    subst (λ (z : Event). (h : Happens d z notes next) → P (happened_traces selection d next z notes h)) (sym same) at

-- ---- a write

pub record Wrote-only (selection : Selection) (d next : Sides) (role : Role) (payload : List ℕ) (notes : List (Role × Note)) (traces : Traces) : Type 0 where
  pub note : Note
  pub after : Side
  pub w : SideWrites (side d role) payload note after
  pub notes_are : notes ≡ (role, note) ∷ []
  pub next_is : next ≡ with_side d role after
  pub traces_are : traces ≡ written_trace selection role (side d role) payload after note w ∷ []

pub of-write : (selection : Selection) (d next : Sides) (role : Role) (payload : List ℕ) (notes : List (Role × Note)) (h : Happens d (Write role payload) notes next)
    → Wrote-only selection d next role payload notes (happened_traces selection d next (Write role payload) notes h)
of-write selection d next role payload notes (writes _ _ _ note after w) = record {
  note = note;
  after = after;
  w = w;
  notes_are = refl;
  next_is = refl;
  traces_are = refl;
}

-- the frames that a role has written after its write are not changed by the other role
pub frames-written : (d : Sides) (role : Role) (s : Side) → (side (with_side d role s) role).frames ≡ s.frames
frames-written d Initiator s = refl
frames-written d Responder s = refl

pub frames-kept : (d : Sides) (role : Role) (reader : Side) → (side (with_side d role reader) (other role)).frames ≡ (side d (other role)).frames
frames-kept d Initiator reader = refl
frames-kept d Responder reader = refl

pub reader-kept : (d : Sides) (role : Role) (s : Side) → side (with_side d role s) (other role) ≡ side d (other role)
reader-kept d Initiator s = refl
reader-kept d Responder s = refl

-- ---- a payload that is said

pub record Said-all (selection : Selection) (d next : Sides) (role : Role) (payload : List ℕ) (notes : List (Role × Note)) (traces : Traces) : Type 0 where
  pub number : ℕ
  pub bytes : List ℕ
  pub heard : List Note
  pub after : Side
  pub reader : Side
  pub w : SideWrites (side d role) payload (Wrote number) after
  pub got : slice_get after.frames number ≡ Some bytes
  pub x : SideReceives (side d (other role)) bytes heard reader
  pub notes_are : notes ≡ (role, Wrote number) ∷ noted_by (other role) (heard ++ held_note (length reader.state.partial))
  pub next_is : next ≡ with_side (with_side d role after) (other role) reader
  pub traces_are : traces ≡ written_trace selection role (side d role) payload after (Wrote number) w
      ∷ came_traces selection (other role) (side d (other role)) reader bytes heard x

pub record Said-none (selection : Selection) (d next : Sides) (role : Role) (payload : List ℕ) (notes : List (Role × Note)) (traces : Traces) : Type 0 where
  pub why : SendFault
  pub after : Side
  pub w : SideWrites (side d role) payload (WriteFault why) after
  pub notes_are : notes ≡ (role, WriteFault why) ∷ []
  pub next_is : next ≡ with_side d role after
  pub traces_are : traces ≡ written_trace selection role (side d role) payload after (WriteFault why) w ∷ []

pub of-say : (selection : Selection) (d next : Sides) (role : Role) (payload : List ℕ) (notes : List (Role × Note)) (h : Happens d (Say role payload) notes next)
    → Said-all selection d next role payload notes (happened_traces selection d next (Say role payload) notes h)
    ⊎ Said-none selection d next role payload notes (happened_traces selection d next (Say role payload) notes h)
of-say selection d next role payload notes (says_nothing _ _ _ why after w) = inr (record {
  why = why;
  after = after;
  w = w;
  notes_are = refl;
  next_is = refl;
  traces_are = refl;
})
of-say selection d next role payload notes (says _ _ _ bytes n heard after reader w got x) = inl (record {
  number = n;
  bytes = bytes;
  heard = heard;
  after = after;
  reader = reader;
  w = w;
  got = got;
  x = x;
  notes_are = refl;
  next_is = refl;
  traces_are = refl;
})

-- ---- bytes that come

pub record Came (selection : Selection) (d next : Sides) (role : Role) (bytes : List ℕ) (notes : List (Role × Note)) (traces : Traces) : Type 0 where
  pub heard : List Note
  pub reader : Side
  pub x : SideReceives (side d role) bytes heard reader
  pub notes_are : notes ≡ noted_by role (heard ++ held_note (length reader.state.partial))
  pub next_is : next ≡ with_side d role reader
  pub traces_are : traces ≡ came_traces selection role (side d role) reader bytes heard x

pub of-raw : (selection : Selection) (d next : Sides) (role : Role) (bytes : List ℕ) (notes : List (Role × Note)) (h : Happens d (Raw role bytes) notes next)
    → Came selection d next role bytes notes (happened_traces selection d next (Raw role bytes) notes h)
of-raw selection d next role bytes notes (injects _ _ _ heard reader x) = record {
  heard = heard;
  reader = reader;
  x = x;
  notes_are = refl;
  next_is = refl;
  traces_are = refl;
}

some-of-none : (o : Option (List ℕ)) (x : List ℕ) → o ≡ Some x → o ≡ None → ⊥
some-of-none o x e f = cc

pub of-deliver : (selection : Selection) (d next : Sides) (role : Role) (n : ℕ) (notes : List (Role × Note)) (h : Happens d (Deliver role n) notes next)
    → (frame : List ℕ) → slice_get (side next (other role)).frames n ≡ Some frame
    → Came selection d next role frame notes (happened_traces selection d next (Deliver role n) notes h)
of-deliver selection d next role n notes (delivers _ _ _ bytes heard reader got x) frame found =
    let same : bytes ≡ frame = same_Some bytes frame
    (sym got ∙ ap (λ (fs : List (List ℕ)). slice_get fs n) (sym (frames-kept d role reader)) ∙ found) in
    subst (λ (z : List ℕ). Came selection d (with_side d role reader) role z (noted_by role (heard ++ held_note (length reader.state.partial)))
    (came_traces selection role (side d role) reader bytes heard x)) same (record {
      heard = heard;
      reader = reader;
      x = x;
      notes_are = refl;
      next_is = refl;
      traces_are = refl;
    })
of-deliver selection d next role n notes (misses _ _ _ none) frame found = absurd (some-of-none _ frame found none)

pub of-missing : (selection : Selection) (d next : Sides) (role : Role) (n : ℕ) (notes : List (Role × Note)) (h : Happens d (Deliver role n) notes next)
    → slice_get (side next (other role)).frames n ≡ None
    → (next ≡ d) × (happened_traces selection d next (Deliver role n) notes h ≡ [] ∷ [])
of-missing selection d next role n notes (delivers _ _ _ bytes heard reader got x) none =
    absurd (some-of-none _ bytes got (ap (λ (fs : List (List ℕ)). slice_get fs n) (sym (frames-kept d role reader)) ∙ none))
of-missing selection d next role n notes (misses _ _ _ gone) none = (refl, refl)

-- ---- the frame of a write

pub written-frame : (s : Side) (payload : List ℕ) (next last : Side) (note : Note) (w : SideWrites s payload note next) → last.frames ≡ next.frames
    → entry_frame last note ≡ written_frame s payload next note w
written-frame s payload next last note (writes_nothing _ _ why after sends) same = refl
written-frame s payload next last note (writes_handshake _ message _ xs free w) same =
    ap (λ (fs : List (List ℕ)). unwrap_or (slice_get fs (length s.frames)) []) same
    ∙ ap (λ (o : Option (List ℕ)). unwrap_or o []) (get-last s.frames (frame message))
written-frame s payload next last note (writes_transport _ message _ free opens is) same =
    ap (λ (fs : List (List ℕ)). unwrap_or (slice_get fs (length s.frames)) []) same
    ∙ ap (λ (o : Option (List ℕ)). unwrap_or o []) (get-last s.frames (frame message))

-- ---- a payload that is said, in code

pub none-first : (role : Role) (note : Note) (notes : List (Role × Note)) → [] ≡ (role, note) ∷ notes → ⊥
none-first role note notes e = cc e

-- no entry
pub say-none : (selection : Selection) (d next : Sides) (role : Role) (payload : List ℕ) (notes : List (Role × Note)) (h : Happens d (Say role payload) notes next)
    → [] ≡ notes → ⊥
say-none selection d next role payload notes h none = at (of-say selection d next role payload notes h) where
  at : Said-all selection d next role payload notes (happened_traces selection d next (Say role payload) notes h)
      ⊎ Said-none selection d next role payload notes (happened_traces selection d next (Say role payload) notes h) → ⊥
  at (inl s) = none-first role (Wrote s.number) _ (none ∙ s.notes_are)
  at (inr s) = none-first role (WriteFault s.why) _ (none ∙ s.notes_are)

-- what is known of the write, and of the bytes that come then
abbrev Writes-on : Selection → Sides → Sides → Role → Note → Traces → Traces → TracedEnds → TracedEnds → Type 0
Writes-on selection d last role given old one before between = (next : Side) (payload : List ℕ) (note : Note) (w : SideWrites (side d role) payload note next)
    → EndsTraced before d → (side last role).frames ≡ next.frames → given ≡ note
    → (one ≡ old ++ written_trace selection role (side d role) payload next note w ∷ []) × EndsTraced between (with_side d role next)

-- nothing was written
pub say-fault : (selection : Selection) (d next : Sides) (role by : Role) (payload : List ℕ) (notes more : List (Role × Note))
    (h : Happens d (Say role payload) notes next) (given : Note) (old one : Traces) (before between : TracedEnds) → EndsTraced before d
    → (by, given) ∷ more ≡ notes → ((n : ℕ) → given ≢ Wrote n) → Writes-on selection d next role given old one before between
    → (one ≡ old ++ happened_traces selection d next (Say role payload) notes h) × EndsTraced between next
say-fault selection d next role by payload notes more h given old one before between traced reported no_number on = at (of-say selection d next role payload notes h)
  where
    at : Said-all selection d next role payload notes (happened_traces selection d next (Say role payload) notes h)
        ⊎ Said-none selection d next role payload notes (happened_traces selection d next (Say role payload) notes h)
        → (one ≡ old ++ happened_traces selection d next (Say role payload) notes h) × EndsTraced between next
    at (inl s) = absurd (no_number s.number (first-note by role given (Wrote s.number) more _ (reported ∙ s.notes_are)).0)
    at (inr s) =
        let done = on s.after payload (WriteFault s.why) s.w traced
        (ap (λ (z : Sides). (side z role).frames) s.next_is ∙ frames-written d role s.after)
        (first-note by role given (WriteFault s.why) more _ (reported ∙ s.notes_are)).0 in (
          done.0 ∙ ap (λ (x : Traces). old ++ x) (sym s.traces_are),
          subst (λ (z : Sides). EndsTraced between z) (sym s.next_is) done.1,
        )

-- the number of a frame that was written
abbrev number_in : Note → ℕ
number_in (Wrote n) = n
number_in _ = 0

-- a frame was written, and came to the other role
pub say-frame : {E : Type 0} (selection : Selection) (d next : Sides) (role by : Role) (payload : List ℕ) (notes more : List (Role × Note))
    (h : Happens d (Say role payload) notes next) (number : ℕ) (frame : List ℕ) (old one new : Traces) (before between after : TracedEnds)
    (to : Role) (r : Result Unit E) → EndsTraced before d
    → (by, Wrote number) ∷ more ≡ notes → frame ≡ frame_numbered (side next role) number → to ≡ other role
    → Writes-on selection d next role (Wrote number) old one before between
    → ((e : Sides) (reader : Side) (heard : List Note) (x : SideReceives (side e to) frame heard reader) → EndsTraced between e
    → more ≡ noted_by to (heard ++ held_note (length reader.state.partial))
    → OnOk r ((new ≡ one ++ came_traces selection to (side e to) reader frame heard x) × EndsTraced after (with_side e to reader)))
    → OnOk r ((new ≡ old ++ happened_traces selection d next (Say role payload) notes h) × EndsTraced after next)
say-frame {E = E} selection d next role by payload notes more h number frame old one new before between after to r traced reported framed to_is on comes =
    at (of-say selection d next role payload notes h)
  where
    at : Said-all selection d next role payload notes (happened_traces selection d next (Say role payload) notes h)
        ⊎ Said-none selection d next role payload notes (happened_traces selection d next (Say role payload) notes h)
        → OnOk r ((new ≡ old ++ happened_traces selection d next (Say role payload) notes h) × EndsTraced after next)
    at (inr s) =
        let bad : Wrote number ≡ WriteFault s.why = (first-note by role (Wrote number) (WriteFault s.why) more _ (reported ∙ s.notes_are)).0 in absurd (cc bad)
    at (inl s) =
        let two = first-note by role (Wrote number) (Wrote s.number) more _ (reported ∙ s.notes_are) in
        let heads : Wrote number ≡ Wrote s.number = two.0 in
        let written : (side next role).frames ≡ s.after.frames = search rules in
        let done = on s.after payload (Wrote s.number) s.w traced written heads in
        let text : frame ≡ s.bytes =
        framed ∙ ap (λ (n : ℕ). frame_numbered (side next role) n) (ap number_in heads)
        ∙ ap (λ (fs : List (List ℕ)). unwrap_or (slice_get fs s.number) []) written
        ∙ ap (λ (o : Option (List ℕ)). unwrap_or o []) s.got in
        let came = subst (λ (z : Role). (reader : Side) (heard : List Note) (x : SideReceives (side (with_side d role s.after) z) frame heard reader)
        → more ≡ noted_by z (heard ++ held_note (length reader.state.partial))
        → OnOk r ((new ≡ one ++ came_traces selection z (side (with_side d role s.after) z) reader frame heard x)
        × EndsTraced after (with_side (with_side d role s.after) z reader))) to_is
        (λ reader heard x noted. comes (with_side d role s.after) reader heard x done.1 noted) in
        let read = subst (λ (z : Side). (reader : Side) (heard : List Note) (x : SideReceives z frame heard reader)
        → more ≡ noted_by (other role) (heard ++ held_note (length reader.state.partial))
        → OnOk r ((new ≡ one ++ came_traces selection (other role) z reader frame heard x)
        × EndsTraced after (with_side (with_side d role s.after) (other role) reader))) (reader-kept d role s.after) came in
        let last = subst (λ (z : List ℕ). (reader : Side) (heard : List Note) (x : SideReceives (side d (other role)) z heard reader)
        → more ≡ noted_by (other role) (heard ++ held_note (length reader.state.partial))
        → OnOk r ((new ≡ one ++ came_traces selection (other role) (side d (other role)) reader z heard x)
        × EndsTraced after (with_side (with_side d role s.after) (other role) reader))) text read in
        on_ok r _ _ (λ both. (
          both.0 ∙ ap (λ (x : Traces). x ++ came_traces selection (other role) (side d (other role)) s.reader s.bytes s.heard s.x) done.0
              ∙ append_assoc old (written_trace selection role (side d role) payload s.after (Wrote s.number) s.w ∷ [])
              (came_traces selection (other role) (side d (other role)) s.reader s.bytes s.heard s.x)
              ∙ ap (λ (x : Traces). old ++ x) (sym s.traces_are),
          subst (λ (z : Sides). EndsTraced after z) (sym s.next_is) both.1,
        )) (last s.reader s.heard s.x two.1)

-- an entry that reports of no frame
pub note-number : (e : Entry) → ((n : ℕ) → e ≡ entry.Wrote n → ⊥) → (n : ℕ) → note_of e ≢ Wrote n
note-number (entry.Wrote m) none n e = none m refl
note-number _ none n e = cc e

pub no-entries : (entries : List (Role × Entry)) → length entries ≡ 0 → [] ≡ notes_of entries
no-entries [] e = refl
no-entries (x ∷ xs) e = absurd (cc e)
