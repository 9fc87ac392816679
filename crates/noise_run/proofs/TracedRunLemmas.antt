-- A run, event by event, with the lines of the key schedules.
use Rattle.std.proofs.Common.{rules, ◌≡◌, ◌∙◌, sym, ap, subst, ℕ, List, [], ◌∷◌, ◌++◌, length, drop, append_assoc, append-nil}
use Rattle.noise_run.proofs.Common.{Role, Event, Entry, notes_of, DuelMatches, DuelValue, Note, Run, Sides, FileKeys, EndsTraced, HasRunTraced, HasTracedTo, IsNewSides, happened_traces, run_traces, Selection, TracedEnds}
use Rattle.noise_duel.specs.declared.report.Report.{Report}
use Rattle.noise_duel.specs.OneEvent.{HasHappened}
use Rattle.noise_duel.specs.Runs.Run.{ends, begins}
use Rattle.noise_vectors.specs.FileKeys.{pairs_of}

abbrev Traces : Type 0
Traces = List (List (List ℕ))

abbrev Duel : Type 0
Duel = DuelValue FileKeys FileKeys

abbrev Noted : Type 0
Noted = List (Role × Note)

-- the notes of the entries that an event added
notes-after : (before after : List (Role × Entry)) (notes : Noted) → notes_of after ≡ notes_of before ++ notes
    → notes_of (drop (length before) after) ≡ notes
notes-after [] after notes e = e
notes-after (b ∷ bs) [] notes e = absurd (cc e)
notes-after (b ∷ bs) (a ∷ more) notes e = notes-after bs more notes (ap rest-of e)
  where
    rest-of : Noted → Noted
    rest-of [] = []
    rest-of (x ∷ xs) = xs

pub new-notes : (before after part : List (Role × Entry)) (notes : Noted) (n : ℕ) → n ≡ length before → part ≡ drop n after
    → notes_of after ≡ notes_of before ++ notes → notes_of part ≡ notes
new-notes before after part notes n count is e = search (rules, notes-after)

-- what comes of the events that are left
abbrev GoesOn : Selection → Sides → List Event → Report → Traces → Sides → List Event → Type 0
GoesOn selection d events report traces now rest = (notes : Noted) (last : Sides) (run : Run now rest notes last)
    → (all : Noted) × (whole : Run d events all last) × (all ≡ notes_of report.entries.items ++ notes)
    × (run_traces selection d last events all whole ≡ traces ++ run_traces selection now last rest notes run)

-- before the first event
pub none-traced : (selection : Selection) (d : Sides) (events : List Event) (duel : Duel) (report : Report) (traced : TracedEnds) (traces : Traces)
    → DuelMatches pairs_of pairs_of duel d → IsNewSides d → EndsTraced traced d → traces ≡ []
    → report.initiator.items ≡ [] → report.responder.items ≡ [] → report.entries.items ≡ []
    → HasTracedTo selection d events events duel report traced traces
none-traced selection d events duel report traced traces matches new follows none first second entries = record {
  now = d;
  goes_on = λ notes last run. (
    notes,
    run,
    ap (λ (es : List (Role × Entry)). notes_of es ++ notes) (sym entries),
    ap (λ (ts : Traces). ts ++ run_traces selection d last events notes run) (sym none),
  );
  matches = matches;
  frames = search;
  traced = follows;
}

-- one event more
pub one-traced : (selection : Selection) (d : Sides) (events rest later : List Event) (event : Event) (duel after : Duel) (report reported : Report)
    (traced followed : TracedEnds) (traces grown : Traces) → rest ≡ event ∷ later
    → (h : HasTracedTo selection d events rest duel report traced traces)
    → (e : HasHappened pairs_of pairs_of h.now event after report reported)
    → (grown ≡ traces ++ happened_traces selection h.now e.next event e.notes e.happens) × EndsTraced followed e.next
    → HasTracedTo selection d events later after reported followed grown
one-traced selection d events rest later event duel after report reported traced followed traces grown is h e made =
    let on : GoesOn selection d events report traces h.now (event ∷ later) =
    subst (λ (z : List Event). GoesOn selection d events report traces h.now z) is h.goes_on in
    record {
      now = e.next;
      goes_on = λ notes last run.
          let (all, whole, all_is, traces_are) = on (e.notes ++ notes) last (begins h.now e.next last event later e.notes notes e.happens run) in (
            all,
            whole,
            all_is ∙ sym (append_assoc (notes_of report.entries.items) e.notes notes)
                ∙ ap (λ (ns : Noted). ns ++ notes) (sym e.entries),
            traces_are
                ∙ sym (append_assoc traces (happened_traces selection h.now e.next event e.notes e.happens) (run_traces selection e.next last later notes run))
                ∙ ap (λ (ts : Traces). ts ++ run_traces selection e.next last later notes run) (sym made.0),
          );
      matches = e.matches;
      frames = e.frames;
      traced = made.1;
    }

-- all events
pub all-traced : (selection : Selection) (d : Sides) (events rest : List Event) (duel : Duel) (report : Report) (traced : TracedEnds) (traces : Traces) → rest ≡ []
    → HasTracedTo selection d events rest duel report traced traces → HasRunTraced selection d events duel report traced traces
all-traced selection d events rest duel report traced traces none h =
    let on : GoesOn selection d events report traces h.now [] = subst (λ (z : List Event). GoesOn selection d events report traces h.now z) none h.goes_on in
    let (all, whole, all_is, traces_are) = on [] h.now (ends h.now) in
    record {
      notes = all;
      notes_are = sym (all_is ∙ append-nil (notes_of report.entries.items));
      last = h.now;
      run = whole;
      traces_are = sym (traces_are ∙ append-nil traces);
      matches = h.matches;
      frames = h.frames;
      traced = h.traced;
    }
