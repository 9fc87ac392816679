-- The trace of a file, from its parts.
use Rattle.std.proofs.Common.{rules, ◌≡◌, ◌∙◌, refl, ap, subst, ℕ, List, ◌++◌, map, Option}
use Rattle.noise_run.proofs.Common.{events_of, notes_of, DuelValue, Sides, FileKeys, FileDatagrams, VectorFile, sides_of_file, note_line, AreLast, datagrams_of_version, AreTracedEnds, HasRunTraced, HasTraces, last_traces, start_traces, Selection, TracedEnds}
use Rattle.noise_events.specs.Events.{Event as Act}
use Rattle.noise_duel.specs.declared.report.Report.{Report}
use Rattle.noise_run.specs.declared.traced_ends.TracedStart.{TracedStart}

abbrev Traces : Type 0
Traces = List (List (List ℕ))

abbrev Lines : Type 0
Lines = List (List ℕ)

-- the lines after the events, and those of the key schedules there
record HasEnded (selection : Selection) (datagrams : Option FileDatagrams) (last : Sides) (lines whole : Lines) (traces pushed : Traces) : Type 0 where
  pub after : Lines
  pub are_last : AreLast datagrams last after
  pub whole_is : whole ≡ lines ++ after
  pub pushed_is : pushed ≡ traces ++ last_traces selection datagrams last after are_last

ended_session-of : (selection : Selection) (datagrams : Option FileDatagrams) (last : Sides) (lines whole : Lines) (traces pushed : Traces)
    → ((after : Lines) (are_last : AreLast datagrams last after) → pushed ≡ traces ++ last_traces selection datagrams last after are_last)
    → (after : Lines) × AreLast datagrams last after × (whole ≡ lines ++ after) → HasEnded selection datagrams last lines whole traces pushed
ended_session-of selection datagrams last lines whole traces pushed keys c = record {
  after = c.0;
  are_last = c.1;
  whole_is = c.2;
  pushed_is = keys c.0 c.1;
}

pub traced-whole : (selection : Selection) (file : VectorFile) (made : TracedStart) (a : AreTracedEnds selection file made) (events : List Act)
    (duel : DuelValue FileKeys FileKeys) (report : Report) (ends : TracedEnds) (traces pushed : Traces) (start lines whole : Lines)
    → events ≡ events_of file.events.items
    → (r : HasRunTraced selection (sides_of_file file a.plan) events duel report ends traces)
    → start ≡ start_traces selection file a.plan
    → lines ≡ map (note_line r.last) (notes_of report.entries.items)
    → ((after : Lines) (are_last : AreLast (datagrams_of_version made.version) r.last after)
    → pushed ≡ traces ++ last_traces selection (datagrams_of_version made.version) r.last after are_last)
    → (after : Lines) × AreLast (datagrams_of_version made.version) r.last after × (whole ≡ lines ++ after)
    → HasTraces selection file whole start pushed
traced-whole selection file made a events duel report ends traces pushed start lines whole same r start_is lines_is keys closes =
    let ended_session : HasEnded selection (datagrams_of_version file.version) r.last lines whole traces pushed =
    subst (λ (o : Option FileDatagrams). HasEnded selection o r.last lines whole traces pushed) (ap datagrams_of_version a.version)
    (ended_session-of selection (datagrams_of_version made.version) r.last lines whole traces pushed keys closes) in
    of-parts ended_session (subst (λ (z : List Act). (q : HasRunTraced selection (sides_of_file file a.plan) z duel report ends traces) × (q.last ≡ r.last)) same (r, refl))
  where
    of-parts : HasEnded selection (datagrams_of_version file.version) r.last lines whole traces pushed
        → (q : HasRunTraced selection (sides_of_file file a.plan) (events_of file.events.items) duel report ends traces) × (q.last ≡ r.last)
        → HasTraces selection file whole start pushed
    of-parts ended_session (q, last_is) =
        let here : HasEnded selection (datagrams_of_version file.version) q.last lines whole traces pushed = search rules in
        record {
          run = record {
            plan = a.plan;
            of_file = a.of_file;
            notes = q.notes;
            last = q.last;
            run = q.run;
            after = here.after;
            are_last = here.are_last;
            lines_are = search;
          };
          start_is = start_is;
          traces_are = here.pushed_is ∙ ap (λ (z : Traces). z ++ last_traces selection (datagrams_of_version file.version) q.last here.after here.are_last) q.traces_are;
        }
