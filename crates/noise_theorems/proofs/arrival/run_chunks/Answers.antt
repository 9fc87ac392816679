use Rattle.std.proofs.Common.{List, ◌∙◌, ap, subst}
use Rattle.noise_theorems.proofs.Common.{Event, Note, noted_by}
use Rattle.noise_theorems.proofs.Pieces.{raw-run}
use Rattle.noise_duel.specs.DuelValue.{both_sides}
use Rattle.noise_duel.specs.Entries.{notes_of}
use Rattle.noise_duel.specs.Runs.{Run}
use Rattle.noise_duel.specs.Sides.{side}
use Rattle.noise_theorems.specs.Joined.{raw_events}
use Rattle.noise_theorems.proofs.arrival.run_chunks.Goals as goal

pub returns-clause-come : goal.returns-clause-come
returns-clause-come g c v w role s last payloads pieces matches is valid far all cut =
    let reported = c.in_ok-made.ensures.reports v w matches in
    let notes = notes_of c.in_ok-made.made.1.entries.items in
    let run : Run (both_sides v w) (raw_events role pieces) notes reported.last =
    subst (λ (es : List Event). Run (both_sides v w) es notes reported.last) is reported.run in
    let h = raw-run role (both_sides v w) reported.last pieces notes run in
    let law = c.joined_frames_come.ensures.whole s (side (both_sides v w) role) last (side reported.last role) payloads pieces h.noted valid far all h.receives cut in
    record {
      reports = reported;
      accepted = h.notes_are ∙ ap (λ (ns : List Note). noted_by role ns) law.0;
      ends = law.1;
    }
