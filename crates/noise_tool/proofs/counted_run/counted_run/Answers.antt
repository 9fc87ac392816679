use Rattle.std.proofs.Common.{rules, ◌≡◌, ◌<◌, ◌^◌, [], arith, length, map, refl}
use Rattle.noise_tool.proofs.Common.{events_of, notes_of, sides_of_file}
use Rattle.noise_run.specs.Printed.{note_line}
use Rattle.noise_run.specs.Running.{LeavesLines}
use Rattle.std.proofs.lemmas.List.{length-map}
use Rattle.noise_duel.specs.Entries.{note_of}
use Rattle.noise_duel.specs.Notes.{Note}
use Rattle.noise_names.specs.declared.token.Role.{Role}
use Rattle.noise_tool.proofs.CountingLemmas.{few-acts}
use Rattle.noise_tool.specs.Counting.{acts_in}
use Rattle.noise_tool.proofs.RunningLemmas.{is-run}
use Rattle.noise_tool.proofs.counted_run.counted_run.Goals as goal

pub returns-clause-run : goal.returns-clause-run
returns-clause-run c =
    let made = c.in_ok-duel.ensures in
    let start = sides_of_file c.args.file made.ends.plan in
    let run = c.in_ok-duel-2.ensures.reports start.initiator.state start.responder.state made.ends.matches in
    let notes = notes_of c.in_ok-duel-2.report.entries.items in
    let ran : LeavesLines start (events_of c.deref.result.now) c.in_ok-duel-2.duel (map (note_line run.last) notes) = record {
      notes = notes;
      last = run.last;
      run = run.run;
      matches = run.matches;
      lines_are = refl;
    } in
    let after = c.in_ok-count_last.ensures.run run.last run.matches in
    let same : events_of c.deref.result.now ≡ events_of c.args.file.events.items = search rules in
    let which : c.in_ok-duel.version ≡ c.args.file.version = search rules in
    (_, is-run c.args.file made.ends.plan _ _ _ _ _ after.0 made.ends.of_file same which ran after.1 refl)

pub returns-clause-counted : goal.returns-clause-counted
returns-clause-counted c =
    let made = c.in_ok-duel.ensures in
    let start = sides_of_file c.args.file made.ends.plan in
    let run = c.in_ok-duel-2.ensures.reports start.initiator.state start.responder.state made.ends.matches in
    let entries = c.in_ok-duel-2.report.entries.items in
    let notes = notes_of entries in
    let short : length entries < 2 ^ 63 = search rules in
    let events : events_of c.deref.result.now ≡ events_of c.args.file.events.items = search rules in
    let which : c.in_ok-duel.version ≡ c.args.file.version = search rules in
    let counted = c.in_ok-count_entries.ensures.counted c.args.messages [] (omega (arith, short)) c.new-counts.ensures.counted in
    let few : length (acts_in notes) < 2 ^ 63 = omega (arith, short, few-acts notes, length-map {B = Role × Note} entries (λ e. (e.0, note_of e.1))) in
    let after = c.in_ok-count_last.ensures.counted run.last c.args.messages (acts_in notes) run.matches few counted in
    record {
      plan = made.ends.plan;
      of_file = made.ends.of_file;
      notes = notes;
      last = run.last;
      run = rw (← events) run.run;
      datagram_notes = after.0;
      are_last = rw (← which) after.1;
      counted = after.2;
    }
