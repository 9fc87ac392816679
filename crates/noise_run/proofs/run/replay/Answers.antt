use Rattle.std.proofs.Common.{◌∙◌, ap}
use Rattle.noise_run.proofs.Common.{bytes_of, events_of, notes_of, sides_of_file}
use Rattle.noise_run.specs.Running.{LeavesLines}
use Rattle.noise_run.proofs.RunningLemmas.{is-run}
use Rattle.noise_run.proofs.run.replay.Goals as goal

pub returns-clause-lines : goal.returns-clause-lines
returns-clause-lines c =
    let made = c.in_ok-duel.ensures in
    let start = sides_of_file c.args.file made.ends.plan in
    let run = c.in_ok-duel-2.ensures.reports start.initiator.state start.responder.state made.ends.matches in
    let ran : LeavesLines start (events_of c.deref.result.now) c.in_ok-duel-2.duel (bytes_of c.in_ok-lines.lines.items) = record {
      notes = notes_of c.in_ok-duel-2.report.entries.items;
      last = run.last;
      run = run.run;
      matches = run.matches;
      lines_are = c.in_ok-lines.ensures.lines run.last run.frames;
    } in
    let after = c.in_ok-close.ensures.after ran.last ran.matches in
    is-run c.args.file made.ends.plan _ _ _ _ _ after.0 made.ends.of_file (ap events_of (c.deref.ensures.value ∙ ap (λ events. events.items) made.value.0))
    made.value.1 ran after.1 after.2
