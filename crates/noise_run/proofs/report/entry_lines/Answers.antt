use Rattle.std.proofs.Common.{rules, ◌≡◌, ◌∙◌, ◌<◌, ◌≤◌, [], length}
use Rattle.noise_run.proofs.PrintedLemmas.{entries-lines, entry_line_of, line-pushed, lines-done, expected-push}
use Rattle.noise_run.proofs.report.entry_lines.Goals as goal

pub loop-role-preserved : goal.loop-role-preserved
loop-role-preserved c =
    let entries = c.args.report.now.entries.items in
    let items = c.deref-role-items.result.now in
    let same : items ≡ entries = search rules in
    let less : c.loop-role.role-index < length items = search rules in
    record {
      lines = λ d frames.
          line-pushed (entry_line_of d) [] c.loop-role.lines.items c.push.new.self.items c.into_bytes.result entries items c.loop-role.role-index
          c.loop-role-item.result same less c.loop-role-item.is (c.into_bytes.ensures.text ∙ c.in_ok-line.ensures d frames)
          (c.loop-role.invariant.lines d frames) c.in_ok-push.ensures.items;
      printed = expected-push _ _ _ c.in_ok-push.ensures.items c.into_bytes.ensures.printed c.loop-role.invariant.printed;
    }

pub returns-clause-lines : goal.returns-clause-lines
returns-clause-lines c = λ d frames.
    let entries = c.args.report.now.entries.items in
    let items = c.deref-role-items.result.now in
    let same : items ≡ entries = search rules in
    let all : length items ≤ c.loop-role.role-index = search rules in
    lines-done (entry_line_of d) [] _ entries items c.loop-role.role-index same all (c.loop-role.invariant.lines d frames) ∙ entries-lines d entries
