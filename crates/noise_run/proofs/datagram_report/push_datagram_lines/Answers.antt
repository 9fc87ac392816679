use Rattle.std.proofs.Common.{rules, ◌≡◌, ◌∙◌, ◌<◌, ◌≤◌, ◌++◌, ap, length}
use Rattle.noise_run.proofs.Common.{bytes_of}
use Rattle.noise_run.proofs.PrintedLemmas.{datagram_entries-lines, datagram_line_of, line-pushed, lines-done, expected-push}
use Rattle.noise_run.proofs.datagram_report.push_datagram_lines.Goals as goal

pub loop-role-preserved : goal.loop-role-preserved
loop-role-preserved c =
    let entries = c.args.report.now.entries.items in
    let items = c.deref-role-items.result.now in
    let same : items ≡ entries = search rules in
    let less : c.loop-role.role-index < length items = search rules in
    record {
      lines =
          line-pushed datagram_line_of (bytes_of c.args.lines.now.items) c.loop-role.lines.items c.push.new.self.items c.into_bytes.result entries items
          c.loop-role.role-index c.loop-role-item.result same less c.loop-role-item.is (c.into_bytes.ensures.text ∙ c.in_ok-line.ensures)
          c.loop-role.invariant.lines c.in_ok-push.ensures.items;
      printed = λ before.
          expected-push _ _ _ c.in_ok-push.ensures.items c.into_bytes.ensures.printed (c.loop-role.invariant.printed before);
    }

pub returns-clause-lines : goal.returns-clause-lines
returns-clause-lines c =
    let entries = c.args.report.now.entries.items in
    let items = c.deref-role-items.result.now in
    let same : items ≡ entries = search rules in
    let all : length items ≤ c.loop-role.role-index = search rules in
    lines-done datagram_line_of (bytes_of c.args.lines.now.items) _ entries items c.loop-role.role-index same all c.loop-role.invariant.lines
    ∙ ap (λ t. bytes_of c.args.lines.now.items ++ t) (datagram_entries-lines entries)
