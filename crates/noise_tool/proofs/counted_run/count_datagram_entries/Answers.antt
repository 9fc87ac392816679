use Rattle.std.proofs.Common.{rules, ◌≡◌, ◌<◌, ◌≤◌, length}
use Rattle.noise_tool.proofs.CountingLemmas.{counted-all, counted-next}
use Rattle.noise_tool.proofs.counted_run.count_datagram_entries.Goals as goal

pub loop-role-preserved : goal.loop-role-preserved
loop-role-preserved c = λ messages acts few h.
    let entries = c.args.report.now.entries.items in
    let items = c.deref-role-items.result.now in
    let same : items ≡ entries = search rules in
    let less : c.loop-role.role-index < length items = search rules in
    counted-next _ _ entries items c.loop-role.role-index c.loop-role-item.result messages acts c.loop-role.counts c.count_datagram_entry.new.counts same less
    c.loop-role-item.is few (c.loop-role.invariant messages acts few h) (c.count_datagram_entry.ensures.counted messages)

pub returns : goal.returns
returns c = record {
  counted = λ messages acts few h.
      let entries = c.args.report.now.entries.items in
      let items = c.deref-role-items.result.now in
      let same : items ≡ entries = search rules in
      let all : length items ≤ c.loop-role.role-index = search rules in
      counted-all _ _ entries items c.loop-role.role-index messages acts c.loop-role.counts same all (c.loop-role.invariant messages acts few h);
}
