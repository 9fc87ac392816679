use Rattle.std.proofs.Common.{◌<◌, ◌^◌, arith, length, rules}
use Rattle.noise_duel.specs.DatagramReports.{datagram_notes_of}
use Rattle.noise_tool.proofs.counted_run.count_datagrams.Goals as goal

pub returns-clause-run : goal.returns-clause-run
returns-clause-run c = λ v w matches.
    let ran = c.in_ok-report.ensures.reports v w matches in
    (datagram_notes_of c.in_ok-report.report.entries.items, ran.last, rw (← c.deref.ensures.value) ran.run)

pub returns-clause-counted : goal.returns-clause-counted
returns-clause-counted c = λ v w messages acts matches few h.
    let entries = c.in_ok-report.report.entries.items in
    let ran = c.in_ok-report.ensures.reports v w matches in
    let short : length entries < 2 ^ 63 = search rules in
    let counted = c.count_datagram_entries.ensures.counted messages acts (omega (arith, few, short)) (c.go_over.ensures.counted messages acts h) in
    (datagram_notes_of entries, ran.last, rw (← c.deref.ensures.value) ran.run, counted)
