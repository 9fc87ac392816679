use Rattle.std.proofs.Common.{◌≡◌, ◌++◌, map, take}
use Rattle.noise_run.proofs.Common.{bytes_of, AreExpected}
use Rattle.noise_run.proofs.PrintedLemmas.{datagram_line_of}
use Rattle.noise_run.proofs.datagram_report.push_datagram_lines.Given as goal

-- the lines of the entries so far
abbrev pub invariant-loop-role : goal.invariant-loop-role
invariant-loop-role l = record {
  lines : bytes_of l.lines.items ≡ bytes_of l.initial.lines.items ++ map datagram_line_of (take l.role-index l.report.entries.items);
  printed : AreExpected l.initial.lines.items → AreExpected l.lines.items;
}
