use Rattle.std.proofs.Common.{◌≡◌, map, take}
use Rattle.noise_run.proofs.Common.{HasFrames, Sides, bytes_of, AreExpected}
use Rattle.noise_run.proofs.PrintedLemmas.{entry_line_of}
use Rattle.noise_run.proofs.report.entry_lines.Given as goal

-- the lines of the entries so far
abbrev pub invariant-loop-role : goal.invariant-loop-role
invariant-loop-role l = record {
  lines : (d : Sides) → HasFrames l.report d → bytes_of l.lines.items ≡ map (entry_line_of d) (take l.role-index l.report.entries.items);
  printed : AreExpected l.lines.items;
}
