use Rattle.std.proofs.Common.{take}
use Rattle.noise_lines.proofs.Common.{flat_map, Appends}
use Rattle.noise_lines.proofs.OutputLemmas.{written_line}
use Rattle.noise_lines.proofs.output.write_lines.Given as goal

-- the lines so far are written
abbrev pub invariant-loop-line : goal.invariant-loop-line
invariant-loop-line g l = Appends (g.O.Write.contents l.initial.out) (g.O.Write.contents l.out) (flat_map written_line (take l.line-index l.lines))
