use Rattle.noise_lines.proofs.Common.{bytes_of, traces_of}
use Rattle.noise_lines.proofs.TracedLinesLemmas.{Written}
use Rattle.noise_lines.proofs.traced_lines.write_each.Given as goal

-- what is written, and what is left
abbrev pub invariant-loop-index : goal.invariant-loop-index
invariant-loop-index g l =
    Written (g.O.Write.contents l.initial.out) (g.O.Write.contents l.out) (bytes_of l.lines) (traces_of l.traces) l.index
