use Rattle.std.proofs.Common.{◌-◌, ◌≤◌, length, take}
use Rattle.noise_lines.proofs.Common.{Appends}
use Rattle.noise_lines.proofs.output.write.Given as goal

-- so many bytes are written
abbrev pub invariant-loop-at : goal.invariant-loop-at
invariant-loop-at g l = record {
  within : l.at ≤ length l.text;
  written : Appends (g.O.Write.contents l.initial.out) (g.O.Write.contents l.out) (take l.at l.text);
}

abbrev pub decreases-loop-at : goal.decreases-loop-at
decreases-loop-at g l = length l.text - l.at
