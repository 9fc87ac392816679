use Rattle.std.proofs.Common.{map, take}
use Rattle.noise_explain.specs.KeyLines.{AreLines}
use Rattle.noise_explain.proofs.key_lines.read_given.Given as goal

-- the lines so far give this
abbrev pub invariant-loop-i : goal.invariant-loop-i
invariant-loop-i l = AreLines l.places.items (take l.i (map (λ line. line.now) l.lines.items)) l.given.items
