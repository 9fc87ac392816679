use Rattle.std.proofs.Common.{◌≡◌, ◌++◌}
use Rattle.noise_lines.proofs.Common.{flat_map, range_with_len}
use Rattle.noise_lines.specs.Output.{overhead_line}
use Rattle.noise_lines.proofs.overheads.push_overheads.Given as goal

abbrev pub invariant-loop-index : goal.invariant-loop-index
invariant-loop-index l = l.text.items ≡ l.initial.text.items ++ flat_map (overhead_line l.pattern) (range_with_len 1 l.index)
