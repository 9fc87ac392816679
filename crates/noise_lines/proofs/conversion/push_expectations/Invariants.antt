use Rattle.std.proofs.Common.{◌≡◌, ◌++◌, take}
use Rattle.noise_lines.proofs.Common.{flat_map}
use Rattle.noise_lines.proofs.ConvertingLemmas.{expectation}
use Rattle.noise_lines.proofs.conversion.push_expectations.Given as goal

-- the lines so far are expected
abbrev pub invariant-loop-line : goal.invariant-loop-line
invariant-loop-line l = l.text.items ≡ l.initial.text.items ++ flat_map expectation (take l.line-index l.lines)
