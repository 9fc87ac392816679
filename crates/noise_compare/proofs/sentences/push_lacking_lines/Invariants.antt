use Rattle.std.proofs.Common.{◌≡◌, ◌++◌, take}
use Rattle.noise_compare.specs.Advice.{lacking_lines}
use Rattle.noise_compare.proofs.sentences.push_lacking_lines.Given as goal

-- those of the lines so far
abbrev pub invariant-loop-line : goal.invariant-loop-line
invariant-loop-line l = l.text.items ≡ l.initial.text.items ++ lacking_lines l.expected (take l.line-index l.lines)
