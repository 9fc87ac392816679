use Rattle.std.proofs.Common.{◌≡◌, take}
use Rattle.std.specs.Prelude.{flat_map}
use Rattle.noise_explain.specs.RuleWords.{rule_lines}
use Rattle.noise_explain.proofs.explanation.other_rule_lines.Given as goal

-- the lines of the rules so far
abbrev pub invariant-loop-other : goal.invariant-loop-other
invariant-loop-other l = l.text.items ≡ flat_map (rule_lines l.pattern) (take l.other-index l.other-items)
