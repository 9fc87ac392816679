use Rattle.std.proofs.Common.{◌≡◌, take}
use Rattle.noise_compare.specs.Steps.{states_in}
use Rattle.noise_compare.proofs.steps.states_in.Given as goal

-- those of the lines so far
abbrev pub invariant-loop-line : goal.invariant-loop-line
invariant-loop-line l = l.states.items ≡ states_in l.of (take l.line-index l.lines)
