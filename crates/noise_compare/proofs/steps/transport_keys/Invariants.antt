use Rattle.std.proofs.Common.{◌≡◌, take}
use Rattle.noise_compare.specs.Steps.{transport_keys}
use Rattle.noise_compare.proofs.steps.transport_keys.Given as goal

-- those of the lines so far
abbrev pub invariant-loop-line : goal.invariant-loop-line
invariant-loop-line l = l.keys.items ≡ transport_keys (take l.line-index l.right)
