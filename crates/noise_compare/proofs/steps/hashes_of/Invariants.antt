use Rattle.std.proofs.Common.{◌≡◌, take}
use Rattle.noise_compare.specs.Steps.{hashes_of}
use Rattle.noise_compare.proofs.steps.hashes_of.Given as goal

-- those of the states so far
abbrev pub invariant-loop-state : goal.invariant-loop-state
invariant-loop-state l = l.hashes.items ≡ hashes_of (take l.state-index l.states)
