use Rattle.std.proofs.Common.{◌≡◌}
use Rattle.noise_explain.specs.MixedKeys.{mixed_after}
use Rattle.noise_explain.proofs.mixed.mixed_by.Given as goal

-- what the messages so far mix in
abbrev pub invariant-loop-index : goal.invariant-loop-index
invariant-loop-index l = l.mixed ≡ mixed_after l.pattern l.index
