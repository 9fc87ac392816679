use Rattle.std.proofs.Common.{◌≡◌, take}
use Rattle.noise_explain.specs.Corrections.{without_byte}
use Rattle.noise_explain.proofs.change.without_byte.Given as goal

-- the bytes so far, without this one
abbrev pub invariant-loop-it : goal.invariant-loop-it
invariant-loop-it l = l.made.items ≡ without_byte l.byte (take l.it-index l.text)
