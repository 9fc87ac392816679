use Rattle.std.proofs.Common.{◌≡◌, ◌++◌, take, drop}
use Rattle.noise_keys.specs.Keys.{xored_bytes}
use Rattle.noise_keys.proofs.xor_keys.xor.Given as goal

abbrev pub invariant-loop-i : goal.invariant-loop-i
invariant-loop-i l = l.answer ≡ xored_bytes (take l.i l.key) (take l.i l.other) ++ drop l.i l.key
