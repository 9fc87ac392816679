use Rattle.std.proofs.Common.{◌≡◌, ◌++◌, map, bit_xor, take, drop}
use Rattle.noise_compare.proofs.secrets.padded_by.Given as goal

abbrev pub invariant-loop-i : goal.invariant-loop-i
invariant-loop-i l = l.key ≡ map (λ b. bit_xor b l.pad) (take l.i l.initial.key) ++ drop l.i l.initial.key
