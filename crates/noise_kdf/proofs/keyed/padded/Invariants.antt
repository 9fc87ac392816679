use Rattle.std.proofs.Common.{◌≡◌, ◌++◌, map, bit_xor, take, drop}
use Rattle.noise_kdf.proofs.keyed.padded.Given as goal

abbrev pub invariant-loop-i : goal.invariant-loop-i
invariant-loop-i l = l.block ≡ map (λ b. bit_xor b l.pad) (take l.i l.initial.block) ++ drop l.i l.initial.block
