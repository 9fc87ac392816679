use Rattle.std.proofs.Common.{◌≡◌, drop}
use Rattle.noise_theorems.proofs.Common.{first_clash, bytes_of}
use Rattle.noise_theorems.proofs.clash.find_clash.Given as goal

abbrev pub invariant-loop-position : goal.invariant-loop-position
invariant-loop-position l =
    first_clash 0 (bytes_of l.left) (bytes_of l.right) ≡ first_clash l.position (bytes_of (drop l.position l.left)) (bytes_of (drop l.position l.right))
