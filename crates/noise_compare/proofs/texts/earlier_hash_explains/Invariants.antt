use Rattle.std.proofs.Common.{◌≡◌, take}
use Rattle.std.specs.Prelude.{count_by, nat_lt}
use Rattle.noise_compare.specs.Texts.{sealed_fits}
use Rattle.noise_compare.proofs.texts.earlier_hash_explains.Given as goal

-- whether a hash so far gives what was logged
abbrev pub invariant-loop-hash : goal.invariant-loop-hash
invariant-loop-hash l = l.found ≡ nat_lt 0 (count_by (λ hash. sealed_fits l.at l.logged l.at.before.nonce hash l.at.text.now) (take l.hash-index l.at.hashes.now))
