use Rattle.std.proofs.Common.{◌≡◌, take}
use Rattle.std.specs.Prelude.{count_by, nat_lt}
use Rattle.noise_compare.specs.Texts.{sealed_fits}
use Rattle.noise_compare.proofs.texts.other_key_explains.Given as goal

-- whether a key so far gives what was logged
abbrev pub invariant-loop-key : goal.invariant-loop-key
invariant-loop-key l = l.found ≡ nat_lt 0 (count_by (λ key. sealed_fits l.at l.logged l.at.before.nonce l.at.before.hash key) (take l.key-index l.at.publics.now))
