use Rattle.std.proofs.Common.{◌≡◌, vec_len}
use Rattle.noise_session.proofs.Common.{vec_capacity}
use Rattle.noise_session.proofs.frame.zeros_one_by_one.Given as goal

abbrev pub invariant-loop-at : goal.invariant-loop-at
invariant-loop-at l = (vec_len l.bytes ≡ l.at) × (vec_capacity l.bytes ≡ 65537)
