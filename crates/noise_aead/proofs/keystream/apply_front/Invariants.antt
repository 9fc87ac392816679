use Rattle.std.proofs.Common.{◌≡◌, ℕ, ◌<◌, ◌≤◌, List, get_or}
use Rattle.noise_aead.proofs.Common.{bit_xor}
use Rattle.noise_aead.proofs.keystream.apply_front.Given as goal

-- The bytes below j are done and those from j on are as they were.
pub record Applied (stream text done : List ℕ) (j : ℕ) : Type 0 where
  pub before : (k : ℕ) → k < j → get_or done k 0 ≡ bit_xor (get_or text k 0) (get_or stream k 0)
  pub after : (k : ℕ) → j ≤ k → get_or done k 0 ≡ get_or text k 0

abbrev pub invariant-loop-j : goal.invariant-loop-j
invariant-loop-j l = Applied l.stream l.fn.text l.text l.j
