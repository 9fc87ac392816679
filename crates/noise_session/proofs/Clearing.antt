-- What a ring's words are after one more is cleared.
use Rattle.std.proofs.Common.{rules, ◌≡◌, ℕ, ◌+◌, ◌-◌, ◌%◌, ◌<◌, ◌≤◌, min, List, length, get_or, set, drop}
use Rattle.noise_session.proofs.Common.{drop-set-lt}
use Rattle.noise_session.proofs.Ringing.{place-apart}

-- So many words are cleared, from that of the block down, and now that at this place.
module _ (words : List ℕ) (r block back place : ℕ) (is : place ≡ (block - back) % r) (within : place < length words) (low : back < r) (under : back < block) where
  pub cleared : (b : ℕ) → b ≤ block → block < b + (back + 1) → (block < b + back → get_or words (b % r) 0 ≡ 0) → get_or (set words place 0) (b % r) 0 ≡ 0
  cleared b top near fresh = search rules

  pub untouched : (b : ℕ) → b + (back + 1) ≤ block → block < b + r → get_or (set words place 0) (b % r) 0 ≡ get_or words (b % r) 0
  untouched b below near = search (rules, place-apart)

  pub beyond : drop (min r (block + 1)) (set words place 0) ≡ drop (min r (block + 1)) words
  beyond = search (rules, drop-set-lt)
