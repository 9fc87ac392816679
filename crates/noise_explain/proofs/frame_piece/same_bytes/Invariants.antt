use Rattle.std.proofs.Common.{◌≡◌, ◌-◌, ◌<◌, ◌≤◌, ℕ, length, slice_get}
use Rattle.noise_explain.proofs.frame_piece.same_bytes.Given as goal

-- the frames begin with so many bytes alike
abbrev pub invariant-loop-same : goal.invariant-loop-same
invariant-loop-same l =
    (l.same ≤ length l.yours)
    × (l.same ≤ length l.right)
    × ((i : ℕ) → i < l.same → slice_get l.yours i ≡ slice_get l.right i)

abbrev pub decreases-loop-same : goal.decreases-loop-same
decreases-loop-same l = length l.yours - l.same
