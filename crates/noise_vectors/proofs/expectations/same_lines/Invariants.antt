use Rattle.std.proofs.Common.{◌≡◌, ◌-◌, ◌<◌, ◌≤◌, ℕ, length, slice_get}
use Rattle.noise_vectors.proofs.Common.{bytes_of}
use Rattle.noise_vectors.proofs.expectations.same_lines.Given as goal

abbrev pub invariant-loop-same : goal.invariant-loop-same
invariant-loop-same l =
    (l.same ≤ length l.lines)
    × (l.same ≤ length l.expected)
    × ((i : ℕ) → i < l.same → slice_get (bytes_of l.lines) i ≡ slice_get (bytes_of l.expected) i)

abbrev pub decreases-loop-same : goal.decreases-loop-same
decreases-loop-same l = length l.lines - l.same
