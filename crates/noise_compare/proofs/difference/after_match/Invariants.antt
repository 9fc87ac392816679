use Rattle.std.proofs.Common.{◌≡◌, drop}
use Rattle.noise_compare.specs.Differences.{after_match}
use Rattle.noise_compare.proofs.difference.after_match.Given as goal

-- the right lines so far aren't due
abbrev pub invariant-loop-place : goal.invariant-loop-place
invariant-loop-place l = after_match l.rule l.logged (drop l.from l.right) ≡ after_match l.rule l.logged (drop l.place l.right)
