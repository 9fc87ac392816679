use Rattle.std.proofs.Common.{◌≡◌, ◌≤◌, Some, length, take}
use Rattle.noise_compare.specs.Walk.{left_by, left_from}
use Rattle.noise_compare.proofs.difference.first_unmatched.Given as goal

-- the lines so far are matched, and these are left
abbrev pub invariant-loop-index : goal.invariant-loop-index
invariant-loop-index l = (l.initiator ≤ length l.right) × (l.responder ≤ length l.right)
    × (left_by l.rule l.right (take l.index l.log) ≡ Some (left_from l.right l.initiator l.responder))
