use Rattle.std.proofs.Common.{◌≡◌, ◌+◌, ◌≤◌, take, length}
use Rattle.noise_names.proofs.Common.{with_psks_from}
use Rattle.noise_names.proofs.psks.with_psks.Given as goal

abbrev pub invariant-loop-message : goal.invariant-loop-message
invariant-loop-message l =
    (l.number ≡ l.message-index + 1)
    × (l.psked.items ≡ with_psks_from l.places 1 (take l.message-index l.messages))
    × (length l.psked.items ≤ l.message-index)
