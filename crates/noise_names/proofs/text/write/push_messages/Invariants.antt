use Rattle.std.proofs.Common.{◌≡◌, ◌≤◌, ◌+◌, ◌*◌, ◌++◌, length, drop}
use Rattle.noise_names.proofs.Common.{Initiator, message_lines}
use Rattle.noise_names.proofs.text.write.push_messages.Given as goal

abbrev pub invariant-loop-message : goal.invariant-loop-message
invariant-loop-message l =
    (l.out.items ++ message_lines l.role (drop l.message-index l.messages) ≡ l.fn.out.items ++ message_lines Initiator l.messages)
    × (length l.out.items ≤ length l.fn.out.items + 56 * l.message-index)
