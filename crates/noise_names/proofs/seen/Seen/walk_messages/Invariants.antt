use Rattle.std.proofs.Common.{◌≡◌, List, ◌++◌, ◌+◌, drop, Ok}
use Rattle.noise_names.proofs.Common.{Initiator, Place, message_places, Walks}
use Rattle.noise_names.proofs.seen.Seen.walk_messages.Given as goal

abbrev pub invariant-loop-message : goal.invariant-loop-message
invariant-loop-message l =
    (l.number ≡ l.message-index + 1)
    × (done : List Place) × Walks l.initial.self l.self done (Ok tt)
    × (done ++ message_places l.party l.number (drop l.message-index l.messages) ≡ message_places Initiator 1 l.messages)
