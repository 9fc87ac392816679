use Rattle.std.proofs.Common.{◌≡◌, length}
use Rattle.noise_vectors.proofs.Common.{All, last_number, IsAllowed, IsEvent, event_words, lines_of}
use Rattle.noise_vectors.proofs.events.read_events.Given as goal

abbrev pub invariant-loop-alloc : goal.invariant-loop-alloc
invariant-loop-alloc l =
    (l.fn.lines.rest.now ≡ lines_of event_words l.events.items l.lines.rest.now)
    × All (IsAllowed l.allowed) l.events.items
    × All IsEvent l.events.items
    × (last_number l.lines ≡ last_number l.fn.lines)

abbrev pub decreases-loop-alloc : goal.decreases-loop-alloc
decreases-loop-alloc l = length l.lines.rest.now
