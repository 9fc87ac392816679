use Rattle.std.proofs.Common.{drop}
use Rattle.noise_duel.proofs.Common.{DatagramState, datagram_events_of, DatagramDuelMatches, datagram_sides, DatagramsHaveComeTo}
use Rattle.noise_duel.proofs.datagram_duel.DatagramDuel.run.Given as goal

abbrev pub invariant-loop-event : goal.invariant-loop-event
invariant-loop-event l =
    (v w : DatagramState) → DatagramDuelMatches l.fn.self (datagram_sides v w)
    → DatagramsHaveComeTo (datagram_sides v w) (datagram_events_of l.events) (datagram_events_of (drop l.event-index l.events)) l.self l.sealed l.report
