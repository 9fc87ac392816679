use Rattle.std.proofs.Common.{drop}
use Rattle.noise_duel.proofs.Common.{EndState, events_of, DuelMatches, both_sides, HasComeTo}
use Rattle.noise_duel.proofs.duel.Duel.run.Given as goal

abbrev pub invariant-loop-event : goal.invariant-loop-event
invariant-loop-event g l =
    (v w : EndState) → DuelMatches g.A.Keys.pairs g.B.Keys.pairs l.fn.self (both_sides v w)
    → HasComeTo g.A.Keys.pairs g.B.Keys.pairs (both_sides v w) (events_of l.events)
    (events_of (drop l.event-index l.events)) l.self l.report
