use Rattle.std.proofs.Common.{drop}
use Rattle.noise_duel.proofs.Common.{EndState, say_events, DuelMatches, both_sides, HasComeTo}
use Rattle.noise_duel.specs.Acts.{roles_and_payloads}
use Rattle.noise_duel.proofs.duel.Duel.converse.Given as goal

abbrev pub invariant-loop-role : goal.invariant-loop-role
invariant-loop-role g l =
    (v w : EndState) → DuelMatches g.A.Keys.pairs g.B.Keys.pairs l.fn.self (both_sides v w)
    → HasComeTo g.A.Keys.pairs g.B.Keys.pairs (both_sides v w) (say_events (roles_and_payloads l.lines))
    (say_events (roles_and_payloads (drop l.role-index l.lines))) l.self l.report
