use Rattle.std.proofs.Common.{◌≡◌, [], drop}
use Rattle.noise_run.proofs.Common.{DuelMatches, Sides, events_of, traces_of, EndsTraced, HasTracedTo, IsNewSides}
use Rattle.noise_run.proofs.tracing.run_traced.Given as goal
use Rattle.noise_vectors.specs.FileKeys.{pairs_of}

abbrev pub invariant-loop-event : goal.invariant-loop-event
invariant-loop-event l =
    (d : Sides) → DuelMatches pairs_of pairs_of l.fn.duel d → IsNewSides d → EndsTraced l.fn.ends d
    → traces_of l.fn.traces.items ≡ []
    → HasTracedTo l.selection d (events_of l.events) (events_of (drop l.event-index l.events)) l.duel l.report l.ends (traces_of l.traces.items)
