use Rattle.std.proofs.Common.{◌⊎◌, ℕ, List}
use Rattle.noise_keys.specs.Keys.{KeyPairs}
use Rattle.noise_names.specs.Plan.{Plan}
use Rattle.noise_events.specs.Events.{Event}
use Rattle.noise_duel.specs.Clash.{HistoriesClash}
use Rattle.noise_duel.specs.DuelValue.{DuelValue}
use Rattle.noise_duel.specs.Messages.{Start}
use Rattle.noise_duel.specs.Sides.{Sides}
use Rattle.noise_duel.specs.declared.report.Report.{Report}
use Rattle.noise_theorems.specs.Agreement.{AgreeOverNetwork}
use Rattle.noise_theorems.specs.Setup.{BothStarts}
use Rattle.noise_tests.proofs.tests.datagram_conversations.over_datagrams.Goals as goal

-- what holds of the starts and the last ends of a run
of-run : {K : Type 0} (pairs : K → KeyPairs) (p : Plan) (s : BothStarts) (interval : ℕ) (events : List Event) (duel : DuelValue K K) (report : Report)
    (A : Sides → Type 0) (ran : AgreeOverNetwork pairs p s interval events duel report)
    → A ran.reports.last ⊎ HistoriesClash p s.initiator s.responder ran.reports.last
    → (q : Plan) × (a : Start) × (b : Start) × (d : Sides) × (A d ⊎ HistoriesClash q a b d)
of-run pairs p s interval events duel report A ran holds = (p, s.initiator, s.responder, ran.reports.last, holds)

pub returns-in-Ok-run_datagrams : goal.returns-in-Ok-run_datagrams
returns-in-Ok-run_datagrams c =
    let a = c.in-Ok.ensures.reports.1 in
    of-run _ _ _ _ _ _ _ _ a
    (c.in-Ok-run_datagrams.ensures.hashes _ _ _ _ _ _ _ a.reports.last _ a.reports.run a.reports.matches a.psks
    c.in-Some.ensures.first c.in-Some.ensures.second)
