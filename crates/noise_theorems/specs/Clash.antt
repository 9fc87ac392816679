-- Where the texts clash of two ends with different prologues that report one hash.
use Rattle.std.specs.Prelude.{◌≡◌, ◌≢◌, ℕ, List, Some, Result, IfOk}
use Rattle.noise_names.specs.Plan.{Plan}
use Rattle.noise_session.specs.Ends.{hash_in}
use Rattle.noise_events.specs.Events.{Event}
use Rattle.noise_duel.specs.declared.report.Report.{Report}
use Rattle.noise_duel.specs.Clash.{HistoriesClash}
use Rattle.noise_duel.specs.Conversation.{sides_at_start}
use Rattle.noise_duel.specs.DuelValue.{DuelValue, DuelMatches}
use Rattle.noise_duel.specs.Messages.{Start}
use Rattle.noise_duel.specs.Reports.{Reports}
use Rattle.noise_keys.specs.Keys.{KeyPairs}

module _ {A B : Type 0} (pairs_a : A → KeyPairs)
    (pairs_b : B → KeyPairs) where
  -- The report is the run's, and where both ends report one hash, there is a first position at which the texts that
  -- they hashed differ with one digest.
  pub record ClashOverNetwork (p : Plan) (a b : Start) (i j : ℕ) (events : List Event) (duel : DuelValue A B)
      (report : Report) : Type 0 where
    pub reports : Reports pairs_a pairs_b (sides_at_start p a b i j) events duel report
    pub clash : (hash : List ℕ) → hash_in duel.initiator.phase ≡ Some hash → hash_in duel.responder.phase ≡ Some hash
        → HistoriesClash p a b reports.last

  -- Of two new ends of one pattern, with different prologues, it is so at the end of the run of these events.
  abbrev pub ClashesInRun : {E : Type 0} → List Event → DuelValue A B → Result (DuelValue A B × Report) E → Type 0
  ClashesInRun events duel result = (p : Plan) (a b : Start) (i j : ℕ)
      → DuelMatches pairs_a pairs_b duel (sides_at_start p a b i j) → a.prologue ≢ b.prologue
      → IfOk result (λ r. ClashOverNetwork p a b i j events r.0 r.1)
