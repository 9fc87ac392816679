-- Two new ends of one setup, and the lines that they say.
use Rattle.std.specs.Prelude.{◌≡◌, ℕ, List, Option, None, Result, Ok, Err, IfOk, true}
use Rattle.noise_names.specs.declared.token.Role.{Role}
use Rattle.noise_names.specs.Limits.{IsPattern}
use Rattle.noise_names.specs.Plan.{Plan}
use Rattle.noise_names.specs.Validity.{IsValid}
use Rattle.noise_keys.specs.declared.keys.Own.{Own}
use Rattle.noise_duel.specs.declared.report.Report.{Report}
use Rattle.noise_duel.specs.Conversation.{sides_at_start}
use Rattle.noise_duel.specs.DuelValue.{DuelMatches, DuelValue}
use Rattle.noise_duel.specs.SetUpAlike.{AreSetUpAlike, HasDhResults, HasLongKeys}
use Rattle.noise_theorems.specs.declared.fault.ConversationFault.{ConversationFault}
use Rattle.noise_theorems.specs.Conversed.{HaveConversed}
use Rattle.noise_theorems.specs.FittingMessages.{messages_fit_from}
use Rattle.noise_theorems.specs.Setup.{BothStarts, IsReportedFault, fault_of}
use Rattle.noise_keys.specs.Keys.{KeyPairs}

module _ {K : Type 0} (pairs : K → KeyPairs) where
  -- two new ends that are set up alike, for a valid pattern
  pub record AreNewEnds (p : Plan) (s : BothStarts) (interval : ℕ) (duel : DuelValue K K) : Type 0 where
    pub matches : DuelMatches pairs pairs duel
        (sides_at_start p s.initiator s.responder interval interval)
    pub alike : AreSetUpAlike p s.initiator.prologue s.initiator s.responder
    pub initiator_keys : HasLongKeys s.initiator
    pub responder_keys : HasLongKeys s.responder
    pub pattern : IsPattern p
    pub valid : IsValid p

  -- Such ends, if there is no fault in their setup; else the fault, or lack of memory.
  abbrev pub MakesEnds : Plan → BothStarts → ℕ → Result (DuelValue K K) ConversationFault → Type 0
  MakesEnds p s interval (Ok duel) = (fault_of p s ≡ None) × AreNewEnds p s interval duel
  MakesEnds p s interval (Err fault) = IsReportedFault (fault_of p s) fault

  -- Between any such ends these lines come through, if they fit and both parties have a result at each DH token.
  abbrev pub SaysMessages : {E : Type 0} → List (Role × List ℕ) → DuelValue K K → Result (DuelValue K K × Report) E
      → Type 0
  SaysMessages lines duel result = (p : Plan) (s : BothStarts) (interval : ℕ)
      → AreNewEnds p s interval duel → messages_fit_from p 0 lines ≡ true → HasDhResults p s.initiator s.responder
      → IfOk result (λ r. HaveConversed pairs p s interval lines r.0 r.1)
