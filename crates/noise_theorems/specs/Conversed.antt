-- What comes of lines that two ends of equal setup say to each other.
use Rattle.std.specs.Prelude.{◌≡◌, ℕ, List, [], Option, None, Result, Ok, Err}
use Rattle.noise_names.specs.declared.token.Role.{Role}
use Rattle.noise_names.specs.declared.token.Role.TheVariants.{Initiator, Responder}
use Rattle.noise_names.specs.Plan.{Plan}
use Rattle.noise_keys.specs.declared.keys.Own.{Own}
use Rattle.noise_session.specs.Ends.{hash_in}
use Rattle.noise_duel.specs.declared.report.Report.{Report}
use Rattle.noise_duel.specs.Conversation.{frames_by, notes_of_messages}
use Rattle.noise_names.specs.Lists.{bytes_of}
use Rattle.noise_duel.specs.Entries.{notes_of}
use Rattle.noise_duel.specs.DuelValue.{DuelValue}
use Rattle.noise_duel.specs.Reports.{receive_key_in, send_key_in}
use Rattle.noise_theorems.specs.declared.fault.ConversationFault.{ConversationFault}
use Rattle.noise_theorems.specs.FittingMessages.{bytes_not_received}
use Rattle.noise_theorems.specs.Setup.{AreAfter, BothStarts, IsReportedFault, fault_of, hash_of_messages, transcript_of}
use Rattle.noise_keys.specs.Keys.{KeyPairs}

module _ {K : Type 0} (pairs : K → KeyPairs) where
  pub record HaveConversed (p : Plan) (s : BothStarts) (interval : ℕ) (lines : List (Role × List ℕ))
      (duel : DuelValue K K) (report : Report) : Type 0 where
    pub initiator_frames : bytes_of report.initiator.items ≡ frames_by Initiator (transcript_of p s interval lines)
    pub responder_frames : bytes_of report.responder.items ≡ frames_by Responder (transcript_of p s interval lines)
    pub payloads : notes_of report.entries.items ≡ notes_of_messages 0 0 lines
    pub taken : ((role : Role) → bytes_not_received role (notes_of report.entries.items) ≡ 0)
        × (duel.initiator.partial ≡ []) × (duel.responder.partial ≡ [])
    pub ends : AreAfter pairs p s interval lines duel
    pub hash : (hash_in duel.initiator.phase ≡ hash_of_messages p s lines)
        × (hash_in duel.responder.phase ≡ hash_of_messages p s lines)
    pub keys_there : receive_key_in duel.responder.phase ≡ send_key_in duel.initiator.phase
    pub keys_back : receive_key_in duel.initiator.phase ≡ send_key_in duel.responder.phase

  -- What `converse` returns: the setup has no fault and all lines have come through; else the fault, or lack of memory.
  abbrev pub Converses : Plan → BothStarts → ℕ → List (Role × List ℕ)
      → Result (DuelValue K K × Report) ConversationFault → Type 0
  Converses p s interval lines (Ok r) = (fault_of p s ≡ None) × HaveConversed p s interval lines r.0 r.1
  Converses p s interval lines (Err fault) = IsReportedFault (fault_of p s) fault
