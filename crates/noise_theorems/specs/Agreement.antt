-- What two ends of equal setup agree on over any network.
use Rattle.std.specs.Prelude.{◌≡◌, ◌⊎◌, ℕ, List, Some, None, Result, Ok, Err}
use Rattle.noise_names.specs.declared.token.Role.TheVariants.{Initiator, Responder}
use Rattle.noise_names.specs.Plan.{Plan}
use Rattle.noise_session.specs.Ends.{hash_in}
use Rattle.noise_events.specs.Events.{Event}
use Rattle.noise_duel.specs.declared.report.Report.{Report}
use Rattle.noise_duel.specs.Conversation.{sides_at_start}
use Rattle.noise_names.specs.Lists.{bytes_of}
use Rattle.noise_duel.specs.Entries.{notes_of}
use Rattle.noise_duel.specs.DuelValue.{DuelValue, DuelMatches}
use Rattle.noise_duel.specs.Messages.{Start}
use Rattle.noise_duel.specs.Networks.{HaveOneHash, HaveOneHistory, HaveClash, PayloadsAgree, SharePsks}
use Rattle.noise_duel.specs.Reports.{Reports}
use Rattle.noise_duel.specs.Sides.{Sides}
use Rattle.noise_theorems.specs.declared.fault.ConversationFault.{ConversationFault}
use Rattle.noise_theorems.specs.Entries.{EntriesAgree, KeysMeet}
use Rattle.noise_theorems.specs.Payloads.{ReportsPayloads}
use Rattle.noise_theorems.specs.Setup.{BothStarts, IsReportedFault, fault_of}
use Rattle.noise_keys.specs.Keys.{KeyPairs}

module _ {K : Type 0} (pairs : K → KeyPairs) where
  -- Two ends have one history after a run; what each accepted is the first of what the other wrote, up to a forged
  -- message, in the run and by the report's own entries and frames; and the ends left hold the keys of the next
  -- messages.
  pub record HaveAgreed (p : Plan) (a b : Start) (interval : ℕ) (events : List Event) (duel : DuelValue K K)
      (report : Report) (last : Sides) : Type 0 where
    pub history : HaveOneHistory p a b last
    pub payloads : PayloadsAgree interval last
    pub entries : EntriesAgree p interval events (notes_of report.entries.items) (bytes_of report.initiator.items)
        (bytes_of report.responder.items) last
    pub keys : KeysMeet events (notes_of report.entries.items) duel

  -- The report is that of the run of the events from two new ends, and the ends left are those after it. Where both
  -- report one hash, they agree on all of it; or two texts that they hashed clash.
  pub record AgreeOverNetwork (p : Plan) (s : BothStarts) (interval : ℕ) (events : List Event) (duel : DuelValue K K)
      (report : Report) : Type 0 where
    pub reports : Reports pairs pairs
        (sides_at_start p s.initiator s.responder interval interval) events duel report
    -- by the report each role wrote and accepted the payloads that it wrote and accepted in the run, whatever the
    -- hashes are
    pub initiator : ReportsPayloads Initiator events (notes_of report.entries.items) reports.last.initiator
    pub responder : ReportsPayloads Responder events (notes_of report.entries.items) reports.last.responder
    -- the psks are the same, and the keys' DH results are alike
    pub psks : SharePsks p s.initiator s.responder reports.last
    pub agreed : (hash : List ℕ) → hash_in duel.initiator.phase ≡ Some hash → hash_in duel.responder.phase ≡ Some hash
        → HaveAgreed p s.initiator s.responder interval events duel report reports.last
        ⊎ HaveClash p s.initiator s.responder reports.last

  -- What `run_events` returns: the setup has no fault and all this holds; else the fault, or lack of memory.
  abbrev pub RunsOverNetwork : Plan → BothStarts → ℕ → List Event
      → Result (DuelValue K K × Report) ConversationFault → Type 0
  RunsOverNetwork p s interval events (Ok r) = (fault_of p s ≡ None) × AgreeOverNetwork p s interval events r.0 r.1
  RunsOverNetwork p s interval events (Err fault) = IsReportedFault (fault_of p s) fault

-- Two ends that report one hash match states that have one hash: the one that agreement speaks of.
module _ {A B : Type 0} (pairs_a : A → KeyPairs)
    (pairs_b : B → KeyPairs) where
  abbrev pub HashIsReported : Type 0
  HashIsReported = (duel : DuelValue A B) (d : Sides) (hash : List ℕ)
      → DuelMatches pairs_a pairs_b duel d
      → hash_in duel.initiator.phase ≡ Some hash → hash_in duel.responder.phase ≡ Some hash → HaveOneHash d
