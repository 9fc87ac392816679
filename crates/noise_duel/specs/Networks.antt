-- What two new ends of one pattern agree on over any network, once both have opened with one hash (Noise 11.2).
use Rattle.std.specs.Prelude.{◌≡◌, ◌⊎◌, ℕ, List, Some}
use Rattle.noise_names.specs.declared.token.Role.{Role}
use Rattle.noise_names.specs.declared.token.Role.TheVariants.{Initiator, Responder}
use Rattle.noise_names.specs.Plan.{Plan}
use Rattle.noise_session.specs.Ends.{session_hash}
use Rattle.noise_duel.specs.Histories.{PartiesClash, history_of}
use Rattle.noise_duel.specs.Messages.{Start, dh_results_from, HaveSameKeysBefore, messages_of}
use Rattle.noise_duel.specs.Sides.{Sides}
use Rattle.noise_events.specs.Events.{Event}
use Rattle.noise_duel.specs.Notes.{Note}
use Rattle.noise_duel.specs.Runs.{Run}
use Rattle.noise_duel.specs.Conversation.{sides_at_start}
use Rattle.noise_duel.specs.Agreement.{VisiblyEqual, KeysAgree, IsSetUp}
use Rattle.noise_duel.specs.Forgery.{PrefixOrForgedMessage}

-- Both have opened, and report one hash; either may have ended since.
pub record HaveOneHash (d : Sides) : Type 0 where
  pub hash : List ℕ
  pub initiator : session_hash d.initiator.state ≡ Some hash
  pub responder : session_hash d.responder.state ≡ Some hash

-- at some position two texts that the ends hashed clash
abbrev pub HaveClash : Plan → Start → Start → Sides → Type 0
HaveClash p a b d = PartiesClash p a b d.initiator.passed d.responder.passed

-- the psks are the same, and so is the DH result that each end used at each DH token
pub record UsedSamePsks (p : Plan) (a b : Start) (d : Sides) : Type 0 where
  pub psks : a.psks ≡ b.psks
  pub dh_results : dh_results_from p 0 d.initiator.passed ≡ dh_results_from p 0 d.responder.passed

-- the psks are the same, and the keys' DH results are alike; both handshakes were made without a fault
pub record HaveSamePsks (p : Plan) (a b : Start) : Type 0 where
  pub psks : a.psks ≡ b.psks
  pub keys : KeysAgree a b
  pub initiator : IsSetUp p Initiator a
  pub responder : IsSetUp p Responder b

-- The ends used the same psks and DH results, or they started from the same psks with keys that agree.
abbrev pub SharePsks : Plan → Start → Start → Sides → Type 0
SharePsks p a b d = UsedSamePsks p a b d ⊎ HaveSamePsks p a b

-- with equal hashes: all that can be seen of the conversation is the same, or there is a clash
abbrev pub HashesReport : Type 0
HashesReport = (p : Plan) (a b : Start) (i j : ℕ) (events : List Event) (notes : List (Role × Note)) (d : Sides)
    → Run (sides_at_start p a b i j) events notes d → HaveOneHash d
    → VisiblyEqual p a b d.initiator.passed d.responder.passed ⊎ HaveClash p a b d

-- all of the conversation, what travelled encrypted too, and one history, and so one state: one hash, one chaining key,
-- the same transport keys
pub record HaveOneHistory (p : Plan) (a b : Start) (d : Sides) : Type 0 where
  pub passed : d.initiator.passed ≡ d.responder.passed
  pub history : history_of p Initiator a d.initiator.passed ≡ history_of p Responder b d.responder.passed
  pub state : d.initiator.state.party.state ≡ d.responder.state.party.state

-- The other way round: two opened ends whose conversations are the same as far as they can be seen, with the same psks
-- and DH results, have one hash.
abbrev pub VisiblyEqualGivesOne : Type 0
VisiblyEqualGivesOne = (p : Plan) (a b : Start) (i j : ℕ) (events : List Event) (notes : List (Role × Note)) (d : Sides)
    → Run (sides_at_start p a b i j) events notes d
    → a.prologue ≡ b.prologue → HaveSameKeysBefore p a b
    → messages_of d.initiator.passed ≡ messages_of d.responder.passed → UsedSamePsks p a b d → HaveOneHistory p a b d

-- With equal hashes and the same psks the ends have the whole conversation and one history in common, or there is a
-- collision.
abbrev pub PsksMakeOne : Type 0
PsksMakeOne = (p : Plan) (a b : Start) (i j : ℕ) (events : List Event) (notes : List (Role × Note)) (d : Sides)
    → Run (sides_at_start p a b i j) events notes d → HaveOneHash d
    → SharePsks p a b d → HaveOneHistory p a b d ⊎ HaveClash p a b d

-- in each direction the accepted payloads are the first of the written ones, in order, or a forged message was accepted
pub record PayloadsAgree (interval : ℕ) (d : Sides) : Type 0 where
  pub there : PrefixOrForgedMessage
      d.initiator.state.party.state Initiator interval d.initiator.sent d.responder.received
  pub back : PrefixOrForgedMessage
      d.responder.state.party.state Responder interval d.responder.sent d.initiator.received

-- With equal hashes, the same psks and equal intervals the accepted payloads agree with the written ones, or there
-- is a clash.
abbrev pub PayloadsCome : Type 0
PayloadsCome = (p : Plan) (a b : Start) (interval : ℕ) (events : List Event) (notes : List (Role × Note)) (d : Sides)
    → Run (sides_at_start p a b interval interval) events notes d → HaveOneHash d
    → SharePsks p a b d → PayloadsAgree interval d ⊎ HaveClash p a b d
