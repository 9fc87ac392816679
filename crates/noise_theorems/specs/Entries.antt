-- What two ends with one hash agree on by a report: its payloads, and the keys of the next messages.
use Rattle.std.specs.Prelude.{◌≡◌, ◌≢◌, ◌⊎◌, ℕ, zero, suc, ◌+◌, List, ◌++◌, length, take, Some, slice_get, if◌then◌else◌}
use Rattle.noise_names.specs.declared.token.Role.{Role}
use Rattle.noise_names.specs.declared.token.Role.TheVariants.{Initiator, Responder}
use Rattle.noise_names.specs.Tokens.{other, same_role, turn_from}
use Rattle.noise_names.specs.Plan.{Plan}
use Rattle.noise_state.specs.declared.symmetric.SymmetricState.{SymmetricState}
use Rattle.noise_session.specs.Frames.{frame}
use Rattle.noise_session.specs.Steps.StepValue.{Payload}
use Rattle.noise_session.specs.Transport.{transport_message}
use Rattle.noise_events.specs.Events.{Event}
use Rattle.noise_duel.specs.Conversation.{sides_at_start}
use Rattle.noise_duel.specs.DuelValue.{DuelValue, DuelMatches}
use Rattle.noise_duel.specs.Messages.{Start}
use Rattle.noise_duel.specs.Networks.{HaveOneHash, HaveClash, SharePsks}
use Rattle.noise_duel.specs.Notes.{Note, Judged}
use Rattle.noise_duel.specs.Reports.{receive_key_in, send_key_in}
use Rattle.noise_duel.specs.Runs.{Run}
use Rattle.noise_duel.specs.Sides.{Sides, TransportMessage}
use Rattle.noise_theorems.specs.Payloads.{reported_to, written_by}
use Rattle.noise_keys.specs.Keys.{KeyPairs}

-- how many of the first n handshake messages a role writes (Noise 5.3: the initiator writes first, then they take
-- turns)
abbrev pub turns_of : Role → ℕ → ℕ
turns_of role zero = 0
turns_of role (suc n) = turns_of role n + (if same_role (turn_from Initiator n) role then 1 else 0)

-- Entry `place`, counted from 0, is payload number i that a role received.
pub record IsPayloadAt (role : Role) (notes : List (Role × Note)) (i place : ℕ) (payload : List ℕ) : Type 0 where
  pub entry : slice_get notes place ≡ Some (role, Judged (Payload payload))
  pub before : length (reported_to role (take place notes)) ≡ i

-- A forged frame was accepted: payload number i that a role received, at a place among all entries, came in the
-- transport message of a nonce, which is the number after the handshake messages of the writer. That message is the
-- writer's transport message of the payload there, and the writer's frame number i isn't that transport message's, or
-- there is none (Noise 5.2, 12.3).
pub record ForgedFrame (r : SymmetricState) (writer : Role) (interval opening : ℕ) (frames : List (List ℕ))
    (accepted : List TransportMessage)
    (notes : List (Role × Note)) (i : ℕ) : Type 0 where
  pub payload : List ℕ
  pub nonce : ℕ
  pub number : i ≡ opening + nonce
  pub came : slice_get accepted nonce
      ≡ Some (record { message = transport_message r writer interval nonce payload; payload = payload })
  pub place : ℕ
  pub is_at : IsPayloadAt (other writer) notes i place payload
  pub entry : slice_get (reported_to (other writer) notes) i ≡ Some payload
  pub unwritten : slice_get frames i ≢ Some (frame (transport_message r writer interval nonce payload))

-- the payloads that the other role received are the first of those that the writer wrote, in order, or the first that
-- isn't came in a forged frame
abbrev pub PrefixOrForgedFrame : SymmetricState → Role → ℕ → ℕ → List (List ℕ) → List TransportMessage → List (List ℕ)
    → List (Role × Note) → Type 0
PrefixOrForgedFrame r writer interval opening frames accepted written notes =
    ((rest : List (List ℕ)) × (written ≡ reported_to (other writer) notes ++ rest))
    ⊎ ((i : ℕ) × (take i (reported_to (other writer) notes) ≡ take i written)
    × ForgedFrame r writer interval opening frames accepted notes i)

-- In each direction, over all of the session, the handshake too: the frames are those that the two roles wrote, the
-- messages those of the transport that the two ends accepted, the state is the one of both.
pub record EntriesAgree (p : Plan) (interval : ℕ) (events : List Event) (notes : List (Role × Note))
    (initiator responder : List (List ℕ))
    (d : Sides) : Type 0 where
  pub there : PrefixOrForgedFrame d.initiator.state.party.state Initiator interval
      (turns_of Initiator (length p.messages)) initiator d.responder.received
      (written_by Initiator events notes) notes
  pub back : PrefixOrForgedFrame d.initiator.state.party.state Responder interval
      (turns_of Responder (length p.messages)) responder d.initiator.received
      (written_by Responder events notes) notes

-- With equal hashes, the same psks and equal intervals so it is, or two texts that they hashed clash.
abbrev pub EntriesCome : Type 0
EntriesCome = (p : Plan) (a b : Start) (interval : ℕ) (events : List Event) (notes : List (Role × Note)) (d : Sides)
    → Run (sides_at_start p a b interval interval) events notes d → HaveOneHash d → SharePsks p a b d
    → EntriesAgree p interval events notes d.initiator.frames d.responder.frames d ⊎ HaveClash p a b d

-- Where a role received as many payloads as the other wrote, it opens the next message by the key that the other writes
-- it by, if both are open.
pub record KeysMeet {A B : Type 0} (events : List Event) (notes : List (Role × Note))
    (duel : DuelValue A B) : Type 0 where
  pub there : length (reported_to Responder notes) ≡ length (written_by Initiator events notes) → (k l : List ℕ)
      → send_key_in duel.initiator.phase ≡ Some k → receive_key_in duel.responder.phase ≡ Some l → l ≡ k
  pub back : length (reported_to Initiator notes) ≡ length (written_by Responder events notes) → (k l : List ℕ)
      → send_key_in duel.responder.phase ≡ Some k → receive_key_in duel.initiator.phase ≡ Some l → l ≡ k

module _ {A B : Type 0} (pairs_a : A → KeyPairs)
    (pairs_b : B → KeyPairs) where
  -- With equal hashes, the same psks and equal intervals so it is, or two texts that they hashed clash.
  abbrev pub KeysCome : Type 0
  KeysCome = (p : Plan) (a b : Start) (interval : ℕ) (events : List Event) (notes : List (Role × Note)) (d : Sides)
      (duel : DuelValue A B)
      → Run (sides_at_start p a b interval interval) events notes d
      → DuelMatches pairs_a pairs_b duel d
      → HaveOneHash d → SharePsks p a b d → KeysMeet events notes duel ⊎ HaveClash p a b d
