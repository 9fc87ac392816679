-- What two parties that have finished a handshake have in common, with no hash to compare (Noise 5.3, 11.2, 14).
use Rattle.std.specs.Prelude.{◌≡◌, ◌≢◌, ◌⊎◌, ◌≤◌, ◌+◌, ℕ, List, length, slice_get, Some, is_some, true}
use Rattle.noise_names.specs.declared.token.Role.TheVariants.{Initiator, Responder}
use Rattle.noise_names.specs.Plan.{Plan}
use Rattle.noise_aead.specs.Sealing.{sealed, nonce_of}
use Rattle.noise_state.specs.History.{History, Ciphertext, and_then, state_of_history}
use Rattle.noise_handshake.specs.Party.{Party}
use Rattle.noise_duel.specs.Agreement.{IsSetUp, KeysAgree}
use Rattle.noise_duel.specs.Histories.{PartiesClash, history_of}
use Rattle.noise_duel.specs.Messages.{HandshakeMessage, Exchanged, Start, begun_as, messages_of}

-- Two parties of one pattern, each made without a fault, with equal psks and keys that agree, have finished: each has
-- written or accepted a message for each of the pattern's, of which there is some, and there was a key at the last.
-- What a network did to them isn't said, and nothing of one is compared with the other's.
pub record HaveFinished (p : Plan) (a b : Start) (ps qs : List HandshakeMessage) (v w : Party) : Type 0 where
  pub initiator : IsSetUp p Initiator a
  pub responder : IsSetUp p Responder b
  pub psks : a.psks ≡ b.psks
  pub keys : KeysAgree a b
  pub wrote_and_took : Exchanged (begun_as p Initiator a) ps v
  pub took_and_wrote : Exchanged (begun_as p Responder b) qs w
  pub some : 1 ≤ length p.messages
  pub passed : v.passed ≡ length p.messages
  pub passed_too : w.passed ≡ length p.messages
  pub keyed : is_some v.state.cipher.key ≡ true

-- Of the messages at one place one party wrote the first, and the other accepted the second in place of it, or the
-- other way round: it is forged.
pub record IsForgedMessage (ps qs : List HandshakeMessage) (place : ℕ) : Type 0 where
  pub left : List ℕ
  pub right : List ℕ
  pub at_left : slice_get (messages_of ps) place ≡ Some left
  pub at_right : slice_get (messages_of qs) place ≡ Some right
  pub differ : left ≢ right

-- the newest text of a history was encrypted under this key, after the history before it
pub record LastSealed (r : History) (text : List ℕ) : Type 0 where
  pub before : History
  pub last : r ≡ and_then before (Ciphertext text)
  pub key : List ℕ
  pub key_is : (state_of_history before).cipher.key ≡ Some key
  pub payload : List ℕ
  pub sealed_is : text ≡ sealed key (nonce_of (state_of_history before).cipher.nonce) (state_of_history before).hash
      payload

-- One sealed text, the last of two histories, opens in both, under two hashes: each with its key and its nonce.
pub record OpensTwice (r s : History) : Type 0 where
  pub text : List ℕ
  pub left : LastSealed r text
  pub right : LastSealed s text
  pub differ : (state_of_history left.before).hash ≢ (state_of_history right.before).hash

-- what stands in place of one history, of two parties that began so and exchanged these messages: at the last place a
-- message was forged, or its last text opens twice, or two hashed texts clash
abbrev pub ForgedOrTwice : Plan → Start → Start → List HandshakeMessage → List HandshakeMessage → Type 0
ForgedOrTwice p a b ps qs =
    ((place : ℕ) × (place + 1 ≡ length p.messages) × IsForgedMessage ps qs place)
    ⊎ OpensTwice (history_of p Initiator a ps) (history_of p Responder b qs) ⊎ PartiesClash p a b ps qs

-- Two parties that have finished have all of the conversation in common, what travelled encrypted too, and one history.
abbrev pub FinishedIsOne : Type 0
FinishedIsOne = (p : Plan) (a b : Start) (ps qs : List HandshakeMessage) (v w : Party) → HaveFinished p a b ps qs v w
    → ((ps ≡ qs) × (history_of p Initiator a ps ≡ history_of p Responder b qs)) ⊎ ForgedOrTwice p a b ps qs
