-- What the entries of a run of datagrams say of the two parties of one handshake: what each sealed and opened, and
-- what they agree on.
use Rattle.std.specs.Prelude.{◌≡◌, ◌≢◌, ◌⊎◌, ℕ, List, drop, Option, Some, None, Result, IfOk, slice_get}
use Rattle.noise_names.specs.declared.token.Role.{Role}
use Rattle.noise_names.specs.declared.token.Role.TheVariants.{Initiator, Responder}
use Rattle.noise_names.specs.Tokens.{other}
use Rattle.noise_names.specs.Plan.{Plan}
use Rattle.noise_state.specs.declared.symmetric.SymmetricState.{SymmetricState}
use Rattle.noise_session.specs.Transport.{transport_message}
use Rattle.noise_session.specs.Datagrams.{DatagramState, datagram, datagrams_of, nonce_named}
use Rattle.noise_session.specs.Ends.{EndState, hash_in}
use Rattle.noise_events.specs.declared.window.Window.{Window}
use Rattle.noise_events.specs.Events.{Event}
use Rattle.noise_events.specs.DatagramEvents.{DatagramEvent, Seal, Open, Raw}
use Rattle.noise_duel.specs.Conversation.{sides_at_start}
use Rattle.noise_duel.specs.DatagramAgreement.{HaveOneBeginning}
use Rattle.noise_duel.specs.DatagramNotes.{DatagramNote, Sealed, Payload}
use Rattle.noise_duel.specs.DatagramReports.{DatagramDuelValue, DatagramDuelMatches, DatagramReports, datagram_notes_of, datagram_sides_of}
use Rattle.noise_duel.specs.declared.datagram_report.DatagramReport.{DatagramReport}
use Rattle.noise_duel.specs.DatagramRuns.{DatagramRun}
use Rattle.noise_duel.specs.DatagramSides.{DatagramSide, DatagramSides, NonceMessage, datagram_sides, of_nonce, datagram_bytes}
use Rattle.noise_duel.specs.DuelValue.{DuelMatches, DuelValue, both_sides}
use Rattle.noise_duel.specs.Messages.{Start}
use Rattle.noise_duel.specs.Networks.{HaveOneHistory, SharePsks}
use Rattle.noise_duel.specs.Notes.{Note}
use Rattle.noise_duel.specs.Runs.{Run}
use Rattle.noise_duel.specs.Sides.{Sides, TransportMessage}
use Rattle.noise_duel.specs.Clash.{HistoriesClash}
use Rattle.noise_keys.specs.Keys.{KeyPairs}

-- the nonce of the datagram that comes in an event: the datagram's number, or the nonce that the bytes name (Noise
-- 11.4)
abbrev pub nonce_of_event : DatagramEvent → Option ℕ
nonce_of_event (Seal role payload) = None
nonce_of_event (Open role n) = Some n
nonce_of_event (Raw role bytes) = Some (nonce_named bytes)

-- Event i, counted from 0, has a role seal this payload, and its entry has the datagram's number and bytes.
pub record SealedAt (events : List DatagramEvent) (notes : List (Role × DatagramNote)) (i : ℕ) (role : Role) (n : ℕ)
    (payload bytes : List ℕ) : Type 0 where
  pub event : slice_get events i ≡ Some (Seal role payload)
  pub entry : slice_get notes i ≡ Some (role, Sealed n bytes)

-- Event i has a datagram of this nonce come, and its entry says that a role opened it, with this payload.
pub record OpenedAt (events : List DatagramEvent) (notes : List (Role × DatagramNote)) (i : ℕ) (role : Role) (n : ℕ)
    (payload : List ℕ) : Type 0 where
  pub event : DatagramEvent
  pub at : slice_get events i ≡ Some event
  pub nonce : nonce_of_event event ≡ Some n
  pub entry : slice_get notes i ≡ Some (role, Payload payload)

-- ---- what the entries say

-- A role's entries say what it sealed and opened in the run: all of it, and nothing else.
pub record IsReportedOfDatagrams (role : Role) (events : List DatagramEvent) (notes : List (Role × DatagramNote))
    (s : DatagramSide) : Type 0 where
  pub sealed : (n : ℕ) (m : NonceMessage) → slice_get s.sealed n ≡ Some m → (i : ℕ)
      × SealedAt events notes i role n m.message.payload (datagram_bytes m)
  pub sealed_only : (i n : ℕ) (payload bytes : List ℕ) → SealedAt events notes i role n payload bytes
      → (m : NonceMessage) × (slice_get s.sealed n ≡ Some m) × (m.message.payload ≡ payload)
      × (datagram_bytes m ≡ bytes)
  pub opened : (n : ℕ) (m : TransportMessage) → of_nonce s.opened n ≡ Some m → (i : ℕ)
      × OpenedAt events notes i role n m.payload
  pub opened_only : (i n : ℕ) (payload : List ℕ) → OpenedAt events notes i role n payload
      → (m : TransportMessage) × (of_nonce s.opened n ≡ Some m) × (m.payload ≡ payload)

-- So it is at the end of every run of two parties of one handshake.
abbrev pub DatagramsAreReported : Type 0
DatagramsAreReported =
    (v w : DatagramState) (events : List DatagramEvent) (notes : List (Role × DatagramNote)) (last : DatagramSides)
    → HaveOneBeginning v w → DatagramRun (datagram_sides v w) events notes last
    → IsReportedOfDatagrams Initiator events notes last.initiator
    × IsReportedOfDatagrams Responder events notes last.responder

-- ---- what they agree on

-- Event i put in a forged datagram: bytes that name nonce n, and hold the message that the writer has there for this
-- payload, though no entry says that the writer sealed that datagram (Noise 5.2, 12.3).
pub record ForgedDatagram (r : SymmetricState) (writer : Role) (events : List DatagramEvent)
    (notes : List (Role × DatagramNote)) (i n : ℕ)
    (payload : List ℕ) : Type 0 where
  pub bytes : List ℕ
  pub came : slice_get events i ≡ Some (Raw (other writer) bytes)
  pub nonce : nonce_named bytes ≡ n
  pub message : drop 8 bytes ≡ transport_message r writer 0 n payload
  pub unsealed : (j : ℕ) → slice_get notes j ≢ Some (writer, Sealed n (datagram r writer n payload))

-- In one direction: at most one entry says that a nonce was opened, and its payload is the one that the writer sealed
-- as its datagram of that number, as an entry says, or the datagram is forged.
pub record EntriesArrive (r : SymmetricState) (writer : Role) (events : List DatagramEvent)
    (notes : List (Role × DatagramNote)) : Type 0 where
  pub once : (i j n : ℕ) (p q : List ℕ) → OpenedAt events notes i (other writer) n p
      → OpenedAt events notes j (other writer) n q → i ≡ j
  pub own : (i n : ℕ) (payload : List ℕ) → OpenedAt events notes i (other writer) n payload
      → ((j : ℕ) × SealedAt events notes j writer n payload (datagram r writer n payload))
      ⊎ ForgedDatagram r writer events notes i n payload

-- In every run of two parties of one handshake that have sealed and opened nothing it is so in both directions.
abbrev pub DatagramEntriesAgree : Type 0
DatagramEntriesAgree =
    (v w : DatagramState) (events : List DatagramEvent) (notes : List (Role × DatagramNote)) (last : DatagramSides)
    → HaveOneBeginning v w → DatagramRun (datagram_sides v w) events notes last
    → EntriesArrive v.state Initiator events notes × EntriesArrive v.state Responder events notes

-- each opens by the key that the other seals by
pub record DatagramKeysMeet (duel : DatagramDuelValue) : Type 0 where
  pub there : duel.responder.receive_key ≡ duel.initiator.send_key
  pub back : duel.initiator.receive_key ≡ duel.responder.send_key

abbrev pub DatagramKeysCome : Type 0
DatagramKeysCome =
    (v w : DatagramState) (events : List DatagramEvent) (notes : List (Role × DatagramNote)) (last : DatagramSides)
    (duel : DatagramDuelValue)
    → HaveOneBeginning v w → DatagramRun (datagram_sides v w) events notes last → DatagramDuelMatches duel last
    → DatagramKeysMeet duel

-- The report is that of the run of the events from these two parties, and its entries say what each sealed and opened;
-- they agree in both directions, and so do the keys of the parties left.
pub record DatagramsOverNetwork (v w : DatagramState) (events : List DatagramEvent) (duel : DatagramDuelValue)
    (report : DatagramReport) : Type 0 where
  pub reports : DatagramReports (datagram_sides v w) events duel report
  pub initiator : IsReportedOfDatagrams Initiator events (datagram_notes_of report.entries.items) reports.last.initiator
  pub responder : IsReportedOfDatagrams Responder events (datagram_notes_of report.entries.items) reports.last.responder
  pub there : EntriesArrive v.state Initiator events (datagram_notes_of report.entries.items)
  pub back : EntriesArrive v.state Responder events (datagram_notes_of report.entries.items)
  pub keys : DatagramKeysMeet duel

-- ---- the ends of a duel that go over to datagrams

module _ {A B : Type 0} (pairs_a : A → KeyPairs)
    (pairs_b : B → KeyPairs) where
  -- Whatever the states of the two ends, the report and the parties left are those of the run of these events.
  abbrev pub ReportsDatagramRun : {E : Type 0} → Window → List DatagramEvent → DuelValue A B
      → Result (DatagramDuelValue × DatagramReport) E → Type 0
  ReportsDatagramRun window events duel result = (v w : EndState)
      → DuelMatches pairs_a pairs_b duel (both_sides v w)
      → IfOk result (λ r. DatagramReports (datagram_sides_of v w window) events r.0 r.1)

  -- Where a run over frames left these two ends of two new ones of one pattern, with one history, they agree.
  abbrev pub OneHistoryAgrees : {E : Type 0} → Window → List DatagramEvent → DuelValue A B
      → Result (DatagramDuelValue × DatagramReport) E → Type 0
  OneHistoryAgrees window events duel result =
      (p : Plan) (a b : Start) (i j : ℕ) (opening : List Event) (notes : List (Role × Note)) (d : Sides)
      → Run (sides_at_start p a b i j) opening notes d → DuelMatches pairs_a pairs_b duel d
      → HaveOneHistory p a b d
      → IfOk result (λ r. DatagramsOverNetwork (datagrams_of d.initiator.state.party window)
      (datagrams_of d.responder.state.party window) events r.0 r.1)

  -- Where both report one hash and have the same psks, they agree, or the texts that they hashed clash.
  abbrev pub OneHashAgrees : {E : Type 0} → Window → List DatagramEvent → DuelValue A B
      → Result (DatagramDuelValue × DatagramReport) E → Type 0
  OneHashAgrees window events duel result =
      (p : Plan) (a b : Start) (i j : ℕ) (opening : List Event) (notes : List (Role × Note)) (d : Sides)
      (hash : List ℕ)
      → Run (sides_at_start p a b i j) opening notes d → DuelMatches pairs_a pairs_b duel d
      → SharePsks p a b d
      → hash_in duel.initiator.phase ≡ Some hash → hash_in duel.responder.phase ≡ Some hash
      → IfOk result (λ r. DatagramsOverNetwork (datagrams_of d.initiator.state.party window)
      (datagrams_of d.responder.state.party window) events r.0 r.1 ⊎ HistoriesClash p a b d)
