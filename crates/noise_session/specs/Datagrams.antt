-- Datagrams: transport messages that may get lost, or come late or twice (Noise 5.1, 7.4 and 11.4).
use Rattle.std.specs.Prelude.{◌≡◌, ℕ, ◌+◌, ◌==◌, nat_lt, nat_le, List, [], ◌∷◌, ◌++◌, length, take, drop}
use Rattle.std.specs.Prelude.{Bool, false, ◌&&◌, Option, Some, None, Result, Ok, Err, MatchOption, if◌then◌else◌}
use Rattle.std.specs.Int.{w64, to_be_bytes, from_be_bytes}
use Rattle.noise_names.specs.declared.token.Role.{Role}
use Rattle.noise_names.specs.declared.token.Role.TheVariants.{Initiator, Responder}
use Rattle.noise_names.specs.Tokens.{same_role, other}
use Rattle.noise_names.specs.Plan.{is_one_way}
use Rattle.noise_state.specs.declared.symmetric.SymmetricState.{SymmetricState}
use Rattle.noise_handshake.specs.Party.{Party}
use Rattle.noise_session.specs.declared.faults.SendFault.{SendFault}
use Rattle.noise_session.specs.declared.faults.SendFault.TheVariants as send
use Rattle.noise_session.specs.declared.datagram_fault.DatagramFault.{DatagramFault}
use Rattle.noise_session.specs.declared.datagram_fault.DatagramFault.TheVariants as fault
use Rattle.noise_events.specs.declared.window.Window.{Window}
use Rattle.noise_session.specs.declared.window.Ring.{Ring}
use Rattle.noise_session.specs.Transport.{split_key, transport_message, last_nonce}
use Rattle.noise_events.specs.Windows.{width_of}
use Rattle.noise_session.specs.Windows.{is_accepted, ring_fault, window_fault, Recalls}

-- Datagram n of a writer: the nonce in 8 bytes, the highest first, and the transport message of that nonce. Its key is
-- never rekeyed.
abbrev pub datagram : SymmetricState → Role → ℕ → List ℕ → List ℕ
datagram r writer n payload = to_be_bytes w64 n ++ transport_message r writer 0 n payload

-- the nonce that a datagram names
abbrev pub nonce_named : List ℕ → ℕ
nonce_named bytes = from_be_bytes w64 (take 8 bytes)

-- a transport of datagrams as contracts see it
pub record DatagramsValue : Type 0 where
  pub role : Role
  pub one_way : Bool
  pub send_key : Option (List ℕ)
  pub send_nonce : ℕ
  pub receive_key : Option (List ℕ)
  pub recent : Ring

-- The datagrams of one party of a handshake with that state, so many sealed, and these opened.
pub record DatagramState : Type 0 where
  pub role : Role
  pub one_way : Bool
  pub state : SymmetricState
  pub width : ℕ  -- of the window
  pub sent : ℕ  -- the nonce of the next
  pub accepted : List ℕ  -- the set of their nonces

-- those of a party whose handshake is over
abbrev pub datagrams_of : Party → Window → DatagramState
datagrams_of v window = record {
  role = v.role;
  one_way = is_one_way v.pattern;
  state = v.state;
  width = width_of window;
  sent = 0;
  accepted = [];
}

-- one more is opened
abbrev pub accepting : DatagramState → ℕ → DatagramState
accepting v nonce = record v { accepted = nonce ∷ v.accepted }

-- its direction of the datagrams that the party seals, and that of those that it opens
pub record DatagramSenderValue : Type 0 where
  pub role : Role  -- of the party
  pub one_way : Bool
  pub key : Option (List ℕ)
  pub nonce : ℕ

pub record DatagramReceiverValue : Type 0 where
  pub role : Role
  pub one_way : Bool
  pub key : Option (List ℕ)
  pub recent : Ring

abbrev pub datagram_sending_half : DatagramsValue → DatagramSenderValue
datagram_sending_half d = record { role = d.role; one_way = d.one_way; key = d.send_key; nonce = d.send_nonce }

abbrev pub datagram_receiving_half : DatagramsValue → DatagramReceiverValue
datagram_receiving_half d = record { role = d.role; one_way = d.one_way; key = d.receive_key; recent = d.recent }

-- The half that seals matches the state.
pub record DatagramSenderMatches (h : DatagramSenderValue) (v : DatagramState) : Type 0 where
  pub role : h.role ≡ v.role
  pub one_way : h.one_way ≡ v.one_way
  pub key : h.key ≡ Some (split_key v.state v.role)
  pub nonce : h.nonce ≡ v.sent

-- The half that opens matches the state.
pub record DatagramReceiverMatches (h : DatagramReceiverValue) (v : DatagramState) : Type 0 where
  pub role : h.role ≡ v.role
  pub one_way : h.one_way ≡ v.one_way
  pub key : h.key ≡ Some (split_key v.state (other v.role))
  pub width : width_of h.recent.window ≡ v.width
  pub recent : Recalls h.recent v.accepted

-- The transport matches the state.
pub record DatagramsMatch (d : DatagramsValue) (v : DatagramState) : Type 0 where
  pub sender : DatagramSenderMatches (datagram_sending_half d) v
  pub receiver : DatagramReceiverMatches (datagram_receiving_half d) v

-- why a payload of this length isn't sealed at this nonce: the first of these
abbrev pub unsealed : Role → Bool → ℕ → ℕ → Option SendFault
unsealed role one_way nonce payload =
    if one_way && same_role role Responder then Some send.OneWay
    else if nat_lt 65543 (payload + 24) then Some send.TooLong
    else if nat_le last_nonce nonce then Some send.Exhausted
    else None

-- why a party of this role doesn't open such bytes, whatever message they have, where the window has these faults: the
-- first of these
abbrev pub unopened : Role → Bool → (ℕ → Option DatagramFault) → List ℕ → Option DatagramFault
unopened role one_way window bytes =
    if one_way && same_role role Initiator then Some fault.OneWay
    else if nat_lt (length bytes) 24 then Some fault.Short
    else if nat_lt 65543 (length bytes) then Some fault.TooLong
    else if nonce_named bytes == last_nonce then Some fault.Reserved
    else window (nonce_named bytes)

abbrev pub datagram_fault : DatagramState → List ℕ → Option DatagramFault
datagram_fault v = unopened v.role v.one_way (window_fault v.width v.accepted)

-- the same of a half, by its ring
abbrev pub datagram_receiver_fault : DatagramReceiverValue → List ℕ → Option DatagramFault
datagram_receiver_fault h = unopened h.role h.one_way (ring_fault h.recent)

-- The message of a datagram is that of the other party with the payload, at the nonce that the datagram names.
abbrev pub IsSealed : DatagramState → List ℕ → List ℕ → Type 0
IsSealed v bytes payload = drop 8 bytes ≡ transport_message v.state (other v.role) 0 (nonce_named bytes) payload

-- What comes of the bytes of a datagram: its payload, or the fault that is reported. A fault changes nothing.
pub data Opens : DatagramState → List ℕ → Result (List ℕ) DatagramFault → DatagramState → Type 0 where
  opened : (v : DatagramState) (bytes payload : List ℕ) → datagram_fault v bytes ≡ None → IsSealed v bytes payload
      → Opens v bytes (Ok payload) (accepting v (nonce_named bytes))
  refused : (v : DatagramState) (bytes : List ℕ) (why : DatagramFault) → datagram_fault v bytes ≡ Some why
      → Opens v bytes (Err why) v
  forged : (v : DatagramState) (bytes : List ℕ) → datagram_fault v bytes ≡ None
      → ((payload : List ℕ) → IsSealed v bytes payload → ⊥)
      → Opens v bytes (Err fault.Tag) v

-- A datagram of this nonce gives the payload, unless the window refuses it.
abbrev pub OpensInWindow : DatagramState → List ℕ → ℕ → List ℕ → Type 0
OpensInWindow v bytes nonce payload =
    MatchOption (window_fault v.width v.accepted nonce) (Opens v bytes (Ok payload) (accepting v nonce))
    (λ fault. Opens v bytes (Err fault) v)

-- A list of calls makes one state of another, and these are the nonces of the datagrams that it opened, in order.
pub data Runs : DatagramState → List ℕ → DatagramState → Type 0 where
  ends : (v : DatagramState) → Runs v [] v
  seals : (v w : DatagramState) (nonces : List ℕ) → Runs (record v { sent = v.sent + 1 }) nonces w → Runs v nonces w
  opens : (v w x : DatagramState) (bytes payload nonces : List ℕ) → Opens v bytes (Ok payload) w → Runs w nonces x
      → Runs v (nonce_named bytes ∷ nonces) x
  refuses : (v w x : DatagramState) (bytes nonces : List ℕ) (why : DatagramFault) → Opens v bytes (Err why) w
      → Runs w nonces x → Runs v nonces x

-- no number stands in the list twice
abbrev pub AreOnce : List ℕ → Type 0
AreOnce [] = Unit {0}
AreOnce (n ∷ ns) = (is_accepted ns n ≡ false) × AreOnce ns

-- They are the two parties of one handshake.
pub record AreParties (v w : DatagramState) : Type 0 where
  pub role : w.role ≡ other v.role
  pub one_way : w.one_way ≡ v.one_way
  pub state : w.state ≡ v.state
