-- What a transport holds, which states it matches, and what it refuses (Noise 5.1, 7.4, 11.3).
use Rattle.std.specs.Prelude.{◌≡◌, ℕ, ◌%◌, ◌==◌, nat_lt, List, Bool, ◌&&◌, not, Option, Some, option_map, if◌then◌else◌}
use Rattle.noise_aead.specs.Sealing.{rekeyed}
use Rattle.noise_names.specs.declared.token.Role.{Role}
use Rattle.noise_names.specs.Tokens.{other}
use Rattle.noise_names.specs.Plan.{is_one_way}
use Rattle.noise_state.specs.declared.symmetric.SymmetricState.{SymmetricState}
use Rattle.noise_handshake.specs.Party.{Party}
use Rattle.noise_session.specs.declared.faults.SendFault.{SendFault}
use Rattle.noise_session.specs.declared.faults.OpenFault.{OpenFault}
use Rattle.noise_session.specs.declared.faults.OpenFault.TheVariants as unopened
use Rattle.noise_session.specs.Halves.{HalfValue, sender_fault, receiver_fault}
use Rattle.noise_session.specs.Transport.{transport_key, transport_message}

-- a transport as contracts see it
pub record TransportValue : Type 0 where
  pub role : Role
  pub one_way : Bool
  pub hash : List ℕ  -- of the handshake
  pub remote_static : Option (List ℕ)
  pub interval : ℕ
  pub send_key : Option (List ℕ)
  pub send_nonce : ℕ
  pub receive_key : Option (List ℕ)
  pub receive_nonce : ℕ

-- The transport of one party of a handshake with that state, so many messages on.
pub record TransportState : Type 0 where
  pub role : Role
  pub one_way : Bool
  pub state : SymmetricState
  pub remote_static : Option (List ℕ)
  pub interval : ℕ  -- after so many messages of a direction its key is rekeyed; 0 for never
  pub sent : ℕ  -- messages: the nonce of the next
  pub received : ℕ

-- that of a party whose handshake is over
abbrev pub transport_of : Party → ℕ → TransportState
transport_of v interval = record {
  role = v.role;
  one_way = is_one_way v.pattern;
  state = v.state;
  remote_static = v.remote.s;
  interval = interval;
  sent = 0;
  received = 0;
}

-- what this party makes of a payload now
abbrev pub next_message : TransportState → List ℕ → List ℕ
next_message v payload = transport_message v.state v.role v.interval v.sent payload

-- what the other party makes of a payload that is to come now
abbrev pub due_message : TransportState → List ℕ → List ℕ
due_message v payload = transport_message v.state (other v.role) v.interval v.received payload

-- The key of the message at this nonce, after that of the message before: a new one where the nonce is a multiple of
-- the interval (11.3). An interval of 0 means never.
abbrev pub rekeyed_if_due : ℕ → ℕ → Option (List ℕ) → Option (List ℕ)
rekeyed_if_due interval nonce key = if not (interval == 0) && (nonce % interval == 0) then option_map rekeyed key
    else key

-- the direction of the messages that the party seals, and that of those that it opens
abbrev pub sending_half : TransportValue → HalfValue
sending_half t =
    record { role = t.role; one_way = t.one_way; interval = t.interval; key = t.send_key; nonce = t.send_nonce }

abbrev pub receiving_half : TransportValue → HalfValue
receiving_half t =
    record { role = t.role; one_way = t.one_way; interval = t.interval; key = t.receive_key; nonce = t.receive_nonce }

-- The half that seals matches the state.
pub record SenderMatches (h : HalfValue) (v : TransportState) : Type 0 where
  pub role : h.role ≡ v.role
  pub one_way : h.one_way ≡ v.one_way
  pub interval : h.interval ≡ v.interval
  pub key : h.key ≡ Some (transport_key v.state v.role v.interval v.sent)
  pub nonce : h.nonce ≡ v.sent

-- The half that opens matches the state.
pub record ReceiverMatches (h : HalfValue) (v : TransportState) : Type 0 where
  pub role : h.role ≡ v.role
  pub one_way : h.one_way ≡ v.one_way
  pub interval : h.interval ≡ v.interval
  pub key : h.key ≡ Some (transport_key v.state (other v.role) v.interval v.received)
  pub nonce : h.nonce ≡ v.received

-- The transport matches the state.
pub record TransportMatches (t : TransportValue) (v : TransportState) : Type 0 where
  pub hash : t.hash ≡ v.state.hash
  pub remote_static : t.remote_static ≡ v.remote_static
  pub sender : SenderMatches (sending_half t) v
  pub receiver : ReceiverMatches (receiving_half t) v

-- why a payload of this length isn't sealed now
abbrev pub seal_fault : TransportValue → ℕ → Option SendFault
seal_fault t payload = sender_fault (sending_half t) payload

-- why no message is opened now, whatever it is
abbrev pub open_fault : TransportValue → Option OpenFault
open_fault t = receiver_fault (receiving_half t)

-- why a message of this length isn't opened that is no transport message of the other party
abbrev pub unopened_fault : ℕ → OpenFault
unopened_fault message = if nat_lt message 16 then unopened.Short else unopened.Tag

-- The second is the other party of the first, and expects the message that the first writes next.
pub record Faces (v w : TransportState) : Type 0 where
  pub role : w.role ≡ other v.role
  pub state : w.state ≡ v.state
  pub interval : w.interval ≡ v.interval
  pub received : w.received ≡ v.sent
