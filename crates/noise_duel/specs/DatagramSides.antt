-- The datagrams of two parties with what each sealed and opened so far: what a run keeps beside each state. No code
-- holds it.
use Rattle.std.specs.Prelude.{ℕ, ◌+◌, ◌==◌, List, [], ◌∷◌, ◌++◌, drop, map, Option, Some, None, if◌then◌else◌}
use Rattle.std.specs.Int.{w64, to_be_bytes}
use Rattle.noise_names.specs.declared.token.Role.{Role}
use Rattle.noise_names.specs.declared.token.Role.TheVariants.{Initiator, Responder}
use Rattle.noise_session.specs.Transport.{transport_message}
use Rattle.noise_session.specs.Datagrams.{DatagramState, accepting, nonce_named}
use Rattle.noise_duel.specs.Sides.{TransportMessage}

-- a datagram's nonce, and the transport message of that nonce with its payload (Noise 11.4)
pub record NonceMessage : Type 0 where
  pub nonce : ℕ
  pub message : TransportMessage

abbrev pub at_nonce : ℕ → List ℕ → List ℕ → NonceMessage
at_nonce nonce message payload = record { nonce = nonce; message = record { message = message; payload = payload } }

-- the datagram: the nonce in 8 bytes, the highest first, and the message
abbrev pub datagram_bytes : NonceMessage → List ℕ
datagram_bytes m = to_be_bytes w64 m.nonce ++ m.message.message

-- the message of a nonce among those of datagrams
abbrev pub of_nonce : List NonceMessage → ℕ → Option TransportMessage
of_nonce [] n = None
of_nonce (m ∷ ms) n = if m.nonce == n then Some m.message else of_nonce ms n

abbrev pub nonces_of : List NonceMessage → List ℕ
nonces_of ms = map (λ m. m.nonce) ms

-- a party's state, and what it sealed and opened
pub record DatagramSide : Type 0 where
  pub state : DatagramState
  pub sealed : List NonceMessage  -- in order
  pub opened : List NonceMessage  -- the newest first

-- a party that has sealed and opened nothing in this run
abbrev pub new_party : DatagramState → DatagramSide
new_party v = record { state = v; sealed = []; opened = [] }

-- the datagrams that it sealed, each at its number
abbrev pub sealed_datagrams : DatagramSide → List (List ℕ)
sealed_datagrams s = map datagram_bytes s.sealed

-- after a datagram of its own with this payload, and after one of the other party
abbrev pub sealing : DatagramSide → List ℕ → DatagramSide
sealing s payload = record s {
  state = record (s.state) { sent = s.state.sent + 1 };
  sealed = s.sealed ++ at_nonce s.state.sent
      (transport_message s.state.state s.state.role 0 s.state.sent payload) payload ∷ [];
}

abbrev pub opening : DatagramSide → List ℕ → List ℕ → DatagramSide
opening s bytes payload = record s {
  state = accepting s.state (nonce_named bytes);
  opened = at_nonce (nonce_named bytes) (drop 8 bytes) payload ∷ s.opened;
}

-- both parties
pub record DatagramSides : Type 0 where
  pub initiator : DatagramSide
  pub responder : DatagramSide

abbrev pub party : DatagramSides → Role → DatagramSide
party d Initiator = d.initiator
party d Responder = d.responder

abbrev pub with_party : DatagramSides → Role → DatagramSide → DatagramSides
with_party d Initiator s = record d { initiator = s }
with_party d Responder s = record d { responder = s }

-- two parties with these states, before a run
abbrev pub datagram_sides : DatagramState → DatagramState → DatagramSides
datagram_sides v w = record { initiator = new_party v; responder = new_party w }
