-- What the datagrams of two parties of one handshake agree on over any network.
use Rattle.std.specs.Prelude.{◌≡◌, ◌⊎◌, ℕ, ◌+◌, List, [], ◌∷◌, length, Some, ⊤, slice_get}
use Rattle.noise_names.specs.declared.token.Role.{Role}
use Rattle.noise_names.specs.declared.token.Role.TheVariants.{Initiator, Responder}
use Rattle.noise_names.specs.Tokens.{other}
use Rattle.noise_names.specs.Plan.{Plan}
use Rattle.noise_state.specs.declared.symmetric.SymmetricState.{SymmetricState}
use Rattle.noise_session.specs.Transport.{transport_message}
use Rattle.noise_events.specs.declared.window.Window.{Window}
use Rattle.noise_session.specs.Datagrams.{AreOnce, DatagramState, datagrams_of}
use Rattle.noise_duel.specs.Conversation.{sides_at_start}
use Rattle.noise_events.specs.DatagramEvents.{DatagramEvent}
use Rattle.noise_duel.specs.DatagramNotes.{DatagramNote}
use Rattle.noise_duel.specs.DatagramRuns.{DatagramRun}
use Rattle.noise_duel.specs.DatagramSides.{DatagramSide, DatagramSides, NonceMessage, datagram_sides, nonces_of, of_nonce}
use Rattle.noise_events.specs.Events.{Event}
use Rattle.noise_duel.specs.Notes.{Note}
use Rattle.noise_duel.specs.Forgery.{ForgedMessage}
use Rattle.noise_duel.specs.Messages.{Start}
use Rattle.noise_duel.specs.Networks.{HaveOneHistory}
use Rattle.noise_duel.specs.Runs.{Run}
use Rattle.noise_duel.specs.Sides.{Sides, TransportMessage}

-- The initiator and the responder of one handshake: they have one state, and have sealed and opened nothing.
pub record HaveOneBeginning (v w : DatagramState) : Type 0 where
  pub initiator : v.role ≡ Initiator
  pub responder : w.role ≡ Responder
  pub state : w.state ≡ v.state
  pub initiator_sent : v.sent ≡ 0
  pub responder_sent : w.sent ≡ 0
  pub initiator_accepted : v.accepted ≡ []
  pub responder_accepted : w.accepted ≡ []

-- these are a writer's messages, from nonce n on (Noise 5.1, 5.2)
abbrev pub AreCounted : SymmetricState → Role → ℕ → List NonceMessage → Type 0
AreCounted r writer n [] = ⊤
AreCounted r writer n (m ∷ ms) =
    (m.nonce ≡ n) × (m.message.message ≡ transport_message r writer 0 n m.message.payload)
    × AreCounted r writer (n + 1) ms

-- these are messages of a writer at their nonces, whoever made them
abbrev pub AreAtNonces : SymmetricState → Role → List NonceMessage → Type 0
AreAtNonces r writer [] = ⊤
AreAtNonces r writer (m ∷ ms) =
    (m.message.message ≡ transport_message r writer 0 m.nonce m.message.payload) × AreAtNonces r writer ms

-- A party is what it sealed and opened: its sending nonce is the number of datagrams that it sealed, at the nonces from
-- 0 on, and its set of accepted nonces has those of the datagrams that it opened.
pub record ComesOfDatagrams (role : Role) (r : SymmetricState) (s : DatagramSide) : Type 0 where
  pub role_is : s.state.role ≡ role
  pub state : s.state.state ≡ r
  pub sending : s.state.sent ≡ length s.sealed
  pub accepted : s.state.accepted ≡ nonces_of s.opened
  pub sealed : AreCounted r role 0 s.sealed
  pub opened : AreAtNonces r (other role) s.opened

-- In one direction no nonce is accepted twice, and the datagram that is accepted at nonce i is the one of number i,
-- with its payload, or a forged one.
pub record ArriveOnce (r : SymmetricState) (writer : Role) (sealed opened : List NonceMessage) : Type 0 where
  pub once : AreOnce (nonces_of opened)
  pub own : (i : ℕ) (m : TransportMessage) → of_nonce opened i ≡ Some m
      → (slice_get sealed i ≡ Some (record { nonce = i; message = m }))
      ⊎ ForgedMessage r writer 0 (of_nonce sealed) (of_nonce opened) i

pub record DatagramsAgree (r : SymmetricState) (last : DatagramSides) : Type 0 where
  pub initiator : ComesOfDatagrams Initiator r last.initiator
  pub responder : ComesOfDatagrams Responder r last.responder
  pub there : ArriveOnce r Initiator last.initiator.sealed last.responder.opened
  pub back : ArriveOnce r Responder last.responder.sealed last.initiator.opened

-- So it is at the end of every run of two parties of one handshake.
abbrev pub DatagramRunsAgree : Type 0
DatagramRunsAgree = (v w : DatagramState) (events : List DatagramEvent) (notes : List (Role × DatagramNote))
    (last : DatagramSides)
    → HaveOneBeginning v w → DatagramRun (datagram_sides v w) events notes last → DatagramsAgree v.state last

-- Two new ends of one pattern that a run over frames has brought to one history go over to such parties.
abbrev pub RunsMakeOneBeginning : Type 0
RunsMakeOneBeginning = (p : Plan) (a b : Start) (i j : ℕ) (events : List Event) (notes : List (Role × Note)) (d : Sides)
    (window : Window) → Run (sides_at_start p a b i j) events notes d → HaveOneHistory p a b d
    → HaveOneBeginning (datagrams_of d.initiator.state.party window) (datagrams_of d.responder.state.party window)
