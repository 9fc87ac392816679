-- What an end of a session holds, and which states it matches.
use Rattle.std.specs.Prelude.{◌≡◌, ◌≢◌, ℕ, List, [], Option, Some, None, length, Bool, true, false, ◌==◌, if◌then◌else◌}
use Rattle.noise_names.specs.declared.token.Role.{Role}
use Rattle.noise_names.specs.Plan.{is_one_way}
use Rattle.noise_handshake.specs.HandshakeValue.{HandshakeValue}
use Rattle.noise_handshake.specs.Party.{Party}
use Rattle.noise_handshake.specs.Matching.{Matches, ended_party}
use Rattle.noise_session.specs.declared.phase.Phase.{Phase}
use Rattle.noise_session.specs.declared.phase.Phase.TheVariants as phase
use Rattle.noise_session.specs.TransportValue.{TransportValue, TransportState, TransportMatches, transport_of}
use Rattle.noise_session.specs.Progress.{Progress}
use Rattle.noise_session.specs.Progress.Progress.{Handshaking, Open, HasEnded}
use Rattle.noise_keys.specs.Keys.{KeyPairs}

-- an end as contracts see it: a handshake, with the interval of the transport that it leads to; its transport; or what
-- is left of it
pub record EndValue (K : Type 0) : Type 0 where
  pub phase : Phase K
  pub partial : List ℕ  -- what has come of the next frame

-- how far the session has come
abbrev pub progress_in : {K : Type 0} → Phase K → Progress
progress_in (phase.Handshaking h interval) = Handshaking h.pattern h.role h.passed
progress_in (phase.Open t) = Open t.role t.one_way t.send_nonce t.receive_nonce
progress_in (phase.Ended role hash) = HasEnded role

abbrev pub progress : {K : Type 0} → EndValue K → Progress
progress e = progress_in e.phase

-- whether the session has ended
abbrev pub is_ended : {K : Type 0} → Phase K → Bool
is_ended (phase.Ended role hash) = true
is_ended _ = false

-- the hash that an end reports: of the whole handshake, once all of it has passed
abbrev pub hash_in : {K : Type 0} → Phase K → Option (List ℕ)
hash_in (phase.Handshaking h interval) = None
hash_in (phase.Open t) = Some t.hash
hash_in (phase.Ended role hash) = hash

-- the other party's static key, as far as it is known
abbrev pub remote_static_in : {K : Type 0} → Phase K → Option (List ℕ)
remote_static_in (phase.Handshaking h interval) = h.remote.s
remote_static_in (phase.Open t) = t.remote_static
remote_static_in (phase.Ended role hash) = None

-- One end of a session: the party that it is, and what it wrote and accepted.
pub record EndState : Type 0 where
  pub party : Party
  pub interval : ℕ  -- after so many transport messages a key is rekeyed; 0 for never
  pub sent : ℕ  -- transport messages
  pub received : ℕ
  pub partial : List ℕ  -- what has come of the next frame

abbrev pub progress_of : EndState → Progress
progress_of v =
    if v.party.ended then HasEnded v.party.role
    else if v.party.passed == length v.party.pattern.messages
    then Open v.party.role (is_one_way v.party.pattern) v.sent v.received
    else Handshaking v.party.pattern v.party.role v.party.passed

-- a new end of that party
abbrev pub end_of : Party → ℕ → EndState
end_of party interval = record { party = party; interval = interval; sent = 0; received = 0; partial = [] }

-- the end of a session that has ended
abbrev pub ended_session : EndState → EndState
ended_session v = record v { party = ended_party v.party; partial = [] }

-- the hash of the whole handshake (Noise 11.2), once all of it has passed
abbrev pub session_hash : EndState → Option (List ℕ)
session_hash v = if v.party.passed == length v.party.pattern.messages then Some v.party.state.hash else None

-- the other party's static public key, as far as it is known, until the session has ended
abbrev pub session_remote_static : EndState → Option (List ℕ)
session_remote_static v = if v.party.ended then None else v.party.remote.s

-- its transport
abbrev pub transport_in : EndState → TransportState
transport_in v = record (transport_of v.party v.interval) { sent = v.sent; received = v.received }

-- The transport is that of an end that is open.
pub record OpenMatches (t : TransportValue) (v : EndState) : Type 0 where
  pub going : v.party.ended ≡ false
  pub all : v.party.passed ≡ length v.party.pattern.messages
  pub transport : TransportMatches t (transport_in v)

-- This is left of an end that has ended.
pub record EndedMatches (left : Role) (reported : Option (List ℕ)) (v : EndState) : Type 0 where
  pub ended : v.party.ended ≡ true
  pub role : left ≡ v.party.role
  pub hash : reported ≡ session_hash v

-- The end matches the state, by the meaning of its keys.
module _ {K : Type 0} (pairs : K → KeyPairs) where
  -- its handshake, of which messages are to come
  pub record HandshakeMatches (h : HandshakeValue K) (every : ℕ) (v : EndState) : Type 0 where
    pub party : Matches pairs h v.party
    pub interval : every ≡ v.interval
    pub going : v.party.ended ≡ false
    pub more : v.party.passed ≢ length v.party.pattern.messages
    pub sent : v.sent ≡ 0
    pub received : v.received ≡ 0

  abbrev pub PhaseMatches : Phase K → EndState → Type 0
  PhaseMatches (phase.Handshaking h interval) v = HandshakeMatches h interval v
  PhaseMatches (phase.Open t) v = OpenMatches t v
  PhaseMatches (phase.Ended role hash) v = EndedMatches role hash v

  pub record EndMatches (e : EndValue K) (v : EndState) : Type 0 where
    pub phase : PhaseMatches e.phase v
    pub partial : e.partial ≡ v.partial

-- What an end reports of itself is what a state says.
pub record IsReportedBy {K : Type 0} (v : EndState) (e : EndValue K) : Type 0 where
  pub progress : progress e ≡ progress_of v
  pub hash : hash_in e.phase ≡ session_hash v
  pub remote_static : remote_static_in e.phase ≡ session_remote_static v
  pub partial : e.partial ≡ v.partial
