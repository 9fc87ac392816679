-- A whole conversation, in which no party has a state: what all messages are, from both parties' public keys, the DH
-- results and the psks (Noise 5.3, 9.2 and 13).
use Rattle.std.specs.Prelude.{◌≡◌, ℕ, ◌+◌, ◌≤◌, ◌<◌, List, [], ◌∷◌, ◌++◌, length, drop, take, count_by, map, Some, true, if◌then◌else◌, IsTrue, ⊤, None}
use Rattle.std.specs.Prelude.{nat_lt, MatchBool, false, min}
use Rattle.noise_names.specs.declared.token.Role.{Role}
use Rattle.noise_names.specs.declared.token.Role.TheVariants.{Initiator, Responder}
use Rattle.noise_names.specs.declared.token.Token.{Token}
use Rattle.noise_names.specs.declared.token.Token.TheVariants.{E, S, Psk}
use Rattle.noise_names.specs.Tokens.{is_psk, other, same_role, turn_from}
use Rattle.noise_names.specs.Plan.{Plan, has_psk, is_one_way, places_of}
use Rattle.noise_names.specs.Names.{name_bytes}
use Rattle.noise_names.specs.Overhead.{overhead_of}
use Rattle.noise_names.specs.Validity.{is_among, occurs, IsValid}
use Rattle.noise_names.specs.Limits.{IsPattern}
use Rattle.noise_state.specs.declared.symmetric.SymmetricState.{SymmetricState}
use Rattle.noise_keys.specs.declared.keys.Own.{Own}
use Rattle.noise_keys.specs.declared.keys.Own.TheVariants.{Ephemeral, Static}
use Rattle.noise_keys.specs.KeyTokens.{own_at, token_of}
use Rattle.noise_handshake.specs.declared.remote.Remote.{Remote}
use Rattle.noise_handshake.specs.Message.{message_bytes, after_payload}
use Rattle.noise_handshake.specs.Party.{start, tokens_at, first_psk, other_psks, remote_at, dh_result_of}
use Rattle.noise_handshake.specs.Setup.{has_before, psks_of}
use Rattle.noise_handshake.specs.Counterparts.{is_dh, shown_after}
use Rattle.noise_session.specs.Counterparts.{EndCounterparts}
use Rattle.noise_session.specs.Ends.{EndState, end_of}
use Rattle.noise_session.specs.Steps.StepValue.{Payload}
use Rattle.noise_session.specs.Frames.{frame}
use Rattle.noise_session.specs.Transport.{transport_message, last_nonce}
use Rattle.noise_duel.specs.Messages.{HandshakeMessage, Start, begun_as, messages_of}
use Rattle.noise_duel.specs.Sides.{Sides, side, new_side}
use Rattle.noise_events.specs.Events.{Event, Say}
use Rattle.noise_duel.specs.Notes.{Note, Wrote, Judged}
use Rattle.noise_duel.specs.Runs.{Run}

-- the public keys of both parties, one DH result for each DH token, and the psks of the psk tokens, in their order
pub record KeyMaterial : Type 0 where
  pub public : Role → Own → List ℕ
  pub dh_result : Token → List ℕ
  pub psks : List (List ℕ)

-- what the tokens of a party's message carry (Noise 5.3, 9.2)
abbrev pub carried_by : KeyMaterial → Role → List (List ℕ) → List Token → List (List ℕ)
carried_by w party psks [] = []
carried_by w party psks (E ∷ ts) = w.public party Ephemeral ∷ carried_by w party psks ts
carried_by w party psks (S ∷ ts) = w.public party Static ∷ carried_by w party psks ts
carried_by w party psks (Psk ∷ ts) = first_psk psks ∷ carried_by w party (other_psks psks) ts
carried_by w party psks (t ∷ ts) = w.dh_result t ∷ carried_by w party psks ts

-- what message n carries, the state after it, and the psks for the messages after it
abbrev pub carried_at : KeyMaterial → Plan → ℕ → List (List ℕ) → List (List ℕ)
carried_at w p n psks = carried_by w (turn_from Initiator n) psks (tokens_at p.messages n)

abbrev pub state_next : KeyMaterial → Plan → ℕ → List (List ℕ) → SymmetricState → List ℕ → SymmetricState
state_next w p n psks r payload =
    after_payload (has_psk p) r (tokens_at p.messages n) (carried_at w p n psks) payload

abbrev pub psks_next : Plan → ℕ → List (List ℕ) → List (List ℕ)
psks_next p n psks = drop (count_by is_psk (tokens_at p.messages n)) psks

-- the handshake messages from number n on, counted from 0, with these payloads (Noise 5.3)
abbrev pub conversation : KeyMaterial → Plan → ℕ → List (List ℕ) → SymmetricState → List (List ℕ)
    → List HandshakeMessage
conversation w p n psks r [] = []
conversation w p n psks r (payload ∷ payloads) =
    record {
      message = message_bytes (has_psk p) r (tokens_at p.messages n) (carried_at w p n psks) payload;
      carried = carried_at w p n psks;
      payload = payload;
    }
    ∷ conversation w p (n + 1) (psks_next p n psks) (state_next w p n psks r payload) payloads

-- the state after them (Noise 5.3)
abbrev pub after_conversation : KeyMaterial → Plan → ℕ → List (List ℕ) → SymmetricState → List (List ℕ) → SymmetricState
after_conversation w p n psks r [] = r
after_conversation w p n psks r (payload ∷ payloads) =
    after_conversation w p (n + 1) (psks_next p n psks) (state_next w p n psks r payload) payloads

-- a party's public keys
abbrev pub public_keys_in : KeyMaterial → Role → Remote
public_keys_in w party = record { e = Some (w.public party Ephemeral); s = Some (w.public party Static) }

-- the state at the start (Noise 5.3)
abbrev pub start_in : KeyMaterial → Plan → List ℕ → SymmetricState
start_in w p prologue =
    start (name_bytes (record { base = p.base; places = p.places })) p prologue
    (public_keys_in w Initiator) (public_keys_in w Responder)

-- A party starts from its part of the key material: it has its own keys that the pattern asks for, the other party's of
-- its pre-message, the DH result at each DH token, and the psks.
pub record IsPart (w : KeyMaterial) (p : Plan) (role : Role) (prologue : List ℕ) (s : Start) : Type 0 where
  pub prologue_is : s.prologue ≡ prologue
  pub own : (k : Own) → is_among role (token_of k) (places_of p) ≡ true → s.own k ≡ Some (w.public role k)
  pub remote_e : s.remote.e ≡ (if has_before p (other role) E then Some (w.public (other role) Ephemeral) else None)
  pub remote_s : s.remote.s ≡ (if has_before p (other role) S then Some (w.public (other role) Static) else None)
  pub dh_results : (t : Token) → is_dh t ≡ true → occurs t (places_of p) ≡ true
      → dh_result_of s.agree (own_at role t) (remote_at role (public_keys_in w (other role)) t) ≡ Some (w.dh_result t)
  pub psks : s.psks ≡ w.psks

-- Lines, a role and a payload each, in turn and not too long, from message n on: the handshake messages, and then
-- transport messages, which in a one-way pattern the initiator alone writes (Noise 3, 7.4).
abbrev pub InTurn : Plan → ℕ → List (Role × List ℕ) → Type 0
InTurn p n [] = ⊤
InTurn p n (l ∷ lines) =
    MatchBool (nat_lt n (length p.messages))
    ((l.0 ≡ turn_from Initiator n) × (overhead_of p (n + 1) + length l.1 ≤ 65535))
    ((IsTrue (is_one_way p) → l.0 ≡ Initiator) × (length l.1 ≤ 65519) × (n < last_nonce))
    × InTurn p (n + 1) lines

-- what is noted of lines that all come through, when each party has written so many frames
abbrev pub notes_of_messages : ℕ → ℕ → List (Role × List ℕ) → List (Role × Note)
notes_of_messages i j [] = []
notes_of_messages i j (l ∷ lines) =
    (if same_role l.0 Initiator
    then (Initiator, Wrote i) ∷ (Responder, Judged (Payload l.1)) ∷ notes_of_messages (i + 1) j lines
    else (Responder, Wrote j) ∷ (Initiator, Judged (Payload l.1)) ∷ notes_of_messages i (j + 1) lines)

-- a Say event for each line
abbrev pub say_events : List (Role × List ℕ) → List Event
say_events lines = map (λ l. Say l.0 l.1) lines

-- ---- the frames

-- messages with their writers, who take turns, from number n on
abbrev pub in_turn : ℕ → List (List ℕ) → List (Role × List ℕ)
in_turn n [] = []
in_turn n (m ∷ ms) = (turn_from Initiator n, m) ∷ in_turn (n + 1) ms

-- the transport messages of lines with their writers, from a state and so many transport messages of each on (Noise
-- 5.2)
abbrev pub transport_messages_of : SymmetricState → ℕ → ℕ → ℕ → List (Role × List ℕ) → List (Role × List ℕ)
transport_messages_of r interval i j [] = []
transport_messages_of r interval i j (l ∷ lines) =
    (if same_role l.0 Initiator
    then (Initiator, transport_message r Initiator interval i l.1) ∷ transport_messages_of r interval (i + 1) j lines
    else (Responder, transport_message r Responder interval j l.1) ∷ transport_messages_of r interval i (j + 1) lines)

-- the frames of a role among messages with their writers
abbrev pub frames_by : Role → List (Role × List ℕ) → List (List ℕ)
frames_by role [] = []
frames_by role (m ∷ ms) = (if same_role m.0 role then frame m.1 ∷ [] else []) ++ frames_by role ms

-- the payloads of the first k lines
abbrev pub payloads_in : ℕ → List (Role × List ℕ) → List (List ℕ)
payloads_in k lines = map (λ l. l.1) (take k lines)

-- for the lines that are handshake messages: their payloads, their messages, and the state after them
abbrev pub handshake_payloads : Plan → List (Role × List ℕ) → List (List ℕ)
handshake_payloads p lines = payloads_in (length p.messages) lines

abbrev pub handshake_in : KeyMaterial → Plan → List ℕ → List (Role × List ℕ) → List HandshakeMessage
handshake_in w p prologue lines = conversation w p 0 w.psks (start_in w p prologue) (handshake_payloads p lines)

abbrev pub state_after_lines : KeyMaterial → Plan → List ℕ → List (Role × List ℕ) → SymmetricState
state_after_lines w p prologue lines = after_conversation w p 0 w.psks (start_in w p prologue)
    (handshake_payloads p lines)

-- all messages of lines with their writers, the handshake's and then the transport messages
abbrev pub transcript : KeyMaterial → Plan → List ℕ → ℕ → List (Role × List ℕ) → List (Role × List ℕ)
transcript w p prologue interval lines =
    in_turn 0 (messages_of (handshake_in w p prologue lines))
    ++ transport_messages_of (state_after_lines w p prologue lines) interval 0 0 (drop (length p.messages) lines)

-- two new ends of one pattern, with these intervals
abbrev pub sides_at_start : Plan → Start → Start → ℕ → ℕ → Sides
sides_at_start p a b i j = record {
  initiator = new_side (end_of (begun_as p Initiator a) i);
  responder = new_side (end_of (begun_as p Responder b) j);
}

-- Each end has written the frames of the transcript that are its own, and what the one wrote the other has accepted. As
-- many handshake messages have passed as there were lines for, the state is that after their payloads, and the ends
-- have come equally far: they have one state, and each knows the keys that the other has sent.
pub record ComeThrough (w : KeyMaterial) (p : Plan) (prologue : List ℕ) (interval : ℕ) (lines : List (Role × List ℕ))
    (d : Sides) : Type 0 where
  pub frames : (role : Role) → (side d role).frames ≡ frames_by role (transcript w p prologue interval lines)
  pub initiator : d.initiator.passed ≡ handshake_in w p prologue lines
  pub responder : d.responder.passed ≡ d.initiator.passed
  pub state : d.initiator.state.party.state ≡ state_after_lines w p prologue lines
  pub count : d.initiator.state.party.passed ≡ length (handshake_payloads p lines)
  pub ends : EndCounterparts d.initiator.state d.responder.state
  pub there : d.responder.received ≡ d.initiator.sent
  pub back : d.initiator.received ≡ d.responder.sent

-- how many lines are a role's
abbrev pub messages_by : Role → List (Role × List ℕ) → ℕ
messages_by role lines = count_by (λ l. same_role l.0 role) lines

-- The end of a role that starts from this, and faces a party that starts from that, once lines have come through and
-- this is the state: so many messages of the handshake have passed, the psks after theirs are to come, and the other
-- lines were transport messages.
abbrev pub end_after : Plan → Role → Start → Start → ℕ → SymmetricState → List (Role × List ℕ) → EndState
end_after p role s theirs interval r lines =
    let passed : ℕ = min (length p.messages) (length lines) in
    let rest : List (Role × List ℕ) = drop (length p.messages) lines in
    record {
      party = record {
        pattern = p;
        role = role;
        psks = drop (psks_of (take passed p.messages)) s.psks;
        own = s.own;
        agree = s.agree;
        remote = shown_after p (other role) passed theirs.own;
        passed = passed;
        state = r;
        ended = false;
      };
      interval = interval;
      sent = messages_by role rest;
      received = messages_by (other role) rest;
      partial = [];
    }

-- key material with public keys of 32 bytes, and two parties with their parts of it, in a valid pattern
pub record HaveParts (w : KeyMaterial) (p : Plan) (prologue : List ℕ) (a b : Start) : Type 0 where
  pub pattern : IsPattern p
  pub valid : IsValid p
  pub long : (role : Role) (k : Own) → length (w.public role k) ≡ 32
  pub initiator : IsPart w p Initiator prologue a
  pub responder : IsPart w p Responder prologue b

-- Lines in turn between two such parties come through.
abbrev pub MessagesComeThrough : Type 0
MessagesComeThrough = (w : KeyMaterial) (p : Plan) (prologue : List ℕ) (a b : Start) (interval : ℕ)
    (lines : List (Role × List ℕ)) (notes : List (Role × Note)) (d : Sides)
    → HaveParts w p prologue a b → InTurn p 0 lines
    → Run (sides_at_start p a b interval interval) (say_events lines) notes d
    → (notes ≡ notes_of_messages 0 0 lines) × ComeThrough w p prologue interval lines d

-- The two ends left are those after the lines.
abbrev pub MessagesLeave : Type 0
MessagesLeave = (w : KeyMaterial) (p : Plan) (prologue : List ℕ) (a b : Start) (interval : ℕ)
    (lines : List (Role × List ℕ)) (notes : List (Role × Note)) (d : Sides)
    → HaveParts w p prologue a b → InTurn p 0 lines
    → Run (sides_at_start p a b interval interval) (say_events lines) notes d
    → (d.initiator.state ≡ end_after p Initiator a b interval (state_after_lines w p prologue lines) lines)
    × (d.responder.state ≡ end_after p Responder b a interval (state_after_lines w p prologue lines) lines)

-- There is such a run.
abbrev pub MessagesRun : Type 0
MessagesRun = (w : KeyMaterial) (p : Plan) (prologue : List ℕ) (a b : Start) (interval : ℕ)
    (lines : List (Role × List ℕ))
    → HaveParts w p prologue a b → InTurn p 0 lines
    → (notes : List (Role × Note)) × (d : Sides)
    × Run (sides_at_start p a b interval interval) (say_events lines) notes d
