-- Two ends that have come equally far, and what a line leaves of them.
use Rattle.std.proofs.Common.{rules, ◌≡◌, ℕ, ◌+◌, ◌<◌, ◌≤◌, List, ◌∷◌, ◌++◌, length, drop, count_by, refl, ap, sym, subst, ◌∙◌, arith, append_assoc, length-append, []}
use Rattle.std.specs.Prelude.{false}
use Rattle.noise_duel.proofs.Common.{IsTrue, is_some, Role, Initiator, Responder, other, same_role, turn_from, is_psk, Plan, has_psk, is_one_way, has_key, overhead_of, IsValid, SymmetricState, Own, Carry, message_bytes, after_payload, passed_places, Party, Speaks, tokens_at, tokens_now, Given, writer, after_own, after_message, Counterparts, counterpart, IsEquipped, LawsBelow, frame, transport_message, last_nonce, HandshakeMessage, TransportMessage, Side, Sides, side, wrote_handshake, accepted_handshake, wrote_transport, accepted_transport, Say, Note, Wrote, Judged, Happens, KeyMaterial, carried_by, transport_messages_of, frames_by, false_from_ne_true, and_left, and_right}
use Rattle.noise_session.specs.Steps.StepValue.{Payload}
use Rattle.noise_duel.proofs.Parts.{HasMaterial, equipped, given-carried, true-dh-result}
use Rattle.noise_duel.proofs.OneMessage.{say-happens}
use Rattle.noise_duel.proofs.Steps.{HandshakeStep, step-handshake, TransportStep, step-transport, below-too, not-both}

-- ---- two ends that have come equally far

pub record EquallyFar (w : KeyMaterial) (n : ℕ) (d : Sides) : Type 0 where
  pub valid : IsValid d.initiator.state.party.pattern
  pub role : d.initiator.state.party.role ≡ Initiator
  pub counterparts : Counterparts d.initiator.state.party d.responder.state.party
  pub mine : HasMaterial w d.initiator.state.party.pattern Initiator d.initiator.state.party.own d.initiator.state.party.agree
  pub theirs : HasMaterial w d.initiator.state.party.pattern Responder d.responder.state.party.own d.responder.state.party.agree
  pub keyed : is_some d.initiator.state.party.state.cipher.key
      ≡ has_key d.initiator.state.party.pattern (passed_places d.initiator.state.party.pattern d.initiator.state.party.passed)
  pub before : n < length d.initiator.state.party.pattern.messages → d.initiator.state.party.passed ≡ n
  pub beyond : length d.initiator.state.party.pattern.messages ≤ n → d.initiator.state.party.passed ≡ length d.initiator.state.party.pattern.messages
  pub partial : d.initiator.state.partial ≡ []
  pub partial_there : d.responder.state.partial ≡ []
  pub interval : d.responder.state.interval ≡ d.initiator.state.interval
  pub came_there : d.responder.state.received ≡ d.initiator.state.sent
  pub came_back : d.initiator.state.received ≡ d.responder.state.sent
  pub few : d.initiator.state.sent ≤ n
  pub few_there : d.responder.state.sent ≤ n
  pub passed : d.responder.passed ≡ d.initiator.passed
  pub there : d.responder.received ≡ d.initiator.sent
  pub back : d.initiator.received ≡ d.responder.sent

-- the message that is due, by the key material
abbrev pub due_of : KeyMaterial → Party → List ℕ → HandshakeMessage
due_of w v payload = record {
  message = message_bytes (has_psk v.pattern) v.state (tokens_now v) (carried_by w (turn_from Initiator v.passed) v.psks (tokens_now v)) payload;
  carried = carried_by w (turn_from Initiator v.passed) v.psks (tokens_now v);
  payload = payload;
}

abbrev pub after_due : KeyMaterial → Party → List ℕ → SymmetricState
after_due w v payload = after_payload (has_psk v.pattern) v.state (tokens_now v) (carried_by w (turn_from Initiator v.passed) v.psks (tokens_now v)) payload

-- what a line leaves
pub record AfterSaid (w : KeyMaterial) (n : ℕ) (role : Role) (payload : List ℕ) (d e : Sides) : Type 0 where
  pub frames : length (side e role).frames ≡ length (side d role).frames + 1
  pub others : (side e (other role)).frames ≡ (side d (other role)).frames
  pub interval : e.initiator.state.interval ≡ d.initiator.state.interval
  pub equally_far : EquallyFar w (n + 1) e

pub record InHandshake (w : KeyMaterial) (payload : List ℕ) (d e : Sides) : Type 0 where
  pub pattern : e.initiator.state.party.pattern ≡ d.initiator.state.party.pattern
  pub count : e.initiator.state.party.passed ≡ d.initiator.state.party.passed + 1
  pub psks : e.initiator.state.party.psks ≡ drop (count_by is_psk (tokens_now d.initiator.state.party)) d.initiator.state.party.psks
  pub state : e.initiator.state.party.state ≡ after_due w d.initiator.state.party payload
  pub passed : e.initiator.passed ≡ d.initiator.passed ++ due_of w d.initiator.state.party payload ∷ []
  pub sent : e.initiator.state.sent ≡ d.initiator.state.sent
  pub sent_there : e.responder.state.sent ≡ d.responder.state.sent
  pub frames : (r : Role) (rest : List (Role × List ℕ))
      → (side d r).frames ++ frames_by r ((turn_from Initiator d.initiator.state.party.passed, (due_of w d.initiator.state.party payload).message) ∷ rest)
      ≡ (side e r).frames ++ frames_by r rest

pub record InTransport (role : Role) (payload : List ℕ) (d e : Sides) : Type 0 where
  pub frames : (r : Role) (lines : List (Role × List ℕ))
      → (side d r).frames ++ frames_by r
      (transport_messages_of d.initiator.state.party.state d.initiator.state.interval d.initiator.state.sent d.responder.state.sent ((role, payload) ∷ lines))
      ≡ (side e r).frames ++ frames_by r (transport_messages_of e.initiator.state.party.state e.initiator.state.interval e.initiator.state.sent e.responder.state.sent lines)
  pub party : e.initiator.state.party ≡ d.initiator.state.party
  pub passed : e.initiator.passed ≡ d.initiator.passed

abbrev pub handshake_message : List ℕ → List ℕ → List (List ℕ) → HandshakeMessage
handshake_message payload message xs = record { message = message; carried = xs; payload = payload }

message-same : (payload m : List ℕ) (xs ys : List (List ℕ)) (v : Party) → xs ≡ ys → m ≡ message_bytes (has_psk v.pattern) v.state (tokens_now v) xs payload
    → handshake_message payload m xs ≡ handshake_message payload (message_bytes (has_psk v.pattern) v.state (tokens_now v) ys payload) ys
message-same payload m xs ys v e f = search

-- what a party's message carries is that of the key material
carried-is : LawsBelow → (w : KeyMaterial) (v u : Party) (role : Role) (xs : List (List ℕ)) → IsValid v.pattern → Counterparts v u → v.role ≡ role
    → turn_from Initiator v.passed ≡ role
    → HasMaterial w v.pattern role v.own v.agree → HasMaterial w v.pattern (other role) u.own u.agree → Given (writer v) v.remote v.psks (tokens_now v) xs
    → xs ≡ carried_by w role v.psks (tokens_now v)
carried-is laws w v u role xs valid m is turn mine theirs given = search (rules, given-carried, true-dh-result)

-- a frame more of a role
frames-on : (role r : Role) (d e : Sides) (message : List ℕ) (rest : List (Role × List ℕ)) → (side e role).frames ≡ (side d role).frames ++ frame message ∷ []
    → (side e (other role)).frames ≡ (side d (other role)).frames
    → (side d r).frames ++ frames_by r ((role, message) ∷ rest) ≡ (side e r).frames ++ frames_by r rest
frames-on Initiator Initiator d e message rest f g = search (rules, append_assoc)
frames-on Initiator Responder d e message rest f g = ap (λ (fs : List (List ℕ)). fs ++ frames_by Responder rest) (sym g)
frames-on Responder Initiator d e message rest f g = ap (λ (fs : List (List ℕ)). fs ++ frames_by Initiator rest) (sym g)
frames-on Responder Responder d e message rest f g = search (rules, append_assoc)

module _ (laws : LawsBelow) (w : KeyMaterial) (long : (role : Role) (k : Own) → length (w.public role k) ≡ 32) where
  -- a line of the handshake
  pub record SaidInHandshake (n : ℕ) (role : Role) (payload : List ℕ) (d e : Sides) (notes : List (Role × Note)) : Type 0 where
    pub noted : notes ≡ (role, Wrote (length (side d role).frames)) ∷ (other role, Judged (Payload payload)) ∷ []
    pub past_message : AfterSaid w n role payload d e
    pub handshake : InHandshake w payload d e

  pub handshake-at : (n : ℕ) (role : Role) (payload : List ℕ) (d : Sides) → EquallyFar w n d → n < length d.initiator.state.party.pattern.messages
      → role ≡ turn_from Initiator n → overhead_of d.initiator.state.party.pattern (n + 1) + length payload ≤ 65535
      → HandshakeStep (side d role) (side d (other role)) payload
  handshake-at n Initiator payload d a more turn room =
      let s : Side = d.initiator in
      let t : Side = d.responder in
      let v : Party = s.state.party in
      let u : Party = t.state.party in
      let p : Plan = v.pattern in
      let at : v.passed ≡ n = a.before more in
      let due : v.passed < length p.messages = subst (λ (k : ℕ). k < length p.messages) (sym at) more in
      let mine : turn_from Initiator v.passed ≡ Initiator = ap (turn_from Initiator) at ∙ sym turn in
      let speaks : Speaks v = record { going = ap (λ (z : Party). z.ended) a.counterparts.back; more = due; turn = mine ∙ sym a.role } in
      let has : IsEquipped p v.role v.own v.agree u.own = search (rules, equipped) in
      let fits : overhead_of p (v.passed + 1) + length payload ≤ 65535 = subst (λ (k : ℕ). overhead_of p (k + 1) + length payload ≤ 65535) (sym at) room in
      step-handshake laws s t payload a.valid a.counterparts has speaks a.keyed fits a.partial_there
  handshake-at n Responder payload d a more turn room =
      let s : Side = d.responder in
      let t : Side = d.initiator in
      let v : Party = t.state.party in
      let u : Party = s.state.party in
      let p : Plan = v.pattern in
      let turned : Counterparts u v = laws.turned v u a.counterparts in
      let at : v.passed ≡ n = a.before more in
      let due : v.passed < length p.messages = subst (λ (k : ℕ). k < length p.messages) (sym at) more in
      let mine : turn_from Initiator v.passed ≡ Responder = ap (turn_from Initiator) at ∙ sym turn in
      let there : (P : Party → Type 0) → P (counterpart v u.own u.agree) → P u = λ P h. subst P (sym a.counterparts.there) h in
      let role : u.role ≡ Responder = ap (λ (z : Party). z.role) a.counterparts.there ∙ ap other a.role in
      let speaks : Speaks u = there (λ z. Speaks z) (record { going = refl; more = due; turn = mine ∙ sym (ap other a.role) }) in
      let valid : IsValid u.pattern = there (λ z. IsValid z.pattern) a.valid in
      let has1 : IsEquipped p Responder u.own u.agree v.own = equipped laws w p a.valid Responder u.own v.own u.agree v.agree long a.theirs a.mine in
      let has2 : IsEquipped p u.role u.own u.agree v.own = subst (λ (r : Role). IsEquipped p r u.own u.agree v.own) (sym role) has1 in
      let has : IsEquipped u.pattern u.role u.own u.agree v.own = search rules in
      let keyed : is_some u.state.cipher.key ≡ has_key u.pattern (passed_places u.pattern u.passed) = search rules in
      let fits : overhead_of u.pattern (u.passed + 1) + length payload ≤ 65535 = search rules in
      step-handshake laws s t payload valid turned has speaks keyed fits a.partial

  pub handshake-said : (n : ℕ) (role : Role) (payload : List ℕ) (d e : Sides) (notes : List (Role × Note)) → EquallyFar w n d
      → n < length d.initiator.state.party.pattern.messages
      → role ≡ turn_from Initiator n → overhead_of d.initiator.state.party.pattern (n + 1) + length payload ≤ 65535 → Happens d (Say role payload) notes e
      → SaidInHandshake n role payload d e notes
  handshake-said n Initiator payload d e notes a more turn room does =
      let s : Side = d.initiator in
      let t : Side = d.responder in
      let v : Party = s.state.party in
      let u : Party = t.state.party in
      let p : Plan = v.pattern in
      let at : v.passed ≡ n = a.before more in
      let due : v.passed < length p.messages = subst (λ (k : ℕ). k < length p.messages) (sym at) more in
      let mine : turn_from Initiator v.passed ≡ Initiator = ap (turn_from Initiator) at ∙ sym turn in
      let sp = handshake-at n Initiator payload d a more turn room in
      let xs : List (List ℕ) = sp.carried in
      let m : HandshakeMessage = handshake_message payload sp.message xs in
      let after : Sides = record { initiator = wrote_handshake s m; responder = accepted_handshake t m } in
      let out = say-happens d e Initiator payload sp.message notes (wrote_handshake s m) (accepted_handshake t m) sp.lacks sp.written refl sp.receives refl
      does in
      let is : xs ≡ carried_by w (turn_from Initiator v.passed) v.psks (tokens_now v) = search (carried-is, mine) in
      let carry : Carry (tokens_at p.messages v.passed) xs = laws.written_carries v payload sp.message xs sp.writes in
      let equally_far : EquallyFar w (n + 1) after = record {
        valid = a.valid;
        role = a.role;
        counterparts = sp.counterparts;
        mine = a.mine;
        theirs = a.theirs;
        keyed = laws.keyed_next p v.passed v.state xs payload due carry a.keyed;
        before = λ h. ap (λ (k : ℕ). k + 1) at;
        beyond = λ h. omega (arith, h, more, at);
        partial = a.partial;
        partial_there = refl;
        interval = a.interval;
        came_there = a.came_there;
        came_back = a.came_back;
        few = omega (arith, a.few);
        few_there = omega (arith, a.few_there);
        passed = ap (λ (ms : List HandshakeMessage). ms ++ m ∷ []) a.passed;
        there = a.there;
        back = a.back;
      } in
      let same : m ≡ due_of w v payload = search message-same in
      let past_message : AfterSaid w n Initiator payload d after =
      record { frames = length-append s.frames (frame sp.message ∷ []); others = refl; interval = refl; equally_far = equally_far } in
      let handshake : InHandshake w payload d after = record {
        pattern = refl;
        count = refl;
        psks = refl;
        state = ap (λ (zs : List (List ℕ)). after_payload (has_psk p) v.state (tokens_now v) zs payload) is;
        passed = ap (λ (z : HandshakeMessage). s.passed ++ z ∷ []) same;
        sent = refl;
        sent_there = refl;
        frames = search (rules, frames-on);
      } in
      record {
        noted = out.0;
        past_message = subst (λ (z : Sides). AfterSaid w n Initiator payload d z) (sym out.1) past_message;
        handshake = subst (λ (z : Sides). InHandshake w payload d z) (sym out.1) handshake;
      }
  handshake-said n Responder payload d e notes a more turn room does =
      let s : Side = d.responder in
      let t : Side = d.initiator in
      let v : Party = t.state.party in
      let u : Party = s.state.party in
      let p : Plan = v.pattern in
      let turned : Counterparts u v = laws.turned v u a.counterparts in
      let at : v.passed ≡ n = a.before more in
      let due : v.passed < length p.messages = subst (λ (k : ℕ). k < length p.messages) (sym at) more in
      let mine : turn_from Initiator v.passed ≡ Responder = ap (turn_from Initiator) at ∙ sym turn in
      let there : (P : Party → Type 0) → P (counterpart v u.own u.agree) → P u = λ P h. subst P (sym a.counterparts.there) h in
      let role : u.role ≡ Responder = ap (λ (z : Party). z.role) a.counterparts.there ∙ ap other a.role in
      let valid : IsValid u.pattern = there (λ z. IsValid z.pattern) a.valid in
      let sp = handshake-at n Responder payload d a more turn room in
      let xs : List (List ℕ) = sp.carried in
      let m : HandshakeMessage = handshake_message payload sp.message xs in
      let after : Sides = record { initiator = accepted_handshake t m; responder = wrote_handshake s m } in
      let out = say-happens d e Responder payload sp.message notes (wrote_handshake s m) (accepted_handshake t m) sp.lacks sp.written refl sp.receives refl
      does in
      let own1 : HasMaterial w u.pattern Responder u.own u.agree = there (λ z. HasMaterial w z.pattern Responder u.own u.agree) a.theirs in
      let own2 : HasMaterial w u.pattern Initiator v.own v.agree = there (λ z. HasMaterial w z.pattern Initiator v.own v.agree) a.mine in
      let whose : turn_from Initiator u.passed ≡ Responder = there (λ z. turn_from Initiator z.passed ≡ Responder) mine in
      let is : xs ≡ carried_by w (turn_from Initiator v.passed) v.psks (tokens_now v) = search (rules, carried-is) in
      let carry : Carry (tokens_at p.messages v.passed) xs = laws.accepted_carries v payload sp.message xs sp.accepts in
      let equally_far : EquallyFar w (n + 1) after = record {
        valid = a.valid;
        role = a.role;
        counterparts = laws.turned (after_own u xs payload) (after_message v xs payload) sp.counterparts;
        mine = a.mine;
        theirs = a.theirs;
        keyed = laws.keyed_next p v.passed v.state xs payload due carry a.keyed;
        before = λ h. ap (λ (k : ℕ). k + 1) at;
        beyond = λ h. omega (arith, h, more, at);
        partial = refl;
        partial_there = a.partial_there;
        interval = a.interval;
        came_there = a.came_there;
        came_back = a.came_back;
        few = omega (arith, a.few);
        few_there = omega (arith, a.few_there);
        passed = ap (λ (ms : List HandshakeMessage). ms ++ m ∷ []) a.passed;
        there = a.there;
        back = a.back;
      } in
      let same : m ≡ due_of w v payload = search message-same in
      let past_message : AfterSaid w n Responder payload d after =
      record { frames = length-append s.frames (frame sp.message ∷ []); others = refl; interval = refl; equally_far = equally_far } in
      let handshake : InHandshake w payload d after = record {
        pattern = refl;
        count = refl;
        psks = refl;
        state = ap (λ (zs : List (List ℕ)). after_payload (has_psk p) v.state (tokens_now v) zs payload) is;
        passed = ap (λ (z : HandshakeMessage). t.passed ++ z ∷ []) same;
        sent = refl;
        sent_there = refl;
        frames = search (rules, frames-on);
      } in
      record {
        noted = out.0;
        past_message = subst (λ (z : Sides). AfterSaid w n Responder payload d z) (sym out.1) past_message;
        handshake = subst (λ (z : Sides). InHandshake w payload d z) (sym out.1) handshake;
      }

-- ---- a line of the transport

abbrev pub with_payload : List ℕ → List ℕ → TransportMessage
with_payload message payload = record { message = message; payload = payload }

module _ (w : KeyMaterial) where
  pub record SaidInTransport (n : ℕ) (role : Role) (payload : List ℕ) (d e : Sides) (notes : List (Role × Note)) : Type 0 where
    pub noted : notes ≡ (role, Wrote (length (side d role).frames)) ∷ (other role, Judged (Payload payload)) ∷ []
    pub past_message : AfterSaid w n role payload d e
    pub transport : InTransport role payload d e

  pub transport-at : (n : ℕ) (role : Role) (payload : List ℕ) (d : Sides) → EquallyFar w n d → length d.initiator.state.party.pattern.messages ≤ n
      → (IsTrue (is_one_way d.initiator.state.party.pattern) → role ≡ Initiator) → length payload ≤ 65519 → n < last_nonce
      → TransportStep (side d role) (side d (other role)) payload
  transport-at n Initiator payload d a ended_party one short low =
      let s : Side = d.initiator in
      let t : Side = d.responder in
      let v : Party = s.state.party in
      let u : Party = t.state.party in
      let p : Plan = v.pattern in
      let there : (P : Party → Type 0) → P (counterpart v u.own u.agree) → P u = λ P h. subst P (sym a.counterparts.there) h in
      let going : v.ended ≡ false = ap (λ (z : Party). z.ended) a.counterparts.back in
      let going_t : u.ended ≡ false = ap (λ (z : Party). z.ended) a.counterparts.there in
      let all : v.passed ≡ length p.messages = a.beyond ended_party in
      let all_t : u.passed ≡ length u.pattern.messages = there (λ z. z.passed ≡ length z.pattern.messages) all in
      let role_t : u.role ≡ Responder = ap (λ (z : Party). z.role) a.counterparts.there ∙ ap other a.role in
      step-transport s t payload all all_t
      (and_right (is_one_way p) (same_role v.role Responder) (ap (λ (r : Role). same_role r Responder) a.role))
      (and_right (is_one_way u.pattern) (same_role u.role Initiator) (ap (λ (r : Role). same_role r Initiator) role_t))
      going going_t short (below-too s.state.sent n last_nonce a.few low) a.came_there (ap (λ (z : Party). z.state) a.counterparts.there) a.interval
      (ap other role_t ∙ sym a.role) a.partial_there
  transport-at n Responder payload d a ended_party one short low =
      let s : Side = d.responder in
      let t : Side = d.initiator in
      let v : Party = t.state.party in
      let u : Party = s.state.party in
      let p : Plan = v.pattern in
      let there : (P : Party → Type 0) → P (counterpart v u.own u.agree) → P u = λ P h. subst P (sym a.counterparts.there) h in
      let going : v.ended ≡ false = ap (λ (z : Party). z.ended) a.counterparts.back in
      let going_s : u.ended ≡ false = ap (λ (z : Party). z.ended) a.counterparts.there in
      let all : v.passed ≡ length p.messages = a.beyond ended_party in
      let all_s : u.passed ≡ length u.pattern.messages = there (λ z. z.passed ≡ length z.pattern.messages) all in
      let role_s : u.role ≡ Responder = ap (λ (z : Party). z.role) a.counterparts.there ∙ ap other a.role in
      let two : is_one_way p ≡ false = false_from_ne_true (is_one_way p) (λ h. not-both (one h)) in
      let two_s : is_one_way u.pattern ≡ false = there (λ z. is_one_way z.pattern ≡ false) two in
      step-transport s t payload all_s all
      (and_left (is_one_way u.pattern) (same_role u.role Responder) two_s) (and_left (is_one_way p) (same_role v.role Initiator) two)
      going_s going short (below-too s.state.sent n last_nonce a.few_there low) a.came_back (sym (ap (λ (z : Party). z.state) a.counterparts.there))
      (sym a.interval) (ap other a.role ∙ sym role_s) a.partial

  pub transport-said : (n : ℕ) (role : Role) (payload : List ℕ) (d e : Sides) (notes : List (Role × Note)) → EquallyFar w n d
      → length d.initiator.state.party.pattern.messages ≤ n
      → (IsTrue (is_one_way d.initiator.state.party.pattern) → role ≡ Initiator) → length payload ≤ 65519 → n < last_nonce → Happens d (Say role payload) notes e
      → SaidInTransport n role payload d e notes
  transport-said n Initiator payload d e notes a ended_party one short low does =
      let s : Side = d.initiator in
      let t : Side = d.responder in
      let v : Party = s.state.party in
      let u : Party = t.state.party in
      let p : Plan = v.pattern in
      let all : v.passed ≡ length p.messages = a.beyond ended_party in
      let sp = transport-at n Initiator payload d a ended_party one short low in
      let m : TransportMessage = with_payload sp.message payload in
      let after : Sides = record { initiator = wrote_transport s m; responder = accepted_transport t m } in
      let out = say-happens d e Initiator payload sp.message notes (wrote_transport s m) (accepted_transport t m) sp.lacks sp.written refl sp.receives refl
      does in
      let equally_far : EquallyFar w (n + 1) after = record {
        valid = a.valid;
        role = a.role;
        counterparts = a.counterparts;
        mine = a.mine;
        theirs = a.theirs;
        keyed = a.keyed;
        before = λ h. absurd (omega (arith, h, ended_party));
        beyond = λ h. all;
        partial = a.partial;
        partial_there = refl;
        interval = a.interval;
        came_there = ap (λ (k : ℕ). k + 1) a.came_there;
        came_back = a.came_back;
        few = omega (arith, a.few);
        few_there = omega (arith, a.few_there);
        passed = a.passed;
        there = ap (λ (ms : List TransportMessage). ms ++ m ∷ []) a.there;
        back = a.back;
      } in
      record {
        noted = out.0;
        past_message = subst (λ (z : Sides). AfterSaid w n Initiator payload d z) (sym out.1)
            (record { frames = length-append s.frames (frame sp.message ∷ []); others = refl; interval = refl; equally_far = equally_far });
        transport = subst (λ (z : Sides). InTransport Initiator payload d z) (sym out.1) (record {
          party = refl;
          passed = refl;
          frames = λ r lines. ap
              (λ (z : List ℕ). (side d r).frames ++ frames_by r ((Initiator, z) ∷ transport_messages_of v.state s.state.interval (s.state.sent + 1) t.state.sent lines))
              (ap (λ (q : Role). transport_message v.state q s.state.interval s.state.sent payload) (sym a.role) ∙ sym sp.is)
              ∙ frames-on Initiator r d after sp.message (transport_messages_of v.state s.state.interval (s.state.sent + 1) t.state.sent lines) refl refl;
        });
      }
  transport-said n Responder payload d e notes a ended_party one short low does =
      let s : Side = d.responder in
      let t : Side = d.initiator in
      let v : Party = t.state.party in
      let u : Party = s.state.party in
      let p : Plan = v.pattern in
      let all : v.passed ≡ length p.messages = a.beyond ended_party in
      let role_s : u.role ≡ Responder = ap (λ (z : Party). z.role) a.counterparts.there ∙ ap other a.role in
      let sp = transport-at n Responder payload d a ended_party one short low in
      let m : TransportMessage = with_payload sp.message payload in
      let after : Sides = record { initiator = accepted_transport t m; responder = wrote_transport s m } in
      let out = say-happens d e Responder payload sp.message notes (wrote_transport s m) (accepted_transport t m) sp.lacks sp.written refl sp.receives refl
      does in
      let equally_far : EquallyFar w (n + 1) after = record {
        valid = a.valid;
        role = a.role;
        counterparts = a.counterparts;
        mine = a.mine;
        theirs = a.theirs;
        keyed = a.keyed;
        before = λ h. absurd (omega (arith, h, ended_party));
        beyond = λ h. all;
        partial = refl;
        partial_there = a.partial_there;
        interval = a.interval;
        came_there = a.came_there;
        came_back = ap (λ (k : ℕ). k + 1) a.came_back;
        few = omega (arith, a.few);
        few_there = omega (arith, a.few_there);
        passed = a.passed;
        there = a.there;
        back = ap (λ (ms : List TransportMessage). ms ++ m ∷ []) a.back;
      } in
      record {
        noted = out.0;
        past_message = subst (λ (z : Sides). AfterSaid w n Responder payload d z) (sym out.1)
            (record { frames = length-append s.frames (frame sp.message ∷ []); others = refl; interval = refl; equally_far = equally_far });
        transport = subst (λ (z : Sides). InTransport Responder payload d z) (sym out.1) (record {
          party = refl;
          passed = refl;
          frames = λ r lines. ap
              (λ (z : List ℕ). (side d r).frames ++ frames_by r ((Responder, z) ∷ transport_messages_of v.state t.state.interval t.state.sent (s.state.sent + 1) lines))
              (ap (λ (q : Role). transport_message v.state q t.state.interval s.state.sent payload) (sym role_s)
              ∙ ap (λ (k : ℕ). transport_message v.state u.role k s.state.sent payload) (sym a.interval)
              ∙ ap (λ (h : SymmetricState). transport_message h u.role s.state.interval s.state.sent payload) (sym (ap (λ (z : Party). z.state) a.counterparts.there)) ∙ sym sp.is)
              ∙ frames-on Responder r d after sp.message (transport_messages_of v.state t.state.interval t.state.sent (s.state.sent + 1) lines) refl refl;
        });
      }
