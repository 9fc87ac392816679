-- A message from one end to the other one, which listens: in the handshake, and in transport.
use Rattle.std.proofs.Common.{rules, ◌≡◌, ◌≢◌, ℕ, ◌+◌, ◌<◌, ◌≤◌, List, ◌∷◌, length, refl, ap, sym, subst, ◌∙◌, arith, None, []}
use Rattle.std.specs.Prelude.{true, false, ◌&&◌, ◌==◌}
use Rattle.noise_duel.proofs.Common.{nat_tests, nat_lt, IsTrue, is_some, Role, Initiator, Responder, other, same_role, turn_from, is_one_way, has_key, overhead_of, IsValid, rekeyed_times, passed_places, Party, Accepts, Listens, Speaks, Writes, after_own, after_message, Counterparts, IsEquipped, SendFault, frame, transport_message, last_nonce, rekeys, split_key, Progress, is_open, idle_step, refusal, Handshaking, LawsBelow, EndState, progress_of, Side, wrote_handshake, accepted_handshake, wrote_transport, accepted_transport, Note, Wrote, WriteFault, Judged, SideWrites, SideReceives, writes_handshake, writes_transport, accepts_handshake, accepts_transport, same_role-self}
use Rattle.noise_aead.specs.Sealing.{nonce_of}
use Rattle.noise_aead.specs.Sealed.{length-sealed}
use Rattle.noise_session.specs.Steps.StepValue.{Payload}
use Rattle.noise_session.specs.Progress.Progress.{Open}
use Rattle.noise_duel.proofs.Invariant.{all-passed}
use Rattle.noise_duel.proofs.OneMessage.{writes-no-fault, writes-message, writes-transport_message, reads-message, reads-transport_message, receives-one, receives-can}
use Rattle.std.proofs.lemmas.Bool.{eq-eqb}

-- ---- no refusal, and not idle

pub below : (a b : ℕ) → a < b → (a == b) ≡ false
below a b h = grind (arith, nat_tests)

pub apart : (a b : ℕ) → a < b → a ≢ b
apart a b h e = omega (arith, h, e)

in-room : (n : ℕ) → n ≤ 65535 → nat_lt 65535 n ≡ false
in-room n h = grind (arith, nat_tests)

-- how far an end has come of whose handshake messages are to come, or all have passed
pub handshaking : (v : EndState) → v.party.ended ≡ false → v.party.passed < length v.party.pattern.messages
    → progress_of v ≡ Handshaking v.party.pattern v.party.role v.party.passed
handshaking v going more = rw (going, below v.party.passed (length v.party.pattern.messages) more) refl

pub opened-now : (v : EndState) → v.party.ended ≡ false → v.party.passed ≡ length v.party.pattern.messages
    → progress_of v ≡ Open v.party.role (is_one_way v.party.pattern) v.sent v.received
opened-now v going all = rw (going, eq-eqb v.party.passed (length v.party.pattern.messages) all) refl

-- a party whose turn it is in the handshake isn't refused
speaks-unrefused : (s : EndState) (n : ℕ) → Speaks s.party → overhead_of s.party.pattern (s.party.passed + 1) + n ≤ 65535 → refusal (progress_of s) n ≡ None
speaks-unrefused s n h room =
    ap (λ (p : Progress). refusal p n) (handshaking s h.going h.more)
    ∙ ap (λ (r : Role). refusal (Handshaking s.party.pattern r s.party.passed) n) (sym h.turn)
    ∙ own-turn (turn_from Initiator s.party.passed) refl
  where
    own-turn : (r : Role) → turn_from Initiator s.party.passed ≡ r → refusal (Handshaking s.party.pattern r s.party.passed) n ≡ None
    own-turn r e = rw (ap (λ (q : Role). same_role q r) e ∙ same_role-self r, in-room (overhead_of s.party.pattern (s.party.passed + 1) + n) room) refl

-- one whose turn it isn't listens
listens-now : (t : EndState) → Listens t.party → idle_step (progress_of t) ≡ None
listens-now t h = search rules

-- ---- a handshake message

pub record HandshakeStep (s t : Side) (payload : List ℕ) : Type 0 where
  pub carried : List (List ℕ)
  pub message : List ℕ
  pub writes : Writes s.state.party payload carried message
  pub accepts : Accepts t.state.party message carried payload
  pub counterparts : Counterparts (after_own s.state.party carried payload) (after_message t.state.party carried payload)
  pub lacks : (why : SendFault) (next : Side) → SideWrites s payload (WriteFault why) next → ⊥
  pub written : (k : ℕ) (next : Side) → SideWrites s payload (Wrote k) next
      → (next ≡ wrote_handshake s (record { message = message; carried = carried; payload = payload })) × (k ≡ length s.frames)
  pub can_write : SideWrites s payload (Wrote (length s.frames)) (wrote_handshake s (record { message = message; carried = carried; payload = payload }))
  pub can_receive : SideReceives t (frame message) (Judged (Payload payload) ∷ [])
      (accepted_handshake t (record { message = message; carried = carried; payload = payload }))
  pub receives : (ns : List Note) (last : Side) → SideReceives t (frame message) ns last
      → (ns ≡ Judged (Payload payload) ∷ []) × (last ≡ accepted_handshake t (record { message = message; carried = carried; payload = payload }))

pub step-handshake : LawsBelow → (s t : Side) (payload : List ℕ) → IsValid s.state.party.pattern → Counterparts s.state.party t.state.party
    → IsEquipped s.state.party.pattern s.state.party.role s.state.party.own s.state.party.agree t.state.party.own → Speaks s.state.party
    → is_some s.state.party.state.cipher.key ≡ has_key s.state.party.pattern (passed_places s.state.party.pattern s.state.party.passed)
    → overhead_of s.state.party.pattern (s.state.party.passed + 1) + length payload ≤ 65535 → t.state.partial ≡ [] → HandshakeStep s t payload
step-handshake laws s t payload valid m has speaks keyed room empty =
    let v : Party = s.state.party in
    let u : Party = t.state.party in
    let d = laws.due v u payload valid m has speaks keyed room in
    let a : Accepts u d.1 d.0 payload = laws.accepts v u payload d.1 d.0 valid m d.2 in
    let closed_s : is_open (progress_of s.state) ≡ false = ap is_open (handshaking s.state speaks.going speaks.more) in
    let closed_t : is_open (progress_of t.state) ≡ false = ap is_open (handshaking t.state a.listens.going a.listens.more) in
    record {
      carried = d.0;
      message = d.1;
      writes = d.2;
      accepts = a;
      counterparts = laws.next v u payload d.1 d.0 valid m d.2;
      lacks = λ why next. writes-no-fault s next payload why (speaks-unrefused s.state (length payload) speaks room)
          (λ k l. laws.not_lacking v payload d.1 d.0 k d.2 l);
      written = λ k next. writes-message laws s payload next d.1 d.0 k closed_s d.2;
      can_write = writes_handshake s d.1 payload d.0 (speaks-unrefused s.state (length payload) speaks room) d.2;
      can_receive = receives-can t (accepted_handshake t (record { message = d.1; carried = d.0; payload = payload })) d.1 payload
          (listens-now t.state a.listens) empty refl a.fits (accepts_handshake t d.1 payload d.0 a);
      receives = λ ns last. receives-one t (accepted_handshake t (record { message = d.1; carried = d.0; payload = payload })) last d.1 payload ns
          (listens-now t.state a.listens) empty refl a.fits
          (reads-message laws t d.1 payload d.0 closed_t a);
    }

-- ---- a transport message

pub record TransportStep (s t : Side) (payload : List ℕ) : Type 0 where
  pub message : List ℕ
  pub is : message ≡ transport_message s.state.party.state s.state.party.role s.state.interval s.state.sent payload
  pub lacks : (why : SendFault) (next : Side) → SideWrites s payload (WriteFault why) next → ⊥
  pub written : (k : ℕ) (next : Side) → SideWrites s payload (Wrote k) next
      → (next ≡ wrote_transport s (record { message = message; payload = payload })) × (k ≡ length s.frames)
  pub can_write : SideWrites s payload (Wrote (length s.frames)) (wrote_transport s (record { message = message; payload = payload }))
  pub can_receive : SideReceives t (frame message) (Judged (Payload payload) ∷ []) (accepted_transport t (record { message = message; payload = payload }))
  pub receives : (ns : List Note) (last : Side) → SideReceives t (frame message) ns last
      → (ns ≡ Judged (Payload payload) ∷ []) × (last ≡ accepted_transport t (record { message = message; payload = payload }))

pub below-too : (a n b : ℕ) → a ≤ n → n < b → a < b
below-too a n b h k = omega (arith, h, k)

pub not-both : Responder ≡ Initiator → ⊥
not-both e = let bad : true ≡ false = ap (λ (r : Role). same_role r Responder) e in cc

pub step-transport : (s t : Side) (payload : List ℕ) → s.state.party.passed ≡ length s.state.party.pattern.messages
    → t.state.party.passed ≡ length t.state.party.pattern.messages
    → (is_one_way s.state.party.pattern && same_role s.state.party.role Responder) ≡ false
    → (is_one_way t.state.party.pattern && same_role t.state.party.role Initiator) ≡ false
    → s.state.party.ended ≡ false → t.state.party.ended ≡ false
    → length payload ≤ 65519 → s.state.sent < last_nonce → t.state.received ≡ s.state.sent → t.state.party.state ≡ s.state.party.state
    → t.state.interval ≡ s.state.interval
    → other t.state.party.role ≡ s.state.party.role → t.state.partial ≡ [] → TransportStep s t payload
step-transport s t payload all all_t ones onet going going_t short low count history interval role empty =
    let p : progress_of s.state ≡ Open s.state.party.role (is_one_way s.state.party.pattern) s.state.sent s.state.received = opened-now s.state going all in
    let q : progress_of t.state ≡ Open t.state.party.role (is_one_way t.state.party.pattern) t.state.sent t.state.received = opened-now t.state going_t all_t in
    let es : is_open (progress_of s.state) ≡ true = ap is_open p in
    let et : is_open (progress_of t.state) ≡ true = ap is_open q in
    let key : List ℕ = rekeyed_times (rekeys s.state.interval s.state.sent) (split_key s.state.party.state s.state.party.role) in
    let m : List ℕ = transport_message s.state.party.state s.state.party.role s.state.interval s.state.sent payload in
    let free : refusal (progress_of s.state) (length payload) ≡ None = search rules in
    let idle : idle_step (progress_of t.state) ≡ None = search in
    let is : m ≡ transport_message t.state.party.state (other t.state.party.role) t.state.interval t.state.received payload = search in
    let size : length m ≡ length payload + 16 = length-sealed key (nonce_of s.state.sent) [] payload in
    let below_last : t.state.received ≢ last_nonce = apart t.state.received last_nonce (subst (λ (k : ℕ). k < last_nonce) (sym count) low) in
    record {
      message = m;
      is = refl;
      lacks = λ why next. writes-no-fault s next payload why free (λ k l. after-all s.state es l.speaks.more);
      written = λ k next. writes-transport_message s payload next k es;
      can_write = writes_transport s m payload free es refl;
      can_receive = receives-can t (accepted_transport t (record { message = m; payload = payload })) m payload idle empty refl (omega (arith, size, short))
          (accepts_transport t m payload et below_last is);
      receives = λ ns last. receives-one t (accepted_transport t (record { message = m; payload = payload })) last m payload ns idle empty refl
          (omega (arith, size, short))
          (reads-transport_message t m payload et below_last is);
    }
  where
    after-all : (v : EndState) → IsTrue (is_open (progress_of v)) → v.party.passed < length v.party.pattern.messages → ⊥
    after-all v h less = omega (arith, less, all-passed v h)
