-- Lines in turn between two parties with their parts of one key material come through.
use Rattle.std.proofs.Common.{rules, ◌≡◌, ℕ, zero, suc, ◌+◌, ◌-◌, ◌<◌, ◌≤◌, List, ◌∷◌, ◌++◌, length, take, drop, map, count_by, refl, ap, sym, subst, ◌∙◌, arith, append-nil, append_assoc, Some, None, []}
use Rattle.std.specs.Prelude.{Bool, true, false, Option, if◌then◌else◌}
use Rattle.noise_duel.proofs.Common.{nat_lt, IsTrue, MatchBool, unwrap_or, Role, Initiator, Responder, Token, E, S, Ee, Es, Se, Ss, Psk, other, same_role, turn_from, is_psk, Plan, places_of, has_psk, is_one_way, overhead_of, is_among, IsValid, name_bytes, SymmetricState, Own, Ephemeral, Static, Remote, with_ephemeral, Party, tokens_now, with_premessage, has_before, has_token, token_of, party_at_start, public_keys, Counterparts, shown_before, LawsBelow, last_nonce, HandshakeMessage, Start, begun_as, messages_of, TransportMessage, Side, Sides, side, with_side, wrote_handshake, accepted_handshake, wrote_transport, accepted_transport, Say, Note, Wrote, Judged, Happens, Run, KeyMaterial, conversation, after_conversation, public_keys_in, start_in, IsPart, InTurn, notes_of_messages, say_events, sides_at_start, in_turn, transport_messages_of, frames_by, payloads_in, MessagesComeThrough, MessagesRun, ltb-true, ltb-false}
use Rattle.noise_names.specs.Limits.{IsPattern}
use Rattle.noise_session.specs.Steps.StepValue.{Payload}
use Rattle.noise_duel.specs.Runs.Run.{ends, begins}
use Rattle.noise_duel.proofs.Parts.{HasMaterial, dh-results-agree}
use Rattle.noise_duel.proofs.OneMessage.{say-can}
use Rattle.noise_duel.proofs.EquallyFar.{EquallyFar, due_of, after_due, handshake_message, SaidInHandshake, handshake-at, handshake-said, with_payload, SaidInTransport, transport-at, transport-said}
use Rattle.noise_state.specs.Symmetric.{initialize, mix_hash}

-- ---- all lines

take-none : (k : ℕ) → take {A = Role × List ℕ} k [] ≡ []
take-none zero = refl
take-none (suc k) = refl

drop-none : (k : ℕ) → drop {A = Role × List ℕ} k [] ≡ []
drop-none zero = refl
drop-none (suc k) = refl

noted-on : (role : Role) (payload : List ℕ) (d next : Sides) (now later : List (Role × Note)) (lines : List (Role × List ℕ))
    → now ≡ (role, Wrote (length (side d role).frames)) ∷ (other role, Judged (Payload payload)) ∷ []
    → length (side next role).frames ≡ length (side d role).frames + 1 → (side next (other role)).frames ≡ (side d (other role)).frames
    → later ≡ notes_of_messages (length next.initiator.frames) (length next.responder.frames) lines
    → now ++ later ≡ (if same_role role Initiator
    then (Initiator, Wrote (length d.initiator.frames)) ∷ (Responder, Judged (Payload payload)) ∷ notes_of_messages (length d.initiator.frames + 1)
    (length d.responder.frames) lines
    else (Responder, Wrote (length d.responder.frames)) ∷ (Initiator, Judged (Payload payload)) ∷ notes_of_messages (length d.initiator.frames)
    (length d.responder.frames + 1) lines)
noted-on Initiator payload d next now later lines e f g h = search
noted-on Responder payload d next now later lines e f g h = search

module _ (laws : LawsBelow) (w : KeyMaterial) where
  -- the messages and the state from a party's on
  abbrev from : Party → List (List ℕ) → List HandshakeMessage
  from v ps = conversation w v.pattern v.passed v.psks v.state ps

  abbrev beyond : Party → List (List ℕ) → SymmetricState
  beyond v ps = after_conversation w v.pattern v.passed v.psks v.state ps

  abbrev left : Party → ℕ
  left v = length v.pattern.messages - v.passed

  -- with the transport messages after them
  abbrev coming : Plan → ℕ → List (List ℕ) → SymmetricState → ℕ → ℕ → ℕ → List (List ℕ) → List (Role × List ℕ) → List (Role × List ℕ)
  coming p n psks r interval i j ps lines =
      in_turn n (messages_of (conversation w p n psks r ps)) ++ transport_messages_of (after_conversation w p n psks r ps) interval i j lines

  abbrev to_come : Sides → List (Role × List ℕ) → List (Role × List ℕ)
  to_come d lines =
      coming d.initiator.state.party.pattern d.initiator.state.party.passed d.initiator.state.party.psks d.initiator.state.party.state
      d.initiator.state.interval d.initiator.state.sent d.responder.state.sent
      (payloads_in (left d.initiator.state.party) lines) (drop (left d.initiator.state.party) lines)

  coming-same : (p q : Plan) (n m : ℕ) (s t : List (List ℕ)) (r u : SymmetricState) (k l i j x y : ℕ) (xs ys : List (List ℕ)) (vs ws : List (Role × List ℕ))
      → p ≡ q → n ≡ m → s ≡ t → r ≡ u → k ≡ l → i ≡ j → x ≡ y → xs ≡ ys → vs ≡ ws → coming p n s r k i x xs vs ≡ coming q m t u l j y ys ws
  coming-same p q n m s t r u k l i j x y xs ys vs ws a b c d e f g h o = cc

  record AfterAllSaid (n : ℕ) (lines : List (Role × List ℕ)) (d e : Sides) (notes : List (Role × Note)) : Type 0 where
    noted : notes ≡ notes_of_messages (length d.initiator.frames) (length d.responder.frames) lines
    passed : e.initiator.passed ≡ d.initiator.passed ++ from d.initiator.state.party (payloads_in (left d.initiator.state.party) lines)
    state : e.initiator.state.party.state ≡ beyond d.initiator.state.party (payloads_in (left d.initiator.state.party) lines)
    frames : (r : Role) → (side e r).frames ≡ (side d r).frames ++ frames_by r (to_come d lines)
    count : e.initiator.state.party.passed ≡ d.initiator.state.party.passed + length (payloads_in (left d.initiator.state.party) lines)
    last : ℕ
    equally_far : EquallyFar w last e

  from-same : (p q : Plan) (n m : ℕ) (s t : List (List ℕ)) (r u : SymmetricState) (xs ys : List (List ℕ)) → p ≡ q → n ≡ m → s ≡ t → r ≡ u → xs ≡ ys
      → conversation w p n s r xs ≡ conversation w q m t u ys
  from-same p q n m s t r u xs ys e f g h i = cc

  after-same : (p q : Plan) (n m : ℕ) (s t : List (List ℕ)) (r u : SymmetricState) (xs ys : List (List ℕ)) → p ≡ q → n ≡ m → s ≡ t → r ≡ u → xs ≡ ys
      → after_conversation w p n s r xs ≡ after_conversation w q m t u ys
  after-same p q n m s t r u xs ys e f g h i = cc

  module _ (long : (role : Role) (k : Own) → length (w.public role k) ≡ 32) where
    come : (lines : List (Role × List ℕ)) (n : ℕ) (d e : Sides) (notes : List (Role × Note)) → EquallyFar w n d
        → InTurn d.initiator.state.party.pattern n lines → Run d (say_events lines) notes e → AfterAllSaid n lines d e notes
    come [] n d e notes a h (ends _) =
        let v : Party = d.initiator.state.party in
        let none : payloads_in (left v) [] ≡ [] = ap (λ (ls : List (Role × List ℕ)). map (λ l. l.1) ls) (take-none (left v)) in
        record {
          noted = refl;
          passed = sym (ap (λ (ps : List (List ℕ)). d.initiator.passed ++ from v ps) none ∙ append-nil d.initiator.passed);
          state = sym (ap (beyond v) none);
          frames = λ r. sym (ap (λ (ms : List (Role × List ℕ)). (side d r).frames ++ frames_by r ms)
              (ap (λ (ls : List (Role × List ℕ)). coming v.pattern v.passed v.psks v.state d.initiator.state.interval d.initiator.state.sent
              d.responder.state.sent (payloads_in (left v) []) ls) (drop-none (left v))
              ∙ ap (λ (ps : List (List ℕ)). coming v.pattern v.passed v.psks v.state d.initiator.state.interval d.initiator.state.sent
              d.responder.state.sent ps []) none)
              ∙ append-nil (side d r).frames);
          count = omega (arith, ap length none);
          last = n;
          equally_far = a;
        }
    come (l ∷ lines) n d e notes a h (begins _ next _ _ _ now later does run) =
        go (nat_lt n (length d.initiator.state.party.pattern.messages)) refl h.0 (come lines (n + 1) next e later) run does
      where
        hand : n < length d.initiator.state.party.pattern.messages → SaidInHandshake laws w long n l.0 l.1 d next now → AfterAllSaid (n + 1) lines next e later
            → AfterAllSaid n (l ∷ lines) d e (now ++ later)
        hand more step ih =
            let u : Party = next.initiator.state.party in
            let o : Party = d.initiator.state.party in
            let hs = step.handshake in
            let at : o.passed ≡ n = a.before more in
            let rest : left u ≡ length o.pattern.messages - (o.passed + 1) =
            ap (λ (q : Plan). length q.messages - u.passed) hs.pattern ∙ ap (λ (k : ℕ). length o.pattern.messages - k) hs.count in
            let one : left o ≡ suc (length o.pattern.messages - (o.passed + 1)) = omega (arith, at, more) in
            let ps : List (List ℕ) = payloads_in (length o.pattern.messages - (o.passed + 1)) lines in
            let all : payloads_in (left o) (l ∷ lines) ≡ l.1 ∷ ps = ap (λ (k : ℕ). payloads_in k (l ∷ lines)) one in
            let same : payloads_in (left u) lines ≡ ps = ap (λ (k : ℕ). payloads_in k lines) rest in
            record {
              noted = noted-on l.0 l.1 d next now later lines step.noted step.past_message.frames step.past_message.others ih.noted;
              passed =
                  ih.passed
                  ∙ ap (λ (ms : List HandshakeMessage). ms ++ from u (payloads_in (left u) lines)) hs.passed
                  ∙ append_assoc d.initiator.passed (due_of w o l.1 ∷ []) (from u (payloads_in (left u) lines))
                  ∙ ap (λ (ms : List HandshakeMessage). d.initiator.passed ++ due_of w o l.1 ∷ ms)
                  (from-same u.pattern o.pattern u.passed (o.passed + 1) u.psks (drop (count_by is_psk (tokens_now o)) o.psks) u.state
                  (after_due w o l.1) (payloads_in (left u) lines) ps hs.pattern hs.count hs.psks hs.state same)
                  ∙ ap (λ (qs : List (List ℕ)). d.initiator.passed ++ from o qs) (sym all);
              state =
                  ih.state
                  ∙ after-same u.pattern o.pattern u.passed (o.passed + 1) u.psks (drop (count_by is_psk (tokens_now o)) o.psks) u.state
                  (after_due w o l.1) (payloads_in (left u) lines) ps hs.pattern hs.count hs.psks hs.state same
                  ∙ ap (beyond o) (sym all);
              frames = λ r.
                  ih.frames r
                  ∙ ap (λ (ms : List (Role × List ℕ)). (side next r).frames ++ frames_by r ms)
                  (coming-same u.pattern o.pattern u.passed (o.passed + 1) u.psks (drop (count_by is_psk (tokens_now o)) o.psks) u.state
                  (after_due w o l.1) next.initiator.state.interval d.initiator.state.interval
                  next.initiator.state.sent d.initiator.state.sent next.responder.state.sent d.responder.state.sent (payloads_in (left u) lines) ps
                  (drop (left u) lines) (drop (length o.pattern.messages - (o.passed + 1)) lines)
                  hs.pattern hs.count hs.psks hs.state step.past_message.interval hs.sent hs.sent_there same (ap (λ (k : ℕ). drop k lines) rest))
                  ∙ sym (hs.frames r (coming o.pattern (o.passed + 1) (drop (count_by is_psk (tokens_now o)) o.psks) (after_due w o l.1)
                  d.initiator.state.interval d.initiator.state.sent d.responder.state.sent ps (drop (length o.pattern.messages - (o.passed + 1)) lines)))
                  ∙ sym (ap (λ (k : ℕ). (side d r).frames ++ frames_by r
                  (coming o.pattern o.passed o.psks o.state d.initiator.state.interval d.initiator.state.sent d.responder.state.sent
                  (payloads_in k (l ∷ lines)) (drop k (l ∷ lines)))) one);
              count = omega (arith, ih.count, hs.count, ap length same, ap length all);
              last = ih.last;
              equally_far = ih.equally_far;
            }

        open-on : length d.initiator.state.party.pattern.messages ≤ n → SaidInTransport w n l.0 l.1 d next now → AfterAllSaid (n + 1) lines next e later
            → AfterAllSaid n (l ∷ lines) d e (now ++ later)
        open-on ended_party step ih =
            let o : Party = d.initiator.state.party in
            let u : Party = next.initiator.state.party in
            let tr = step.transport in
            let zero_left : left o ≡ 0 = omega (arith, a.beyond ended_party) in
            let none : payloads_in (left o) lines ≡ payloads_in (left o) (l ∷ lines) =
            ap (λ (k : ℕ). payloads_in k lines) zero_left ∙ sym (ap (λ (k : ℕ). payloads_in k (l ∷ lines)) zero_left) in
            record {
              noted = noted-on l.0 l.1 d next now later lines step.noted step.past_message.frames step.past_message.others ih.noted;
              passed =
                  ih.passed ∙ ap (λ (ms : List HandshakeMessage). ms ++ from next.initiator.state.party (payloads_in (left next.initiator.state.party) lines))
                  tr.passed
                  ∙ ap (λ (z : Party). d.initiator.passed ++ from z (payloads_in (left z) lines)) tr.party
                  ∙ ap (λ (qs : List (List ℕ)). d.initiator.passed ++ from o qs) none;
              state = ih.state ∙ ap (λ (z : Party). beyond z (payloads_in (left z) lines)) tr.party ∙ ap (beyond o) none;
              frames = λ r.
                  ih.frames r
                  ∙ ap (λ (k : ℕ). (side next r).frames ++ frames_by r
                  (coming u.pattern u.passed u.psks u.state next.initiator.state.interval next.initiator.state.sent next.responder.state.sent
                  (payloads_in k lines) (drop k lines)))
                  (ap left tr.party ∙ zero_left)
                  ∙ sym (tr.frames r lines)
                  ∙ sym (ap (λ (k : ℕ). (side d r).frames ++ frames_by r
                  (coming o.pattern o.passed o.psks o.state d.initiator.state.interval d.initiator.state.sent d.responder.state.sent
                  (payloads_in k (l ∷ lines)) (drop k (l ∷ lines)))) zero_left);
              count = ih.count ∙ ap (λ (z : Party). z.passed + length (payloads_in (left z) lines)) tr.party
                  ∙ ap (λ (qs : List (List ℕ)). o.passed + length qs) none;
              last = ih.last;
              equally_far = ih.equally_far;
            }

        go : (b : Bool) → nat_lt n (length d.initiator.state.party.pattern.messages) ≡ b
            → MatchBool b ((l.0 ≡ turn_from Initiator n) × (overhead_of d.initiator.state.party.pattern (n + 1) + length l.1 ≤ 65535))
            ((IsTrue (is_one_way d.initiator.state.party.pattern) → l.0 ≡ Initiator) × (length l.1 ≤ 65519) × (n < last_nonce))
            → (EquallyFar w (n + 1) next → InTurn next.initiator.state.party.pattern (n + 1) lines → Run next (say_events lines) later e
            → AfterAllSaid (n + 1) lines next e later) → Run next (say_events lines) later e → Happens d (Say l.0 l.1) now next
            → AfterAllSaid n (l ∷ lines) d e (now ++ later)
        go true is m rest run does =
            let more : n < length d.initiator.state.party.pattern.messages = ltb-true n (length d.initiator.state.party.pattern.messages) is in
            let step = handshake-said laws w long n l.0 l.1 d next now a more m.0 m.1 does in
            hand more step (rest step.past_message.equally_far (subst (λ (q : Plan). InTurn q (n + 1) lines) (sym step.handshake.pattern) h.1) run)
        go false is m rest run does =
            let ended_party : length d.initiator.state.party.pattern.messages ≤ n = ltb-false n (length d.initiator.state.party.pattern.messages) is in
            let step = transport-said w n l.0 l.1 d next now a ended_party m.0 m.1 m.2 does in
            open-on ended_party step (rest step.past_message.equally_far
            (subst (λ (q : Plan). InTurn q (n + 1) lines) (sym (ap (λ (z : Party). z.pattern) step.transport.party)) h.1) run)

-- ---- there is a run of them

module _ (laws : LawsBelow) (w : KeyMaterial) (long : (role : Role) (k : Own) → length (w.public role k) ≡ 32) where
  abbrev HasRun : List (Role × List ℕ) → Sides → Type 0
  HasRun lines d = (notes : List (Role × Note)) × (e : Sides) × Run d (say_events lines) notes e

  can : (lines : List (Role × List ℕ)) (n : ℕ) (d : Sides) → EquallyFar w n d → InTurn d.initiator.state.party.pattern n lines → HasRun lines d
  can [] n d a h = ([], d, ends d)
  can (l ∷ lines) n d a h = go (nat_lt n (length d.initiator.state.party.pattern.messages)) refl h.0 (λ next. can lines (n + 1) next)
    where
      first : (next : Sides) (now : List (Role × Note)) → Happens d (Say l.0 l.1) now next → HasRun lines next → HasRun (l ∷ lines) d
      first next now does more = (now ++ more.0, more.1, begins d next more.1 (Say l.0 l.1) (say_events lines) now more.0 does more.2)

      go : (b : Bool) → nat_lt n (length d.initiator.state.party.pattern.messages) ≡ b
          → MatchBool b ((l.0 ≡ turn_from Initiator n) × (overhead_of d.initiator.state.party.pattern (n + 1) + length l.1 ≤ 65535))
          ((IsTrue (is_one_way d.initiator.state.party.pattern) → l.0 ≡ Initiator) × (length l.1 ≤ 65519) × (n < last_nonce))
          → ((next : Sides) → EquallyFar w (n + 1) next → InTurn next.initiator.state.party.pattern (n + 1) lines → HasRun lines next) → HasRun (l ∷ lines) d
      go true is m rest =
          let more : n < length d.initiator.state.party.pattern.messages = ltb-true n (length d.initiator.state.party.pattern.messages) is in
          let sp = handshake-at laws w long n l.0 l.1 d a more m.0 m.1 in
          let passed : HandshakeMessage = handshake_message l.1 sp.message sp.carried in
          let after : Side = wrote_handshake (side d l.0) passed in
          let heard : Side = accepted_handshake (side d (other l.0)) passed in
          let next : Sides = with_side (with_side d l.0 after) (other l.0) heard in
          let does = say-can d l.0 l.1 sp.message after heard sp.can_write refl sp.can_receive in
          let step = handshake-said laws w long n l.0 l.1 d next _ a more m.0 m.1 does in
          first next _ does (rest next step.past_message.equally_far (subst (λ (q : Plan). InTurn q (n + 1) lines) (sym step.handshake.pattern) h.1))
      go false is m rest =
          let ended_party : length d.initiator.state.party.pattern.messages ≤ n = ltb-false n (length d.initiator.state.party.pattern.messages) is in
          let sp = transport-at w n l.0 l.1 d a ended_party m.0 m.1 m.2 in
          let sent : TransportMessage = with_payload sp.message l.1 in
          let after : Side = wrote_transport (side d l.0) sent in
          let heard : Side = accepted_transport (side d (other l.0)) sent in
          let next : Sides = with_side (with_side d l.0 after) (other l.0) heard in
          let does = say-can d l.0 l.1 sp.message after heard sp.can_write refl sp.can_receive in
          let step = transport-said w n l.0 l.1 d next _ a ended_party m.0 m.1 m.2 does in
          first next _ does (rest next step.past_message.equally_far
          (subst (λ (q : Plan). InTurn q (n + 1) lines) (sym (ap (λ (z : Party). z.pattern) step.transport.party)) h.1))

-- ---- the start

none-left : (n : ℕ) → n ≤ 0 → 0 ≡ n
none-left n h = omega (arith, h)

pre-agree : (has_psks : Bool) (x y : Remote) (ts : List Token) (r : SymmetricState) → (has_token E ts ≡ true → x.e ≡ y.e) → (has_token S ts ≡ true → x.s ≡ y.s)
    → with_premessage has_psks x ts r ≡ with_premessage has_psks y ts r
pre-agree has_psks x y [] r f g = refl
pre-agree has_psks x y (E ∷ ts) r f g =
    ap (λ (o : Option (List ℕ)). with_premessage has_psks x ts (with_ephemeral has_psks r (unwrap_or o []))) (f refl)
    ∙ pre-agree has_psks x y ts (with_ephemeral has_psks r (unwrap_or y.e [])) (λ h. f refl) g
pre-agree has_psks x y (S ∷ ts) r f g =
    ap (λ (o : Option (List ℕ)). with_premessage has_psks x ts (mix_hash r (unwrap_or o []))) (g refl)
    ∙ pre-agree has_psks x y ts (mix_hash r (unwrap_or y.s [])) f (λ h. g refl)
pre-agree has_psks x y (Ee ∷ ts) r f g = pre-agree has_psks x y ts r f g
pre-agree has_psks x y (Es ∷ ts) r f g = pre-agree has_psks x y ts r f g
pre-agree has_psks x y (Se ∷ ts) r f g = pre-agree has_psks x y ts r f g
pre-agree has_psks x y (Ss ∷ ts) r f g = pre-agree has_psks x y ts r f g
pre-agree has_psks x y (Psk ∷ ts) r f g = pre-agree has_psks x y ts r f g

if-true : (b : Bool) (o : Option (List ℕ)) → b ≡ true → (if b then o else None) ≡ o
if-true true o h = refl
if-true false o h = cc

module _ (laws : LawsBelow) (w : KeyMaterial) (p : Plan) (prologue : List ℕ) (a b : Start) (i : IsPart w p Initiator prologue a)
    (j : IsPart w p Responder prologue b) where
  -- a key of a pre-message is the party's own
  before-own : (party : Role) (x : Own) → has_before p party (token_of x) ≡ true → is_among party (token_of x) (places_of p) ≡ true
  before-own party x h = laws.before_is_among p party (token_of x) h

  remote_a : a.remote ≡ shown_before p Responder b.own
  remote_a = search rules

  remote_b : b.remote ≡ shown_before p Initiator a.own
  remote_b = search rules

  mine_in : HasMaterial w p Initiator a.own a.agree
  mine_in = record { keys = i.own; dh_results = i.dh_results }

  theirs_in : HasMaterial w p Responder b.own b.agree
  theirs_in = record { keys = j.own; dh_results = j.dh_results }

  starts : IsValid p → Counterparts (begun_as p Initiator a) (begun_as p Responder b)
  starts valid =
      let first : Counterparts (begun_as p Initiator a) (party_at_start p Responder a.prologue b.own b.agree b.remote a.psks) =
      laws.starts p a.prologue a.psks a.own b.own a.agree b.agree a.remote b.remote remote_a remote_b
      (dh-results-agree laws w p valid a.own b.own a.agree b.agree mine_in theirs_in) in
      subst (λ (z : List (List ℕ)). Counterparts (begun_as p Initiator a) (party_at_start p Responder b.prologue b.own b.agree b.remote z)) (i.psks ∙ sym j.psks)
      (subst (λ (z : List ℕ). Counterparts (begun_as p Initiator a) (party_at_start p Responder z b.own b.agree b.remote a.psks))
      (i.prologue_is ∙ sym j.prologue_is) first)

  -- the state at the start is that of the key material
  start-is : (begun_as p Initiator a).state ≡ start_in w p prologue
  start-is =
      let first : List ℕ → SymmetricState = λ z. mix_hash (initialize (name_bytes (record { base = p.base; places = p.places }))) z in
      ap (λ (z : List ℕ). with_premessage (has_psk p) a.remote p.responder (with_premessage (has_psk p) (public_keys a.own) p.initiator (first z)))
      i.prologue_is
      ∙ ap (λ (r : SymmetricState). with_premessage (has_psk p) a.remote p.responder r)
      (pre-agree (has_psk p) (public_keys a.own) (public_keys_in w Initiator) p.initiator (first prologue)
      (λ h. i.own Ephemeral (before-own Initiator Ephemeral h)) (λ h. i.own Static (before-own Initiator Static h)))
      ∙ pre-agree (has_psk p) a.remote (public_keys_in w Responder) p.responder
      (with_premessage (has_psk p) (public_keys_in w Initiator) p.initiator (first prologue))
      (λ h. i.remote_e ∙ if-true (has_before p Responder E) (Some (w.public Responder Ephemeral)) h)
      (λ h. i.remote_s ∙ if-true (has_before p Responder S) (Some (w.public Responder Static)) h)

  equally-far-first : (interval : ℕ) → IsPattern p → IsValid p → EquallyFar w 0 (sides_at_start p a b interval interval)
  equally-far-first interval pattern valid = record {
    valid = valid;
    role = refl;
    counterparts = starts valid;
    mine = mine_in;
    theirs = theirs_in;
    keyed = laws.keyed_first (name_bytes (record { base = p.base; places = p.places })) a.prologue p (public_keys a.own) a.remote pattern;
    before = λ h. refl;
    beyond = λ h. none-left (length p.messages) h;
    partial = refl;
    partial_there = refl;
    interval = refl;
    came_there = refl;
    came_back = refl;
    few = omega arith;
    few_there = omega arith;
    passed = refl;
    there = refl;
    back = refl;
  }

pub messages-come-through : LawsBelow → MessagesComeThrough
messages-come-through laws w p prologue a b interval lines notes d parts turns run =
    let i : IsPart w p Initiator prologue a = parts.initiator in
    let j : IsPart w p Responder prologue b = parts.responder in
    let c = come laws w parts.long lines 0 (sides_at_start p a b interval interval) d notes
    (equally-far-first laws w p prologue a b i j interval parts.pattern parts.valid) turns run in
    let v : Party = begun_as p Initiator a in
    let all : payloads_in (length p.messages - 0) lines ≡ payloads_in (length p.messages) lines = ap (λ (k : ℕ). payloads_in k lines) (omega arith) in
    let whole : d.initiator.passed ≡ conversation w p 0 w.psks (start_in w p prologue) (payloads_in (length p.messages) lines) =
    c.passed ∙ from-same laws w p p 0 0 a.psks w.psks v.state (start_in w p prologue) (payloads_in (length p.messages - 0) lines)
    (payloads_in (length p.messages) lines) refl refl i.psks (start-is laws w p prologue a b i j) all in (
      c.noted,
      record {
        initiator = whole;
        responder = c.equally_far.passed;
        frames = λ role. c.frames role
            ∙ ap (λ (fs : List (List ℕ)). fs ++ frames_by role (to_come laws w (sides_at_start p a b interval interval) lines)) (none-yet role) ∙ ap (frames_by role)
            (coming-same laws w p p 0 0 a.psks w.psks v.state (start_in w p prologue) interval interval 0 0 0 0
            (payloads_in (length p.messages - 0) lines) (payloads_in (length p.messages) lines)
            (drop (length p.messages - 0) lines) (drop (length p.messages) lines) refl refl i.psks (start-is laws w p prologue a b i j) refl refl refl all
            (ap (λ (k : ℕ). drop k lines) (omega arith)));
        state = c.state ∙ after-same laws w p p 0 0 a.psks w.psks v.state (start_in w p prologue) (payloads_in (length p.messages - 0) lines)
            (payloads_in (length p.messages) lines) refl refl i.psks (start-is laws w p prologue a b i j) all;
        count = omega (arith, c.count, ap length all);
        ends = search;
        there = c.equally_far.there;
        back = c.equally_far.back;
      },
    )
  where
    none-yet : (role : Role) → (side (sides_at_start p a b interval interval) role).frames ≡ []
    none-yet Initiator = refl
    none-yet Responder = refl

pub messages-run : LawsBelow → MessagesRun
messages-run laws w p prologue a b interval lines parts turns =
    can laws w parts.long lines 0 (sides_at_start p a b interval interval)
    (equally-far-first laws w p prologue a b parts.initiator parts.responder interval parts.pattern parts.valid) turns
