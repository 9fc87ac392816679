-- A frame that one of two ends writes is its payload at the other one.
use Rattle.std.proofs.Common.{rules, ◌≡◌, ◌≢◌, ℕ, ◌+◌, ◌≤◌, List, [], ◌++◌, length, None, Result, Ok, Err, refl, ap, sym, subst, ◌∙◌, arith}
use Rattle.std.proofs.lemmas.List.{append-nil}
use Rattle.std.specs.Prelude.{Bool, true, false, ◌&&◌, ◌==◌, nat_lt, IsTrue}
use Rattle.noise_session.proofs.Common.{nat_tests, Role, Initiator, Responder, other, same_role, nonce_of, Party, Accepts, Listens, after_own, after_message, SendFault, frame, transport_message, transport_key, last_nonce, Payload, is_open, idle_step, refusal, Open, EndState, progress_of, Sends, lacks_dh_result, sends_handshake, sends_transport, Takes, judges, accepted}
use Rattle.noise_names.specs.Plan.{Plan, is_one_way}
use Rattle.noise_names.specs.Validity.{IsValid}
use Rattle.noise_aead.specs.Sealed.{length-sealed}
use Rattle.noise_handshake.specs.Writing.{Writes}
use Rattle.noise_handshake.specs.Counterparts.{Counterparts}
use Rattle.noise_session.specs.Counterparts.{EndCounterparts}
use Rattle.noise_session.specs.Sending.Sends.{refuses}
use Rattle.noise_session.specs.Taking.Judges.{opened}
use Rattle.noise_session.proofs.Parties.{not-long, progress-open, open-passed}
use Rattle.noise_session.specs.declared.faults.SendFault.TheVariants as fault

-- ---- the other end listens

listens-now : (w : EndState) → Listens w.party → idle_step (progress_of w) ≡ None
listens-now w h = search rules

-- ---- what an open end isn't refused for

record IsDue (one_way : Bool) (role : Role) (sent n : ℕ) : Type 0 where
  pub heard : (one_way && same_role role Responder) ≡ false
  pub room : nat_lt 65535 (n + 16) ≡ false
  pub low : (sent == last_nonce) ≡ false

-- the writer of a one-way session is the initiator, and so its other end listens
pub heard-there : (one_way : Bool) (role : Role) → (one_way && same_role role Responder) ≡ false → (one_way && same_role (other role) Initiator) ≡ false
heard-there true Initiator e = refl
heard-there true Responder e = cc
heard-there false role e = refl

not-last : (n : ℕ) → (n == last_nonce) ≡ false → n ≢ last_nonce
not-last n h = λ same. grind (arith, nat_tests)

ok-same : (f g : List ℕ) → (r : Result (List ℕ) SendFault) → r ≡ Ok f → r ≡ Ok g → f ≡ g
ok-same f g r e h = cc

not-ok : (a : SendFault) (f : List ℕ) → Err a ≡ Ok f → ⊥
not-ok a f e = cc

-- ---- the law

abbrev pub IsReceived : EndState → EndState → List ℕ → List ℕ → Type 0
IsReceived x w payload f = (y : EndState) × Takes w f (length f) (Payload payload) y × EndCounterparts x y

module _ (accepts : (v w : Party) (payload message : List ℕ) (xs : List (List ℕ)) → IsValid v.pattern → Counterparts v w → Writes v payload xs message
    → Accepts w message xs payload)
    (next : (v w : Party) (payload message : List ℕ) (xs : List (List ℕ)) → IsValid v.pattern → Counterparts v w → Writes v payload xs message
    → Counterparts (after_own v xs payload) (after_message w xs payload)) where
  handshake-taken : (v w : EndState) (payload message : List ℕ) (xs : List (List ℕ)) → IsValid v.party.pattern → EndCounterparts v w
      → Writes v.party payload xs message → IsReceived (record v { party = after_own v.party xs payload }) w payload (frame message)
  handshake-taken v w payload message xs valid c writes =
      let a : Accepts w.party message xs payload = accepts v.party w.party payload message xs valid c.parties writes in
      let y : EndState = record w { party = after_message w.party xs payload; partial = [] } in
      let all : w.partial ++ frame message ≡ frame message ++ [] = ap (λ (h : List ℕ). h ++ frame message) c.partial_there ∙ sym (append-nil (frame message)) in (
        y,
        judges w y (frame message) message [] (length (frame message)) (Payload payload) (listens-now w a.listens) all a.fits (omega arith)
            (accepted w message payload xs a),
        record {
          parties = next v.party w.party payload message xs valid c.parties writes;
          interval = c.interval;
          there = c.there;
          back = c.back;
          partial = c.partial;
          partial_there = refl;
        },
      )

  transport-taken : (v w : EndState) (payload : List ℕ) → EndCounterparts v w → refusal (progress_of v) (length payload) ≡ None
      → IsTrue (is_open (progress_of v))
      → IsReceived (record v { sent = v.sent + 1 }) w payload (frame (transport_message v.party.state v.party.role v.interval v.sent payload))
  transport-taken v w payload c due opens =
      let p : Plan = v.party.pattern in
      let there : w.party.pattern ≡ p = ap (λ (z : Party). z.pattern) c.parties.there in
      let passed : w.party.passed ≡ v.party.passed = ap (λ (z : Party). z.passed) c.parties.there in
      let role : w.party.role ≡ other v.party.role = ap (λ (z : Party). z.role) c.parties.there in
      let mine : v.party.role ≡ other w.party.role = ap (λ (z : Party). z.role) c.parties.back in
      let history : w.party.state ≡ v.party.state = ap (λ (z : Party). z.state) c.parties.there in
      let going : v.party.ended ≡ false = ap (λ (z : Party). z.ended) c.parties.back in
      let going_there : w.party.ended ≡ false = ap (λ (z : Party). z.ended) c.parties.there in
      let all : v.party.passed ≡ length p.messages = open-passed v opens in
      let all_there : w.party.passed ≡ length w.party.pattern.messages = passed ∙ all ∙ ap (λ (q : Plan). length q.messages) (sym there) in
      let is : IsDue (is_one_way p) v.party.role v.sent (length payload) = search rules in
      let m : List ℕ = transport_message v.party.state v.party.role v.interval v.sent payload in
      let size : length m ≡ length payload + 16 =
      length-sealed (transport_key v.party.state v.party.role v.interval v.sent) (nonce_of v.sent) [] payload in
      let short : length payload + 16 ≤ 65535 = not-long (length payload + 16) is.room in
      let q : progress_of w ≡ Open w.party.role (is_one_way w.party.pattern) w.sent w.received = progress-open w going_there all_there in
      let silent : (is_one_way w.party.pattern && same_role w.party.role Initiator) ≡ false = search rules in
      let idle : idle_step (progress_of w) ≡ None = ap idle_step q ∙ rw silent refl in
      let low : w.received ≢ last_nonce = subst (λ (k : ℕ). k ≢ last_nonce) (sym c.there) (not-last v.sent is.low) in
      let same : m ≡ transport_message w.party.state (other w.party.role) w.interval w.received payload = search in
      let y : EndState = record w { received = w.received + 1; partial = [] } in
      let whole : w.partial ++ frame m ≡ frame m ++ [] = ap (λ (h : List ℕ). h ++ frame m) c.partial_there ∙ sym (append-nil (frame m)) in (
        y,
        judges w y (frame m) m [] (length (frame m)) (Payload payload) idle whole (omega (arith, size, short)) (omega arith)
            (opened w m payload (ap is_open q) low same),
        record {
          parties = c.parties;
          interval = c.interval;
          there = ap (λ (k : ℕ). k + 1) c.there;
          back = c.back;
          partial = c.partial;
          partial_there = refl;
        },
      )

  sent-taken : (v w : EndState) (payload f : List ℕ) (x : EndState) (r : Result (List ℕ) SendFault) → r ≡ Ok f → IsValid v.party.pattern → EndCounterparts v w
      → Sends v payload r x → IsReceived x w payload f
  sent-taken v w payload f x r e valid c (refuses _ _ why _) = absurd (not-ok why f e)
  sent-taken v w payload f x r e valid c (lacks_dh_result _ _ token _ _) = absurd (not-ok (fault.Agreement token) f e)
  sent-taken v w payload f x r e valid c (sends_handshake _ _ message xs due writes) =
      subst (IsReceived (record v { party = after_own v.party xs payload }) w payload) (ok-same (frame message) f (Ok (frame message)) refl e)
      (handshake-taken v w payload message xs valid c writes)
  sent-taken v w payload f x r e valid c (sends_transport _ _ due opens) = search (rules, transport-taken)

  pub written-received : (v w x : EndState) (payload f : List ℕ) → IsValid v.party.pattern → EndCounterparts v w → Sends v payload (Ok f) x → IsReceived x w payload f
  written-received v w x payload f valid c sends = sent-taken v w payload f x (Ok f) refl valid c sends
