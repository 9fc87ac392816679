-- The two ends after lines that come through.
use Rattle.std.proofs.Common.{rules, ◌≡◌, ◌∙◌, refl, ap, ap₂, sym, ℕ, zero, suc, ◌+◌, ◌<◌, min, List, ◌∷◌, ◌++◌, length, map, take, drop, arith, append_assoc, length-append, count_by, drop-drop, []}
use Rattle.std.specs.Prelude.{Bool, true, false, if◌then◌else◌}
use Rattle.std.proofs.lemmas.List.Sums.{sum_by-cons}
use Rattle.noise_duel.proofs.Common.{cond, length-map, length-take, Role, Initiator, Responder, Token, Plan, is_psk, other, SymmetricState, counterpart, shown_after, after_message, after_own, psks_of, Party, tokens_at, tokens_now, EndState, frame, ComeThrough, MessagesComeThrough, MessagesLeave, conversation, end_after, frames_by, state_after_lines, in_turn, messages_by, transport_messages_of, payloads_in, start_in, ComesOfMessages, EndsComeOfMessages, Exchanged, HandshakeMessage, Start, begun_as, messages_of, none, wrote, took, EndsFrame, FramesAreOwn, own_messages, Side, TransportMessage}

-- ---- how many transport messages a role has sent

frames-append : (role : Role) (ms ns : List (Role × List ℕ)) → frames_by role (ms ++ ns) ≡ frames_by role ms ++ frames_by role ns
frames-append role [] ns = refl
frames-append role (m ∷ ms) ns = search (append_assoc, (frames-append role ms ns))

if-framed : (b : Bool) (m : List ℕ) (xs ys : List (List ℕ)) → ys ≡ map frame xs
    → (if b then frame m ∷ [] else []) ++ ys ≡ map frame ((if b then m ∷ [] else []) ++ xs)
if-framed true m xs ys e = ap (λ (t : List (List ℕ)). frame m ∷ t) e
if-framed false m xs ys e = e

own-frames : (role : Role) (n : ℕ) (ms : List HandshakeMessage) → frames_by role (in_turn n (messages_of ms)) ≡ map frame (own_messages role n ms)
own-frames role n [] = refl
own-frames role n (m ∷ ms) = search (if-framed, (own-frames role (n + 1) ms))

one-or-none : (b : Bool) (f : List ℕ) (fs : List (List ℕ)) → length ((if b then f ∷ [] else []) ++ fs) ≡ cond b 1 0 + length fs
one-or-none true f fs = omega arith
one-or-none false f fs = omega arith

transport_messages-by : (role : Role) (r : SymmetricState) (interval i j : ℕ) (lines : List (Role × List ℕ))
    → length (frames_by role (transport_messages_of r interval i j lines)) ≡ messages_by role lines
transport_messages-by role r interval i j [] = refl
transport_messages-by role r interval i j ((Initiator, payload) ∷ lines) =
    search (one-or-none, sum_by-cons, (transport_messages-by role r interval (i + 1) j lines))
transport_messages-by role r interval i j ((Responder, payload) ∷ lines) =
    search (one-or-none, sum_by-cons, (transport_messages-by role r interval i (j + 1) lines))

sent-count : (s : Side) (role : Role) (ms : List HandshakeMessage) (transport_messages : List (Role × List ℕ)) → FramesAreOwn s → s.state.party.role ≡ role
    → s.passed ≡ ms → s.frames ≡ frames_by role (in_turn 0 (messages_of ms) ++ transport_messages) → length s.sent ≡ length (frames_by role transport_messages)
sent-count s role ms transport_messages own e f g =
    let mine : List (List ℕ) = own_messages role 0 ms in
    let sent : List (List ℕ) = map (λ (m : TransportMessage). m.message) s.sent in
    let left : s.frames ≡ map frame (mine ++ sent) =
    own ∙ ap₂ (λ (r : Role) (passed : List HandshakeMessage). map frame (own_messages r 0 passed ++ sent)) e f in
    let right : s.frames ≡ map frame mine ++ frames_by role transport_messages = search (rules, frames-append, own-frames) in
    let long : length s.frames ≡ length mine + length s.sent = search (rules, length-map, length-append) in
    let other : length s.frames ≡ length mine + length (frames_by role transport_messages) = search (rules, length-append, length-map) in
    omega (arith, long, other)

-- ---- what messages leave of a party as it was, and the psks to come

pub record Unchanged (v w : Party) (n : ℕ) : Type 0 where
  pub pattern : w.pattern ≡ v.pattern
  pub role : w.role ≡ v.role
  pub own : w.own ≡ v.own
  pub agree : w.agree ≡ v.agree
  pub passed : w.passed ≡ v.passed + n
  pub psks : w.psks ≡ drop (psks_of (take n (drop v.passed v.pattern.messages))) v.psks

first-of : (ms : List (List Token)) (n k : ℕ) → n < length ms
    → psks_of (take (suc k) (drop n ms)) ≡ count_by is_psk (tokens_at ms n) + psks_of (take k (drop (n + 1) ms))
first-of [] n k h = absurd (omega (arith, h))
first-of (t ∷ ms) zero k h = refl
first-of (t ∷ ms) (suc n) k h =
    let fewer : n < length ms = omega (arith, h) in
    let one : suc n + 1 ≡ suc (n + 1) = omega arith in
    first-of ms n k fewer
    ∙ ap (λ (i : ℕ). count_by is_psk (tokens_at ms n) + psks_of (take k (drop i (t ∷ ms)))) (sym one)

unchanged-more : (v m w : Party) (n : ℕ) → v.passed < length v.pattern.messages → m.pattern ≡ v.pattern → m.role ≡ v.role → m.own ≡ v.own → m.agree ≡ v.agree
    → m.passed ≡ v.passed + 1 → m.psks ≡ drop (count_by is_psk (tokens_now v)) v.psks → Unchanged m w n → Unchanged v w (suc n)
unchanged-more v m w n more p r o a c s k =
    let here : ℕ = count_by is_psk (tokens_now v) in
    let later : ℕ = psks_of (take n (drop (v.passed + 1) v.pattern.messages)) in
    let same : psks_of (take n (drop m.passed m.pattern.messages)) ≡ later = search in
    record {
      pattern = k.pattern ∙ p;
      role = k.role ∙ r;
      own = k.own ∙ o;
      agree = k.agree ∙ a;
      passed = omega (arith, k.passed, c);
      psks = search (rules, drop-drop, first-of);
    }

pub unchanged : (v w : Party) (ps : List HandshakeMessage) → Exchanged v ps w → Unchanged v w (length ps)
unchanged v w [] (none _) = record { pattern = refl; role = refl; own = refl; agree = refl; passed = omega arith; psks = refl }
unchanged v w (p ∷ ps) (wrote _ _ _ _ here more) = search (unchanged-more, (unchanged (after_own v p.carried p.payload) w ps more))
unchanged v w (p ∷ ps) (took _ _ _ _ here more) = search (unchanged-more, (unchanged (after_message v p.carried p.payload) w ps more))

-- ---- an end, by what its messages made of it and what it faces

same-end : (v w : EndState) → v.party.pattern ≡ w.party.pattern → v.party.role ≡ w.party.role → v.party.psks ≡ w.party.psks
    → v.party.own ≡ w.party.own → v.party.agree ≡ w.party.agree → v.party.remote ≡ w.party.remote → v.party.passed ≡ w.party.passed
    → v.party.state ≡ w.party.state → v.party.ended ≡ w.party.ended → v.interval ≡ w.interval → v.sent ≡ w.sent → v.received ≡ w.received
    → v.partial ≡ w.partial → v ≡ w
same-end v w a b c d e f g h i j k l m = search rules

module _ (p : Plan) (role : Role) (s theirs : Start) (interval : ℕ) (r : SymmetricState) (lines : List (Role × List ℕ)) where
  abbrev many : ℕ
  many = min (length p.messages) (length lines)

  end-is : (side : Side) (u : Party) → ComesOfMessages (begun_as p role s) interval side → side.state.party ≡ counterpart u side.state.party.own side.state.party.agree
      → u.pattern ≡ p → u.role ≡ other role → u.own ≡ theirs.own → u.passed ≡ many → u.state ≡ r
      → length side.sent ≡ messages_by role (drop (length p.messages) lines) → length side.received ≡ messages_by (other role) (drop (length p.messages) lines)
      → side.state.partial ≡ [] → side.state ≡ end_after p role s theirs interval r lines
  end-is side u made faces pattern turned own passed history sent received partial =
      let v : Party = side.state.party in
      let k = unchanged (begun_as p role s) made.last side.passed made.passes in
      let count : v.passed ≡ many = ap (λ (z : Party). z.passed) faces ∙ passed in
      let as-many : length side.passed ≡ many = omega (arith, count, ap (λ (z : Party). z.passed) made.party, k.passed) in
      same-end side.state (end_after p role s theirs interval r lines)
      (ap (λ (z : Party). z.pattern) made.party ∙ k.pattern)
      (ap (λ (z : Party). z.role) made.party ∙ k.role)
      (ap (λ (z : Party). z.psks) made.party ∙ k.psks ∙ ap (λ (i : ℕ). drop (psks_of (take i p.messages)) s.psks) as-many)
      (ap (λ (z : Party). z.own) made.party ∙ k.own)
      (ap (λ (z : Party). z.agree) made.party ∙ k.agree)
      (ap (λ (z : Party). z.remote) faces ∙ shown-same u pattern turned own passed)
      count
      (ap (λ (z : Party). z.state) faces ∙ history)
      (ap (λ (z : Party). z.ended) faces)
      made.interval_is
      (made.sending ∙ sent)
      (made.receiving ∙ received)
      partial
    where
      shown-same : (u : Party) → u.pattern ≡ p → u.role ≡ other role → u.own ≡ theirs.own → u.passed ≡ many
          → shown_after u.pattern u.role u.passed u.own ≡ shown_after p (other role) many theirs.own
      shown-same u a b c d = cc

-- ---- both

pub messages-leave : MessagesComeThrough → EndsComeOfMessages → EndsFrame → MessagesLeave
messages-leave come stand framed w p prologue a b interval lines notes d parts turns run =
    let it : ComeThrough w p prologue interval lines d = (come w p prologue a b interval lines notes d parts turns run).1 in
    let made = stand p a b interval interval _ notes d run in
    let own = framed p a b interval interval _ notes d run in
    let r : SymmetricState = state_after_lines w p prologue lines in
    let ms : List HandshakeMessage = conversation w p 0 w.psks (start_in w p prologue) (payloads_in (length p.messages) lines) in
    let rest : List (Role × List ℕ) = drop (length p.messages) lines in
    let transport_messages : List (Role × List ℕ) = transport_messages_of r interval 0 0 rest in
    let k = unchanged (begun_as p Initiator a) made.0.last d.initiator.passed made.0.passes in
    let l = unchanged (begun_as p Responder b) made.1.last d.responder.passed made.1.passes in
    let v : Party = d.initiator.state.party in
    let u : Party = d.responder.state.party in
    let role : v.role ≡ Initiator = ap (λ (z : Party). z.role) made.0.party ∙ k.role in
    let role-there : u.role ≡ Responder = ap (λ (z : Party). z.role) made.1.party ∙ l.role in
    let sent : length d.initiator.sent ≡ messages_by Initiator rest =
    sent-count d.initiator Initiator ms transport_messages own.0 role it.initiator (it.frames Initiator) ∙ transport_messages-by Initiator r interval 0 0 rest in
    let sent-there : length d.responder.sent ≡ messages_by Responder rest =
    sent-count d.responder Responder ms transport_messages own.1 role-there (it.responder ∙ it.initiator) (it.frames Responder)
    ∙ transport_messages-by Responder r interval 0 0 rest in
    let count : v.passed ≡ min (length p.messages) (length lines) = search (rules, length-map, length-take) in
    let there = it.ends.parties.there in (
      end-is p Initiator a b interval r lines d.initiator u made.0 it.ends.parties.back
          (ap (λ (z : Party). z.pattern) made.1.party ∙ l.pattern) role-there (ap (λ (z : Party). z.own) made.1.party ∙ l.own)
          (ap (λ (z : Party). z.passed) there ∙ count) (ap (λ (z : Party). z.state) there ∙ it.state)
          sent (ap (λ (ts : List TransportMessage). length ts) it.back ∙ sent-there) it.ends.partial,
      end-is p Responder b a interval r lines d.responder v made.1 there
          (ap (λ (z : Party). z.pattern) made.0.party ∙ k.pattern) role (ap (λ (z : Party). z.own) made.0.party ∙ k.own) count it.state
          sent-there (ap (λ (ts : List TransportMessage). length ts) it.there ∙ sent) it.ends.partial_there,
    )
