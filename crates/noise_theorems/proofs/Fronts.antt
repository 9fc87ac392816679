-- What a report reports of payloads and keys, from what agreement says of the run.
use Rattle.std.proofs.Common.{rules, ◌≡◌, ℕ, ◌+◌, List, ◌∷◌, ◌++◌, length, map, take, drop, refl, ap, sym, subst, ◌∙◌, arith, inl, inr, append_assoc, length-append, Option, Some, None, []}
use Rattle.std.proofs.Math.Seq.{take-append-add}
use Rattle.std.specs.Prelude.{suc, slice_get, option_map}
use Rattle.noise_theorems.proofs.Common.{length-map, slice_get-map, Bool, true, false, if◌then◌else◌, ◌==◌, Role, Initiator, Responder, other, same_role, turn_from, Plan, SymmetricState, EndState, PhaseMatches, session_hash, ForgedMessage, PrefixOrForgedMessage, contents, in_stream, HandshakeMessage, HaveOneHistory, PayloadsAgree, PayloadsCome, PsksMakeOne, Note, Side, TransportMessage, own_payloads, reported_to, written_by, eqb-true}
use Rattle.noise_session.specs.declared.phase.Phase.{Phase}
use Rattle.noise_session.specs.Frames.{frame}
use Rattle.noise_session.specs.Transport.{transport_message, transport_key}
use Rattle.noise_duel.specs.Invariant.{EndsComeOfMessages}
use Rattle.noise_duel.specs.OwnFrames.{EndsFrame, own_messages}
use Rattle.noise_duel.specs.Reports.{receive_key_in, send_key_in}
use Rattle.noise_theorems.specs.Entries.{turns_of, ForgedFrame, PrefixOrForgedFrame, EntriesAgree, EntriesCome, KeysMeet, KeysCome}
use Rattle.noise_theorems.proofs.Payloads.{Unchanged, ends-unchanged, payloads-are-reported}
use Rattle.noise_theorems.proofs.Places.{placed}
use Rattle.noise_session.specs.declared.phase.Phase.TheVariants as phase
use Rattle.noise_keys.specs.Keys.{KeyPairs}

-- ---- lists

get-after : {X : Type 0} (xs ys : List X) (n : ℕ) → slice_get (xs ++ ys) (length xs + n) ≡ slice_get ys n
get-after [] ys n = ap (slice_get ys) (omega arith)
get-after (x ∷ xs) ys n = search (rules, (get-after xs ys n))

take-after : (xs ys zs : List (List ℕ)) (n : ℕ) → take n ys ≡ take n zs → take (length xs + n) (xs ++ ys) ≡ take (length xs + n) (xs ++ zs)
take-after xs ys zs n e = take-append-add xs ys n ∙ ap (λ (z : List (List ℕ)). xs ++ z) e ∙ sym (take-append-add xs zs n)

-- ---- how many messages of the handshake are a role's own

own-as-many : (role : Role) (n : ℕ) (ps : List HandshakeMessage) → length (own_messages role n ps) ≡ length (own_payloads role n ps)
own-as-many role n [] = refl
own-as-many role n (p ∷ ps) =
    by (same_role (turn_from Initiator n) role) (own-as-many role (n + 1) ps)
  where
    by : (b : Bool) → length (own_messages role (n + 1) ps) ≡ length (own_payloads role (n + 1) ps)
        → length ((if b then p.message ∷ [] else []) ++ own_messages role (n + 1) ps)
        ≡ length ((if b then p.payload ∷ [] else []) ++ own_payloads role (n + 1) ps)
    by true e = omega (arith, e)
    by false e = e

-- those from message n on, and those before it
turns-own : (role : Role) (n : ℕ) (ps : List HandshakeMessage) → turns_of role n + length (own_payloads role n ps) ≡ turns_of role (n + length ps)
turns-own role n [] = search rules
turns-own role n (p ∷ ps) =
    let one : n + 1 ≡ suc n = omega arith in
    let same : (n + 1) + length ps ≡ n + length (p ∷ ps) = omega arith in
    let step : turns_of role (n + 1) ≡ turns_of role n + (if same_role (turn_from Initiator n) role then 1 else 0) = ap (turns_of role) one in
    let later = turns-own role (n + 1) ps in
    by (same_role (turn_from Initiator n) role) step later ∙ ap (turns_of role) same
  where
    by : (b : Bool) → turns_of role (n + 1) ≡ turns_of role n + (if b then 1 else 0)
        → turns_of role (n + 1) + length (own_payloads role (n + 1) ps) ≡ turns_of role (n + 1 + length ps)
        → turns_of role n + length ((if b then p.payload ∷ [] else []) ++ own_payloads role (n + 1) ps) ≡ turns_of role (n + 1 + length ps)
    by true e f = omega (arith, e, f)
    by false e f = omega (arith, e, f)

own-count : (role : Role) (ps : List HandshakeMessage) (n : ℕ) → length ps ≡ n → turns_of role n ≡ length (own_payloads role 0 ps)
own-count role ps n e = search (rules, turns-own)

-- ---- what was reported of what was written

frame-is : (m n : List ℕ) → frame m ≡ frame n → m ≡ n
frame-is m n e = ap (drop 2) e

-- the writer's frames, at a number after those of the handshake
frame-after : (mine : List (List ℕ)) (sent : List TransportMessage) (frames : List (List ℕ)) (h n : ℕ) (bytes : List ℕ)
    → frames ≡ map frame (mine ++ map (λ (m : TransportMessage). m.message) sent) → h ≡ length mine
    → slice_get frames (h + n) ≡ Some (frame bytes) → (m : TransportMessage) × (slice_get sent n ≡ Some m) × (m.message ≡ bytes)
frame-after mine sent frames h n bytes e same is =
    let messages : List (List ℕ) = map (λ (m : TransportMessage). m.message) sent in
    let there : slice_get frames (h + n) ≡ option_map frame (option_map (λ (m : TransportMessage). m.message) (slice_get sent n)) =
    search (rules, slice_get-map, get-after) in
    by (slice_get sent n) refl (sym there ∙ is)
  where
    by : (o : Option TransportMessage) → slice_get sent n ≡ o
        → option_map frame (option_map (λ (m : TransportMessage). m.message) o) ≡ Some (frame bytes)
        → (m : TransportMessage) × (slice_get sent n ≡ Some m) × (m.message ≡ bytes)
    by None f g = absurd (cc)
    by (Some m) f g = let same : frame m.message ≡ frame bytes = cc in (m, f, frame-is m.message bytes same)

abbrev with_message : List ℕ → List ℕ → TransportMessage
with_message message payload = record { message = message; payload = payload }

module _ (r : SymmetricState) (writer : Role) (interval opening : ℕ) (frames mine own written : List (List ℕ)) (notes : List (Role × Note))
    (sent received : List TransportMessage) where
  front-or-forged : frames ≡ map frame (mine ++ map (λ (m : TransportMessage). m.message) sent) → opening ≡ length mine → opening ≡ length own
      → written ≡ own ++ contents sent → reported_to (other writer) notes ≡ own ++ contents received → PrefixOrForgedMessage r writer interval sent received
      → PrefixOrForgedFrame r writer interval opening frames received written notes
  front-or-forged f m o w t agree = elim agree [
    | inl front ↦ inl (
      front.0,
      w ∙ ap (λ (z : List (List ℕ)). own ++ z) front.1 ∙ sym (append_assoc own (contents received) front.0)
          ∙ ap (λ (z : List (List ℕ)). z ++ front.0) (sym t),
    )
    | inr forged ↦ inr (forged.0 + opening, before forged.0 forged.1, at forged.0 forged.2)
  ]
    where
      before : (n : ℕ) → take n (contents received) ≡ take n (contents sent) → take (n + opening) (reported_to (other writer) notes) ≡ take (n + opening) written
      before n e =
          let same : n + opening ≡ length own + n = omega (arith, o) in
          ap (λ (k : ℕ). take k (reported_to (other writer) notes)) same ∙ ap (take (length own + n)) t ∙ take-after own (contents received) (contents sent) n e
          ∙ ap (take (length own + n)) (sym w) ∙ ap (λ (k : ℕ). take k written) (sym same)

      at : (n : ℕ) → ForgedMessage r writer interval (in_stream sent) (in_stream received) n
          → ForgedFrame r writer interval opening frames received notes (n + opening)
      at n forged =
          let same : n + opening ≡ length own + n = omega (arith, o) in
          let turned : n + opening ≡ opening + n = omega arith in
          let there : slice_get (reported_to (other writer) notes) (n + opening) ≡ Some forged.forged.payload =
          ap (slice_get (reported_to (other writer) notes)) same ∙ ap (λ (z : List (List ℕ)). slice_get z (length own + n)) t
          ∙ get-after own (contents received) n ∙ slice_get-map (λ (z : TransportMessage). z.payload) received n
          ∙ ap (option_map (λ (z : TransportMessage). z.payload)) forged.came in
          let p = placed (other writer) notes (n + opening) forged.forged.payload there in
          record {
            payload = forged.forged.payload;
            nonce = n;
            number = turned;
            came = forged.came ∙ ap (λ (m : List ℕ). Some (with_message m forged.forged.payload)) forged.message_at;
            place = p.0;
            is_at = p.1;
            entry = there;
            unwritten = λ e.
                let sealed = frame-after mine sent frames opening n (transport_message r writer interval n forged.forged.payload) f m
                (sym (ap (slice_get frames) turned) ∙ e) in
                forged.unwritten sealed.0 sealed.1 (sealed.2 ∙ sym forged.message_at);
          }

-- ---- both ends

-- an end that reports a hash has seen all messages
hashed : (v : EndState) (h : List ℕ) → session_hash v ≡ Some h → v.party.passed ≡ length v.party.pattern.messages
hashed v h e = by (v.party.passed == length v.party.pattern.messages) refl e
  where
    by : (b : Bool) → (v.party.passed == length v.party.pattern.messages) ≡ b → (if b then Some v.party.state.hash else None) ≡ Some h
        → v.party.passed ≡ length v.party.pattern.messages
    by true f g = eqb-true v.party.passed (length v.party.pattern.messages) f
    by false f g = absurd (cc)

all-passed : (p : Plan) (role : Role) (s : Side) (h : List ℕ) → Unchanged p role s → session_hash s.state ≡ Some h → length s.passed ≡ length p.messages
all-passed p role s h k e = k.count ∙ hashed s.state h e ∙ ap (λ (q : Plan). length q.messages) k.pattern_is

module _ (framed : EndsFrame) (one : PsksMakeOne) (come : PayloadsCome) where
  pub entries-come : EntriesCome
  entries-come p a b interval events notes d run hashes psks =
      elim (one p a b interval interval events notes d run hashes psks) [
        | inr clash ↦ inr clash
        | inl history ↦ elim (come p a b interval events notes d run hashes psks) [
          | inr clash ↦ inr clash
          | inl agree ↦ inl (entries history agree)
        ]
      ]
    where
      entries : HaveOneHistory p a b d → PayloadsAgree interval d
          → EntriesAgree p interval events notes d.initiator.frames d.responder.frames d
      entries history agree =
          let k = ends-unchanged p a b interval interval events notes d run in
          let f = framed p a b interval interval events notes d run in
          let t = payloads-are-reported p a b interval interval events notes d run in
          let ps : List HandshakeMessage = d.initiator.passed in
          let qs : List HandshakeMessage = d.responder.passed in
          let all : length ps ≡ length p.messages = all-passed p Initiator d.initiator hashes.hash k.0 hashes.initiator in
          let also : length qs ≡ length p.messages = all-passed p Responder d.responder hashes.hash k.1 hashes.responder in
          record {
            there = front-or-forged d.initiator.state.party.state Initiator interval (turns_of Initiator (length p.messages)) d.initiator.frames
                (own_messages Initiator 0 ps) (own_payloads Initiator 0 ps) (written_by Initiator events notes) notes
                d.initiator.sent d.responder.received
                (f.0 ∙ ap (λ (r : Role). map frame (own_messages r 0 ps ++ map (λ (m : TransportMessage). m.message) d.initiator.sent)) k.0.role_is)
                (own-count Initiator ps (length p.messages) all ∙ sym (own-as-many Initiator 0 ps)) (own-count Initiator ps (length p.messages) all)
                t.0.written
                (t.1.reported ∙ ap (λ (ms : List HandshakeMessage). own_payloads Initiator 0 ms ++ contents d.responder.received) (sym history.passed))
                agree.there;
            back = front-or-forged d.initiator.state.party.state Responder interval (turns_of Responder (length p.messages)) d.responder.frames
                (own_messages Responder 0 qs) (own_payloads Responder 0 qs) (written_by Responder events notes) notes
                d.responder.sent d.initiator.received
                (f.1 ∙ ap (λ (r : Role). map frame (own_messages r 0 qs ++ map (λ (m : TransportMessage). m.message) d.responder.sent)) k.1.role_is)
                (own-count Responder qs (length p.messages) also ∙ sym (own-as-many Responder 0 qs)) (own-count Responder qs (length p.messages) also)
                t.1.written
                (t.0.reported ∙ ap (λ (ms : List HandshakeMessage). own_payloads Responder 0 ms ++ contents d.initiator.received) history.passed)
                (let P : SymmetricState → Type 0 = λ r. PrefixOrForgedMessage r Responder interval d.responder.sent d.initiator.received in
                subst P (sym history.state) agree.back);
          }

-- ---- keys

module _ {K : Type 0} (pairs : K → KeyPairs) where
  sending-key : (x : Phase K) (v : EndState) (k : List ℕ) → PhaseMatches pairs x v → send_key_in x ≡ Some k
      → k ≡ transport_key v.party.state v.party.role v.interval v.sent
  sending-key (phase.Open t) v k s e = let is = s.transport.sender.key in cc
  sending-key _ v k s e = absurd (cc)

  receiving-key : (x : Phase K) (v : EndState) (k : List ℕ) → PhaseMatches pairs x v → receive_key_in x ≡ Some k
      → k ≡ transport_key v.party.state (other v.party.role) v.interval v.received
  receiving-key (phase.Open t) v k s e = let is = s.transport.receiver.key in cc
  receiving-key _ v k s e = absurd (cc)

-- as many were received as were sent
as-many : (own written reported : List (List ℕ)) (sent received : List TransportMessage) (n m : ℕ) → written ≡ own ++ contents sent
    → reported ≡ own ++ contents received → length reported ≡ length written → n ≡ length sent → m ≡ length received → m ≡ n
as-many own written reported sent received n m w t e f g = search (rules, length-append, length-map)

keys-same : (v w : EndState) (k l : List ℕ) → k ≡ transport_key v.party.state v.party.role v.interval v.sent
    → l ≡ transport_key w.party.state (other w.party.role) w.interval w.received
    → w.party.state ≡ v.party.state → other w.party.role ≡ v.party.role → w.interval ≡ v.interval → w.received ≡ v.sent → l ≡ k
keys-same v w k l e f history role interval count = cc

module _ {A B : Type 0} (pairs_a : A → KeyPairs)
    (pairs_b : B → KeyPairs) (stand : EndsComeOfMessages) (one : PsksMakeOne) where
  pub keys-come : KeysCome pairs_a pairs_b
  keys-come p a b interval events notes d duel run matches hashes psks =
      elim (one p a b interval interval events notes d run hashes psks) [
        | inr clash ↦ inr clash
        | inl history ↦ inl (keys history)
      ]
    where
      keys : HaveOneHistory p a b d → KeysMeet events notes duel
      keys history =
          let n = ends-unchanged p a b interval interval events notes d run in
          let t = payloads-are-reported p a b interval interval events notes d run in
          let s = stand p a b interval interval events notes d run in
          let same : d.responder.state.interval ≡ d.initiator.state.interval = s.1.interval_is ∙ sym s.0.interval_is in
          record {
            there = λ e k l f g. keys-same d.initiator.state d.responder.state k l
                (sending-key pairs_a duel.initiator.phase d.initiator.state k matches.initiator.phase f)
                (receiving-key pairs_b duel.responder.phase d.responder.state l matches.responder.phase g)
                (sym history.state) (ap other n.1.role_is ∙ sym n.0.role_is) same
                (as-many (own_payloads Initiator 0 d.initiator.passed) (written_by Initiator events notes) (reported_to Responder notes)
                d.initiator.sent d.responder.received d.initiator.state.sent d.responder.state.received t.0.written
                (t.1.reported ∙ ap (λ (ms : List HandshakeMessage). own_payloads Initiator 0 ms ++ contents d.responder.received) (sym history.passed))
                e s.0.sending s.1.receiving);
            back = λ e k l f g. keys-same d.responder.state d.initiator.state k l
                (sending-key pairs_b duel.responder.phase d.responder.state k matches.responder.phase f)
                (receiving-key pairs_a duel.initiator.phase d.initiator.state l matches.initiator.phase g)
                history.state (ap other n.0.role_is ∙ sym n.1.role_is) (sym same)
                (as-many (own_payloads Responder 0 d.responder.passed) (written_by Responder events notes) (reported_to Initiator notes)
                d.responder.sent d.initiator.received d.responder.state.sent d.initiator.state.received t.1.written
                (t.0.reported ∙ ap (λ (ms : List HandshakeMessage). own_payloads Responder 0 ms ++ contents d.initiator.received) history.passed)
                e s.1.sending s.0.receiving);
          }
