-- Two parties of one handshake agree on their datagrams.
use Rattle.std.proofs.Common.{rules, ◌≡◌, ◌≢◌, ℕ, zero, suc, ◌+◌, List, ◌∷◌, ◌++◌, length, length-append, Option, Some, None, Ok, slice_get, refl, sym, ◌∙◌, ap, subst, arith, inl, inr, ◌⊎◌, eq-eqb, []}
use Rattle.noise_duel.proofs.Common.{ne_eqb, eqb_tells, Role, Initiator, Responder, SymmetricState, Party, transport_message, AreOnce, DatagramState, IsSealed, Opens, datagram_fault, nonce_named, DatagramEvent, DatagramNote, DatagramHappens, DatagramRun, PartyOpens, PartySeals, is_sealed, is_delivered, is_missing, is_put_in, opens, rejects, seals, seals_nothing, DatagramSide, DatagramSides, NonceMessage, at_nonce, new_party, nonces_of, of_nonce, TransportMessage, begun_as, same-or, same_Some}
use Rattle.noise_session.specs.Windows.{is_accepted}
use Rattle.noise_session.specs.Datagrams.Opens.{opened}
use Rattle.noise_session.specs.DatagramFaults.{fault-free}
use Rattle.noise_duel.specs.DatagramAgreement.{AreAtNonces, AreCounted, ArriveOnce, ComesOfDatagrams, DatagramRunsAgree, RunsMakeOneBeginning}
use Rattle.noise_duel.specs.DatagramRuns.DatagramRun.{begins, ends}
use Rattle.noise_duel.specs.Forgery.{ForgedMessage}
use Rattle.noise_duel.proofs.Invariant.{ends-stand}
use Rattle.noise_duel.proofs.Networks.{passes-role}
use Rattle.noise_duel.proofs.Prefixes.{transport_message-same}

-- ---- what is opened is the transport message of a nonce that wasn't accepted
opened-as : (v : DatagramState) (bytes payload : List ℕ) (w : DatagramState) → Opens v bytes (Ok payload) w → (datagram_fault v bytes ≡ None) × IsSealed v bytes payload
opened-as v bytes payload w (opened _ _ _ none is) = (none, is)

-- ---- one event
counted-more : (r : SymmetricState) (writer : Role) (n : ℕ) (ms : List NonceMessage) (m : NonceMessage) → AreCounted r writer n ms → m.nonce ≡ n + length ms
    → m.message.message ≡ transport_message r writer 0 (n + length ms) m.message.payload → AreCounted r writer n (ms ++ m ∷ [])
counted-more r writer n [] m h is e = search rules
counted-more r writer n (x ∷ ms) m h is e =
    let next : n + length (x ∷ ms) ≡ (n + 1) + length ms = omega arith in (
      h.0,
      h.1,
      counted-more r writer (n + 1) ms m h.2 (is ∙ next) (subst (λ (k : ℕ). m.message.message ≡ transport_message r writer 0 k m.message.payload) next e),
    )

record Holds (role : Role) (r : SymmetricState) (s : DatagramSide) : Type 0 where
  pub comes : ComesOfDatagrams role r s
  pub once : AreOnce (nonces_of s.opened)

record HoldBoth (r : SymmetricState) (d : DatagramSides) : Type 0 where
  pub initiator : Holds Initiator r d.initiator
  pub responder : Holds Responder r d.responder

holds-sealed : (role : Role) (r : SymmetricState) (s : DatagramSide) (payload : List ℕ) (next : DatagramSide) (note : DatagramNote) → PartySeals s payload note next
    → Holds role r s → Holds role r next
holds-sealed role r s payload next note (seals_nothing _ _ why e) h = h
holds-sealed role r s payload next note (seals _ _ e) h =
    let c = h.comes in
    let message = transport_message s.state.state s.state.role 0 s.state.sent payload in
    let m : NonceMessage = at_nonce s.state.sent message payload in
    let same : message ≡ transport_message r role 0 (0 + length s.sealed) payload =
    ap (λ (q : SymmetricState). transport_message q s.state.role 0 s.state.sent payload) c.state
    ∙ ap (λ (q : Role). transport_message r q 0 s.state.sent payload) c.role_is
    ∙ ap (λ (k : ℕ). transport_message r role 0 k payload) (c.sending ∙ omega arith) in
    record {
      comes = record {
        role_is = c.role_is;
        state = c.state;
        sending = let long = length-append s.sealed (m ∷ []) in let before = c.sending in omega (arith, long, before);
        accepted = c.accepted;
        sealed = counted-more r role 0 s.sealed m c.sealed (c.sending ∙ omega arith) same;
        opened = c.opened;
      };
      once = h.once;
    }

holds-opened : (role : Role) (r : SymmetricState) (s : DatagramSide) (bytes : List ℕ) (next : DatagramSide) (note : DatagramNote) → PartyOpens s bytes note next
    → Holds role r s → Holds role r next
holds-opened role r s bytes next note (rejects _ _ why o) h = h
holds-opened role r s bytes next note (opens _ _ payload o) h =
    let c = h.comes in
    let is = opened-as s.state bytes payload _ o in
    let n = nonce_named bytes in
    record {
      comes = record {
        role_is = c.role_is;
        state = c.state;
        sending = c.sending;
        accepted = ap (λ (ns : List ℕ). n ∷ ns) c.accepted;
        sealed = c.sealed;
        opened = search;
      };
      once = (ap (λ (ns : List ℕ). is_accepted ns n) (sym c.accepted) ∙ (fault-free s.state bytes is.0).fresh, h.once);
    }

hold-happened : (r : SymmetricState) (d next : DatagramSides) (event : DatagramEvent) (note : Role × DatagramNote) → DatagramHappens d event note next
    → HoldBoth r d → HoldBoth r next
hold-happened r d next event note (is_sealed _ Initiator payload reported s p) h =
    record { initiator = holds-sealed Initiator r d.initiator payload s reported p h.initiator; responder = h.responder }
hold-happened r d next event note (is_sealed _ Responder payload reported s p) h =
    record { initiator = h.initiator; responder = holds-sealed Responder r d.responder payload s reported p h.responder }
hold-happened r d next event note (is_delivered _ Initiator n bytes reported s got p) h =
    record { initiator = holds-opened Initiator r d.initiator bytes s reported p h.initiator; responder = h.responder }
hold-happened r d next event note (is_delivered _ Responder n bytes reported s got p) h =
    record { initiator = h.initiator; responder = holds-opened Responder r d.responder bytes s reported p h.responder }
hold-happened r d next event note (is_missing _ role n none) h = h
hold-happened r d next event note (is_put_in _ Initiator bytes reported s p) h =
    record { initiator = holds-opened Initiator r d.initiator bytes s reported p h.initiator; responder = h.responder }
hold-happened r d next event note (is_put_in _ Responder bytes reported s p) h =
    record { initiator = h.initiator; responder = holds-opened Responder r d.responder bytes s reported p h.responder }

hold-run : (r : SymmetricState) (d last : DatagramSides) (events : List DatagramEvent) (notes : List (Role × DatagramNote)) → DatagramRun d events notes last
    → HoldBoth r d → HoldBoth r last
hold-run r d last events notes (ends _) h = h
hold-run r d last events notes (begins _ next _ event more note rest now run) h =
    search ((hold-run r next last more rest run (hold-happened r d next event note now h)))

-- ---- the message of a nonce
abbrev of_parts : ℕ → TransportMessage → NonceMessage
of_parts n w = record { nonce = n; message = w }

same-nonce : (m : NonceMessage) (n : ℕ) (w : TransportMessage) → m.nonce ≡ n → m.message ≡ w → m ≡ record { nonce = n; message = w }
same-nonce m n w e f = ap (λ (i : ℕ). of_parts i m.message) e ∙ ap (of_parts n) f

abbrev of_texts : List ℕ → List ℕ → TransportMessage
of_texts message payload = record { message = message; payload = payload }

same-message : (w m : TransportMessage) → w.message ≡ m.message → w.payload ≡ m.payload → w ≡ m
same-message w m e f = ap (λ (bytes : List ℕ). of_texts bytes w.payload) e ∙ ap (of_texts m.message) f

first-of : (m : NonceMessage) (ms : List NonceMessage) (n : ℕ) → m.nonce ≡ n → of_nonce (m ∷ ms) n ≡ Some m.message
first-of m ms n e = rw (eq-eqb m.nonce n e) refl

later-of : (m : NonceMessage) (ms : List NonceMessage) (n : ℕ) → m.nonce ≢ n → of_nonce (m ∷ ms) n ≡ of_nonce ms n
later-of m ms n e = rw (ne_eqb m.nonce n e) refl

module _ (r : SymmetricState) (writer : Role) where
  -- of a writer's messages from nonce n on, that of nonce n + k has the number k
  counted-at : (n k : ℕ) (ms : List NonceMessage) (w : TransportMessage) → AreCounted r writer n ms → of_nonce ms (n + k) ≡ Some w
      → (slice_get ms k ≡ Some (record { nonce = n + k; message = w })) × (w.message ≡ transport_message r writer 0 (n + k) w.payload)
  counted-at n k [] w h e = cc
  counted-at n zero (m ∷ ms) w h e =
      let here : m.nonce ≡ n + 0 = h.0 ∙ omega arith in
      let same : m.message ≡ w = same_Some m.message w (sym (first-of m ms (n + 0) here) ∙ e) in (
        ap Some (same-nonce m (n + 0) w here same),
        subst (λ (z : TransportMessage). z.message ≡ transport_message r writer 0 (n + 0) z.payload) same
            (subst (λ (i : ℕ). m.message.message ≡ transport_message r writer 0 i m.message.payload) (omega arith) h.1),
      )
  counted-at n (suc k) (m ∷ ms) w h e =
      let apart : m.nonce ≢ n + suc k = λ same. let first = h.0 in absurd (omega (arith, first, same)) in
      let step : (n + 1) + k ≡ n + suc k = omega arith in
      let more = counted-at (n + 1) k ms w h.2 (ap (of_nonce ms) step ∙ sym (later-of m ms (n + suc k) apart) ∙ e) in (
        more.0 ∙ ap (λ (i : ℕ). Some (record { nonce = i; message = w })) step,
        subst (λ (i : ℕ). w.message ≡ transport_message r writer 0 i w.payload) step more.1,
      )

  at-nonces-at : (ms : List NonceMessage) (n : ℕ) (w : TransportMessage) → AreAtNonces r writer ms → of_nonce ms n ≡ Some w
      → w.message ≡ transport_message r writer 0 n w.payload
  at-nonces-at [] n w h e = cc
  at-nonces-at (m ∷ ms) n w h e = elim (eqb_tells m.nonce n) [
    | inl y ↦ subst (λ (z : TransportMessage). z.message ≡ transport_message r writer 0 n z.payload) (same_Some m.message w (sym (first-of m ms n y.1) ∙ e))
        (subst (λ (i : ℕ). m.message.message ≡ transport_message r writer 0 i m.message.payload) y.1 h.0)
    | inr y ↦ at-nonces-at ms n w h.1 (sym (later-of m ms n y.1) ∙ e)
  ]

  arrive : (sealed came : List NonceMessage) → AreCounted r writer 0 sealed → AreAtNonces r writer came → AreOnce (nonces_of came)
      → ArriveOnce r writer sealed came
  arrive sealed came f g one = record { once = one; own = λ i m e. at i m e (of_nonce sealed i) refl }
    where
      at : (i : ℕ) (m : TransportMessage) → of_nonce came i ≡ Some m → (w : Option TransportMessage) → of_nonce sealed i ≡ w
          → (slice_get sealed i ≡ Some (record { nonce = i; message = m })) ⊎ ForgedMessage r writer 0 (of_nonce sealed) (of_nonce came) i
      at i m e None none = inr (record {
        forged = m;
        came = e;
        unwritten = λ x there. cc (sym none ∙ there);
        message_at = at-nonces-at came i m g e;
      })
      at i m e (Some w) there =
          let number : 0 + i ≡ i = omega arith in
          let own = counted-at 0 i sealed w f (ap (of_nonce sealed) number ∙ there) in
          let made : w.message ≡ transport_message r writer 0 i w.payload = subst (λ (k : ℕ). w.message ≡ transport_message r writer 0 k w.payload) number own.1 in
          let is : m.message ≡ transport_message r writer 0 i m.payload = at-nonces-at came i m g e in
          elim (same-or w.message m.message) [
            | inl same ↦ inl (own.0 ∙ ap (λ (k : ℕ). Some (record { nonce = k; message = w })) number
                ∙ ap (λ (z : TransportMessage). Some (record { nonce = i; message = z }))
                (same-message w m same (transport_message-same r writer 0 i w.payload m.payload (sym made ∙ same ∙ is))))
            | inr differ ↦ inr (record {
              forged = m;
              came = e;
              unwritten = λ x here same. differ (ap (λ (z : TransportMessage). z.message) (same_Some w x (sym there ∙ here)) ∙ same);
              message_at = is;
            })
          ]

-- ---- the run
starts : (role : Role) (v : DatagramState) → v.role ≡ role → v.sent ≡ 0 → v.accepted ≡ [] → (r : SymmetricState) → v.state ≡ r → Holds role r (new_party v)
starts role v is sent none r same = record {
  comes = record { role_is = is; state = same; sending = sent; accepted = none; sealed = tt; opened = tt };
  once = tt;
}

pub datagram-runs-agree : DatagramRunsAgree
datagram-runs-agree v w events notes last b run =
    let r = v.state in
    let h = hold-run r _ last events notes run (record {
      initiator = starts Initiator v b.initiator b.initiator_sent b.initiator_accepted r refl;
      responder = starts Responder w b.responder b.responder_sent b.responder_accepted r b.state;
    }) in
    record {
      initiator = h.initiator.comes;
      responder = h.responder.comes;
      there = arrive r Initiator last.initiator.sealed last.responder.opened h.initiator.comes.sealed h.responder.comes.opened h.responder.once;
      back = arrive r Responder last.responder.sealed last.initiator.opened h.responder.comes.sealed h.initiator.comes.opened h.initiator.once;
    }

-- ---- after a run over frames
pub runs-make-one-beginning : RunsMakeOneBeginning
runs-make-one-beginning p a b i j events notes d window run one =
    let both = ends-stand p a b i j events notes d run in
    record {
      initiator = ap (λ (v : Party). v.role) both.0.party ∙ passes-role (begun_as p Initiator a) both.0.last d.initiator.passed both.0.passes;
      responder = ap (λ (v : Party). v.role) both.1.party ∙ passes-role (begun_as p Responder b) both.1.last d.responder.passed both.1.passes;
      state = sym one.state;
      initiator_sent = refl;
      responder_sent = refl;
      initiator_accepted = refl;
      responder_accepted = refl;
    }
