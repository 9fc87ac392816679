-- Every event leaves each end what its messages made of it.
use Rattle.std.proofs.Common.{rules, ◌≡◌, ℕ, ◌+◌, ◌<◌, List, ◌∷◌, ◌++◌, length, refl, ap, sym, subst, ◌∙◌, arith, inl, inr, ◌⊎◌, length-append, []}
use Rattle.std.specs.Prelude.{Bool, true, false, ◌==◌, Err, if◌then◌else◌}
use Rattle.noise_duel.proofs.Common.{nat_tests, IsTrue, Role, Initiator, Responder, other, SymmetricState, Party, Accepts, Writes, after_own, after_message, SendFault, transport_message, StepValue, is_one_way, is_open, Handshaking, HasEnded, EndState, progress_of, ended_session, end_of, Judges, accepted, dropped, exhausted, Sends, after_fault, refuses, lacks_dh_result, HandshakeMessage, Exchanged, begun_as, none, wrote, took, TransportMessage, Side, Sides, new_side, with_state, Event, Note, SideWrites, SideReads, SideReceives, Happens, Run, GivesNoPayload, writes_nothing, writes_handshake, writes_transport, accepts_handshake, accepts_transport, refuses_message, is_idle, waits, reads_frame, writes, says_nothing, says, delivers, misses, injects, sides_at_start, AreTransportMessages, ComesOfMessages, EndsComeOfMessages}
use Rattle.noise_session.specs.Faults.{ends}
use Rattle.noise_session.specs.Progress.Progress.{Open}
use Rattle.noise_session.specs.Taking.Judges.{refused, opened}
use Rattle.noise_duel.specs.Runs.Run.{ends as run_ends, begins}

-- ---- one message more

passes-wrote : (v w : Party) (ps : List HandshakeMessage) (p : HandshakeMessage) → Exchanged v ps w → Writes w p.payload p.carried p.message
    → Exchanged v (ps ++ p ∷ []) (after_own w p.carried p.payload)
passes-wrote v w [] p (none _) h = wrote v (after_own v p.carried p.payload) p [] h (none (after_own v p.carried p.payload))
passes-wrote v w (q ∷ qs) p (wrote _ _ _ _ here more) h =
    wrote v (after_own w p.carried p.payload) q (qs ++ p ∷ []) here (passes-wrote (after_own v q.carried q.payload) w qs p more h)
passes-wrote v w (q ∷ qs) p (took _ _ _ _ here more) h =
    took v (after_own w p.carried p.payload) q (qs ++ p ∷ []) here (passes-wrote (after_message v q.carried q.payload) w qs p more h)

passes-took : (v w : Party) (ps : List HandshakeMessage) (p : HandshakeMessage) → Exchanged v ps w → Accepts w p.message p.carried p.payload
    → Exchanged v (ps ++ p ∷ []) (after_message w p.carried p.payload)
passes-took v w [] p (none _) h = took v (after_message v p.carried p.payload) p [] h (none (after_message v p.carried p.payload))
passes-took v w (q ∷ qs) p (wrote _ _ _ _ here more) h =
    wrote v (after_message w p.carried p.payload) q (qs ++ p ∷ []) here (passes-took (after_own v q.carried q.payload) w qs p more h)
passes-took v w (q ∷ qs) p (took _ _ _ _ here more) h =
    took v (after_message w p.carried p.payload) q (qs ++ p ∷ []) here (passes-took (after_message v q.carried q.payload) w qs p more h)

transport_messages-more : (r : SymmetricState) (writer : Role) (interval n : ℕ) (ps : List TransportMessage) (m : TransportMessage) → AreTransportMessages r writer interval n ps
    → m.message ≡ transport_message r writer interval (n + length ps) m.payload
    → AreTransportMessages r writer interval n (ps ++ m ∷ [])
transport_messages-more r writer interval n [] m h e = search rules
transport_messages-more r writer interval n (p ∷ ps) m h e =
    let later : m.message ≡ transport_message r writer interval (n + 1 + length ps) m.payload =
    subst (λ (k : ℕ). m.message ≡ transport_message r writer interval k m.payload) (omega arith) e in
    (h.0, transport_messages-more r writer interval (n + 1) ps m h.1 later)

-- ---- the parts of an end

unended : (v w : Party) → record v { ended = false } ≡ w → v.ended ≡ false → v ≡ w
unended v w e h = ap (λ (b : Bool). record v { ended = b }) h ∙ e

-- an open session's messages have all passed
pub all-passed : (v : EndState) → IsTrue (is_open (progress_of v)) → v.party.passed ≡ length v.party.pattern.messages
all-passed v h = go v.party.ended (v.party.passed == length v.party.pattern.messages) refl h
  where
    go : (ended all : Bool) → (v.party.passed == length v.party.pattern.messages) ≡ all
        → IsTrue (is_open (if ended then HasEnded v.party.role else if all then Open v.party.role (is_one_way v.party.pattern) v.sent v.received
        else Handshaking v.party.pattern v.party.role v.party.passed))
        → v.party.passed ≡ length v.party.pattern.messages
    go false true e h = grind (arith, nat_tests)
    go _ _ e h = cc

length-more : {X : Type 0} (xs : List X) (x : X) (n : ℕ) → n ≡ length xs → n + 1 ≡ length (xs ++ x ∷ [])
length-more xs x n e = omega (arith, length-append xs (x ∷ []))

module _ (first : Party) (interval : ℕ) where
  -- the same party, ended or not, and the same counts
  seen : (s : Side) (next : EndState) → ComesOfMessages first interval s → record (next.party) { ended = false } ≡ record (s.state.party) { ended = false }
      → next.interval ≡ s.state.interval → next.sent ≡ s.state.sent → next.received ≡ s.state.received → ComesOfMessages first interval (with_state s next)
  seen s next h party i m n = record {
    last = h.last;
    passes = h.passes;
    party = party ∙ h.party;
    interval_is = i ∙ h.interval_is;
    sending = m ∙ h.sending;
    receiving = n ∙ h.receiving;
    opened = h.opened;
    sent = h.sent;
    received = h.received;
  }

  refusal-seen : (s : Side) (why : SendFault) → ComesOfMessages first interval s → ComesOfMessages first interval (with_state s (after_fault s.state why))
  refusal-seen s why h = by (ends why)
    where
      by : (b : Bool) → ComesOfMessages first interval (with_state s (if b then ended_session s.state else s.state))
      by true = seen s (ended_session s.state) h refl refl refl refl
      by false = seen s s.state h refl refl refl refl

  unsent : (s : Side) (h : ComesOfMessages first interval s) → s.state.party.passed < length s.state.party.pattern.messages → (s.sent ≡ []) × (s.received ≡ [])
  unsent s h less = go h.opened
    where
      go : ((s.sent ≡ []) × (s.received ≡ [])) ⊎ (h.last.passed ≡ length h.last.pattern.messages) → (s.sent ≡ []) × (s.received ≡ [])
      go (inl empty) = empty
      go (inr all) =
          let passed : s.state.party.passed ≡ h.last.passed = ap (λ (v : Party). v.passed) h.party in
          let count : length s.state.party.pattern.messages ≡ length h.last.pattern.messages = ap (λ (v : Party). length v.pattern.messages) h.party in
          let bad : ⊥ = omega (arith, less, all, passed, count) in
          absurd bad

  none-transport_messages : (r : SymmetricState) (writer : Role) (ps : List TransportMessage) → ps ≡ [] → AreTransportMessages r writer interval 0 ps
  none-transport_messages r writer ps e = subst (λ (qs : List TransportMessage). AreTransportMessages r writer interval 0 qs) (sym e) tt

  -- a transport message of the end's state is one of the state that it matches
  transport_message-of : (s : Side) (payload : List ℕ) (h : ComesOfMessages first interval s) (writer : Role) (n m : ℕ) (role : Role) → writer ≡ role → n ≡ m
      → transport_message s.state.party.state writer s.state.interval n payload ≡ transport_message h.last.state role interval (0 + m) payload
  transport_message-of s payload h writer n m role e f =
      let zeros : n ≡ 0 + m = omega (arith, f) in
      ap (λ (r : SymmetricState). transport_message r writer s.state.interval n payload) (ap (λ (v : Party). v.state) h.party)
      ∙ ap (λ (k : ℕ). transport_message h.last.state writer k n payload) h.interval_is
      ∙ ap (λ (k : ℕ). transport_message h.last.state writer interval k payload) zeros
      ∙ ap (λ (w : Role). transport_message h.last.state w interval (0 + m) payload) e

  pub writes-matches : (s : Side) (payload : List ℕ) (t : Side) (note : Note) → ComesOfMessages first interval s → SideWrites s payload note t
      → ComesOfMessages first interval t
  writes-matches s payload t note h (writes_nothing _ _ why next sends) = go why next sends
    where
      go : (why : SendFault) (next : EndState) → Sends s.state payload (Err why) next → ComesOfMessages first interval (with_state s next)
      go why next (refuses _ _ _ e) = refusal-seen s why h
      go why next (lacks_dh_result _ _ k e lacks) = seen s (ended_session s.state) h refl refl refl refl
  writes-matches s payload t note h (writes_handshake _ message _ xs e w) =
      let p : HandshakeMessage = record { message = message; carried = xs; payload = payload } in
      let same : s.state.party ≡ h.last = unended s.state.party h.last h.party w.speaks.going in
      let empty = unsent s h w.speaks.more in
      record {
        last = after_own h.last xs payload;
        passes = passes-wrote first h.last s.passed p h.passes (subst (λ (v : Party). Writes v payload xs message) same w);
        party = ap (λ (v : Party). record (after_own v xs payload) { ended = false }) same
            ∙ ap (λ (v : Party). record (after_own h.last xs payload) { ended = v.ended }) h.party;
        interval_is = h.interval_is;
        sending = h.sending;
        receiving = h.receiving;
        opened = inl empty;
        sent = none-transport_messages (after_own h.last xs payload).state h.last.role s.sent empty.0;
        received = none-transport_messages (after_own h.last xs payload).state (other h.last.role) s.received empty.1;
      }
  writes-matches s payload t note h (writes_transport _ message _ e due is) =
      let m : TransportMessage = record { message = message; payload = payload } in
      let passed : h.last.passed ≡ length h.last.pattern.messages = search rules in
      record {
        last = h.last;
        passes = h.passes;
        party = h.party;
        interval_is = h.interval_is;
        sending = length-more s.sent m s.state.sent h.sending;
        receiving = h.receiving;
        opened = inr passed;
        sent = transport_messages-more h.last.state h.last.role interval 0 s.sent m h.sent
            (is ∙ transport_message-of s payload h s.state.party.role s.state.sent (length s.sent) h.last.role (ap (λ (v : Party). v.role) h.party) h.sending);
        received = h.received;
      }

  pub reads-matches : (s t : Side) (message : List ℕ) (step : StepValue) → ComesOfMessages first interval s → SideReads s message step t
      → ComesOfMessages first interval t
  reads-matches s t message step h (accepts_handshake _ _ payload xs a) =
      let p : HandshakeMessage = record { message = message; carried = xs; payload = payload } in
      let same : s.state.party ≡ h.last = unended s.state.party h.last h.party a.listens.going in
      let empty = unsent s h a.listens.more in
      record {
        last = after_message h.last xs payload;
        passes = passes-took first h.last s.passed p h.passes (subst (λ (v : Party). Accepts v message xs payload) same a);
        party = search;
        interval_is = h.interval_is;
        sending = h.sending;
        receiving = h.receiving;
        opened = inl empty;
        sent = none-transport_messages (after_message h.last xs payload).state h.last.role s.sent empty.0;
        received = none-transport_messages (after_message h.last xs payload).state (other h.last.role) s.received empty.1;
      }
  reads-matches s t message step h (accepts_transport _ _ payload due low is) =
      let m : TransportMessage = record { message = message; payload = payload } in
      let passed : h.last.passed ≡ length h.last.pattern.messages = search rules in
      record {
        last = h.last;
        passes = h.passes;
        party = h.party;
        interval_is = h.interval_is;
        sending = h.sending;
        receiving = length-more s.received m s.state.received h.receiving;
        opened = inr passed;
        sent = h.sent;
        received = transport_messages-more h.last.state (other h.last.role) interval 0 s.received m h.received
            (is ∙ transport_message-of s payload h (other s.state.party.role) s.state.received (length s.received) (other h.last.role)
            (ap (λ (v : Party). other v.role) h.party) h.receiving);
      }
  reads-matches s t message step h (refuses_message _ _ _ next bad judges) = go step next bad judges
    where
      go : (step : StepValue) (next : EndState) → GivesNoPayload step → Judges s.state message step next → ComesOfMessages first interval (with_state s next)
      go step next bad (accepted _ _ payload xs a) = absurd bad
      go step next bad (refused _ _ token cause r) = seen s (ended_session s.state) h refl refl refl refl
      go step next bad (opened _ _ payload due low is) = absurd bad
      go step next bad (dropped _ _ due low never) = seen s next h refl refl refl refl
      go step next bad (exhausted _ _ due full) = seen s (ended_session s.state) h refl refl refl refl

  pub receives-matches : (s t : Side) (bytes : List ℕ) (notes : List Note) → ComesOfMessages first interval s → SideReceives s bytes notes t
      → ComesOfMessages first interval t
  receives-matches s t bytes notes h (is_idle _ _ step e) = h
  receives-matches s t bytes notes h (waits _ _ e partial) = seen s (record (s.state) { partial = s.state.partial ++ bytes }) h refl refl refl refl
  receives-matches s t bytes notes h (reads_frame _ next _ _ message rest step more e is short reads on) =
      search ((receives-matches next t rest more (reads-matches s next message step h reads) on))

-- ---- both ends

module _ (first second : Party) (i j : ℕ) where
  abbrev pub BothMatch : Sides → Type 0
  BothMatch d = ComesOfMessages first i d.initiator × ComesOfMessages second j d.responder

  event-matches : (d e : Sides) (event : Event) (notes : List (Role × Note)) → BothMatch d → Happens d event notes e → BothMatch e
  event-matches d e event notes h (writes _ Initiator payload note next written) = (writes-matches first i d.initiator payload next note h.0 written, h.1)
  event-matches d e event notes h (writes _ Responder payload note next written) = (h.0, writes-matches second j d.responder payload next note h.1 written)
  event-matches d e event notes h (says_nothing _ Initiator payload why next written) = (writes-matches first i d.initiator payload next _ h.0 written, h.1)
  event-matches d e event notes h (says_nothing _ Responder payload why next written) = (h.0, writes-matches second j d.responder payload next _ h.1 written)
  event-matches d e event notes h (says _ Initiator payload bytes n more next heard written frame receives) = search (writes-matches, receives-matches)
  event-matches d e event notes h (says _ Responder payload bytes n more next heard written frame receives) = search (receives-matches, writes-matches)
  event-matches d e event notes h (delivers _ Initiator n bytes more heard frame receives) = search receives-matches
  event-matches d e event notes h (delivers _ Responder n bytes more heard frame receives) = search receives-matches
  event-matches d e event notes h (misses _ role n missing) = h
  event-matches d e event notes h (injects _ Initiator bytes more heard receives) = (receives-matches first i d.initiator heard bytes more h.0 receives, h.1)
  event-matches d e event notes h (injects _ Responder bytes more heard receives) = (h.0, receives-matches second j d.responder heard bytes more h.1 receives)

  pub run-matches : (d e : Sides) (events : List Event) (notes : List (Role × Note)) → BothMatch d → Run d events notes e → BothMatch e
  run-matches d e events notes h (run_ends _) = h
  run-matches d e events notes h (begins _ next _ event later now more does run) =
      search ((run-matches next e later more (event-matches d next event now h does) run))

fresh-matches : (v : Party) (interval : ℕ) → v.ended ≡ false → ComesOfMessages v interval (new_side (end_of v interval))
fresh-matches v interval going = record {
  last = v;
  passes = none v;
  party = ap (λ (b : Bool). record v { ended = b }) (sym going);
  interval_is = refl;
  sending = refl;
  receiving = refl;
  opened = inl (refl, refl);
  sent = tt;
  received = tt;
}

pub ends-stand : EndsComeOfMessages
ends-stand p a b i j events notes d run =
    run-matches (begun_as p Initiator a) (begun_as p Responder b) i j (sides_at_start p a b i j) d events notes
    (fresh-matches (begun_as p Initiator a) i refl, fresh-matches (begun_as p Responder b) j refl) run
