-- In every run an end's frames are those of the messages that it wrote.
use Rattle.std.proofs.Common.{rules, ◌≡◌, ℕ, ◌+◌, ◌<◌, List, ◌∷◌, ◌++◌, length, map, refl, ap, sym, ◌∙◌, arith, append-nil, append_assoc, length-append, []}
use Rattle.std.specs.Prelude.{Bool, true, false, Err, if◌then◌else◌}
use Rattle.noise_duel.proofs.Common.{map-append, Role, Initiator, Responder, other, same_role, turn_from, SendFault, frame, StepValue, EndState, ended_session, Judges, accepted, dropped, exhausted, Sends, after_fault, refuses, lacks_dh_result, HandshakeMessage, TransportMessage, Side, Sides, with_state, wrote_handshake, accepted_handshake, wrote_transport, Event, Note, SideWrites, SideReads, SideReceives, Happens, Run, GivesNoPayload, writes_nothing, writes_handshake, writes_transport, accepts_handshake, accepts_transport, refuses_message, is_idle, waits, reads_frame, writes, says_nothing, says, delivers, misses, injects, sides_at_start, own_messages, FramesAreOwn, EndsFrame, same_role-self, same_role-other}
use Rattle.noise_session.specs.Faults.{ends}
use Rattle.noise_session.specs.Taking.Judges.{refused, opened}
use Rattle.noise_duel.specs.Runs.Run.{ends as run_ends, begins}
use Rattle.noise_duel.proofs.Invariant.{all-passed}

-- one message more
own-more : (role : Role) (n : ℕ) (ps : List HandshakeMessage) (p : HandshakeMessage)
    → own_messages role n (ps ++ p ∷ []) ≡ own_messages role n ps ++ (if same_role (turn_from Initiator (n + length ps)) role then p.message ∷ [] else [])
own-more role n [] p = search rules
own-more role n (q ∷ qs) p = search (rules, (own-more role (n + 1) qs p))

-- what is kept of an end
record Unchanged (s : Side) : Type 0 where
  own : FramesAreOwn s
  count : length s.passed ≡ s.state.party.passed
  unsent : s.state.party.passed < length s.state.party.pattern.messages → s.sent ≡ []

module _ (s : Side) (k : Unchanged s) where
  abbrev role : Role
  role = s.state.party.role

  abbrev mine : List (List ℕ)
  mine = own_messages role 0 s.passed

  abbrev transport_messages : List (List ℕ)
  transport_messages = map (λ (m : TransportMessage). m.message) s.sent

  due-more : (p : HandshakeMessage) (r : Role) → turn_from Initiator s.state.party.passed ≡ r
      → own_messages role 0 (s.passed ++ p ∷ []) ≡ mine ++ (if same_role r role then p.message ∷ [] else [])
  due-more p r turn = search (rules, own-more)

  counted : (p : HandshakeMessage) → length (s.passed ++ p ∷ []) ≡ s.state.party.passed + 1
  counted p = omega (arith, length-append s.passed (p ∷ []), k.count)

  wrote-unchanged : (p : HandshakeMessage) → turn_from Initiator s.state.party.passed ≡ role → s.state.party.passed < length s.state.party.pattern.messages
      → Unchanged (wrote_handshake s p)
  wrote-unchanged p turn more =
      let none : s.sent ≡ [] = k.unsent more in
      let before : s.frames ≡ map frame mine = search rules in
      let more_own : own_messages role 0 (s.passed ++ p ∷ []) ≡ mine ++ p.message ∷ [] =
      due-more p role turn ∙ ap (λ (b : Bool). mine ++ (if b then p.message ∷ [] else [])) (same_role-self role) in
      record {
        own = search (rules, map-append);
        count = counted p;
        unsent = λ h. none;
      }

  took-unchanged : (p : HandshakeMessage) → turn_from Initiator s.state.party.passed ≡ other role → s.state.party.passed < length s.state.party.pattern.messages
      → (xs : List (List ℕ)) → Unchanged (accepted_handshake s p)
  took-unchanged p turn more xs =
      let same : own_messages role 0 (s.passed ++ p ∷ []) ≡ mine =
      due-more p (other role) turn ∙ ap (λ (b : Bool). mine ++ (if b then p.message ∷ [] else [])) (same_role-other role) ∙ append-nil mine in
      record {
        own = k.own ∙ ap (λ (ms : List (List ℕ)). map frame (ms ++ transport_messages)) (sym same);
        count = counted p;
        unsent = λ h. k.unsent more;
      }

  sent-unchanged : (m : TransportMessage) → s.state.party.passed ≡ length s.state.party.pattern.messages → Unchanged (wrote_transport s m)
  sent-unchanged m all = record {
    own = search (rules, map-append, append_assoc);
    count = k.count;
    unsent = λ h. absurd (omega (arith, h, all));
  }

  writes-unchanged : (payload : List ℕ) (t : Side) (note : Note) → SideWrites s payload note t → Unchanged t
  writes-unchanged payload t note (writes_nothing _ _ why next sends) = go why next sends
    where
      refusal-unchanged : (why : SendFault) → Unchanged (with_state s (after_fault s.state why))
      refusal-unchanged why = by (ends why)
        where
          by : (b : Bool) → Unchanged (with_state s (if b then ended_session s.state else s.state))
          by true = record { own = k.own; count = k.count; unsent = k.unsent }
          by false = record { own = k.own; count = k.count; unsent = k.unsent }

      go : (why : SendFault) (next : EndState) → Sends s.state payload (Err why) next → Unchanged (with_state s next)
      go why next (refuses _ _ _ e) = refusal-unchanged why
      go why next (lacks_dh_result _ _ token e lacks) = record { own = k.own; count = k.count; unsent = k.unsent }
  writes-unchanged payload t note (writes_handshake _ message _ xs e w) = search wrote-unchanged
  writes-unchanged payload t note (writes_transport _ message _ e due is) = sent-unchanged (record { message = message; payload = payload }) (all-passed s.state due)

  reads-unchanged : (message : List ℕ) (t : Side) (step : StepValue) → SideReads s message step t → Unchanged t
  reads-unchanged message t step (accepts_handshake _ _ payload xs a) = search took-unchanged
  reads-unchanged message t step (accepts_transport _ _ payload due low is) = record { own = k.own; count = k.count; unsent = k.unsent }
  reads-unchanged message t step (refuses_message _ _ _ next bad judges) = go step next bad judges
    where
      go : (step : StepValue) (next : EndState) → GivesNoPayload step → Judges s.state message step next → Unchanged (with_state s next)
      go step next bad (accepted _ _ payload xs a) = absurd bad
      go step next bad (refused _ _ token cause r) = record { own = k.own; count = k.count; unsent = k.unsent }
      go step next bad (opened _ _ payload due low is) = absurd bad
      go step next bad (dropped _ _ due low never) = record { own = k.own; count = k.count; unsent = k.unsent }
      go step next bad (exhausted _ _ due full) = record { own = k.own; count = k.count; unsent = k.unsent }

receives-unchanged : (s t : Side) (bytes : List ℕ) (notes : List Note) → Unchanged s → SideReceives s bytes notes t → Unchanged t
receives-unchanged s t bytes notes k (is_idle _ _ step e) = k
receives-unchanged s t bytes notes k (waits _ _ e partial) = record { own = k.own; count = k.count; unsent = k.unsent }
receives-unchanged s t bytes notes k (reads_frame _ next _ _ message rest step more e is short reads on) =
    search ((receives-unchanged next t rest more (reads-unchanged s k message next step reads) on))

abbrev BothUnchanged : Sides → Type 0
BothUnchanged d = Unchanged d.initiator × Unchanged d.responder

event-unchanged : (d e : Sides) (event : Event) (notes : List (Role × Note)) → BothUnchanged d → Happens d event notes e → BothUnchanged e
event-unchanged d e event notes h (writes _ Initiator payload note next written) = (writes-unchanged d.initiator h.0 payload next note written, h.1)
event-unchanged d e event notes h (writes _ Responder payload note next written) = (h.0, writes-unchanged d.responder h.1 payload next note written)
event-unchanged d e event notes h (says_nothing _ Initiator payload why next written) = (writes-unchanged d.initiator h.0 payload next _ written, h.1)
event-unchanged d e event notes h (says_nothing _ Responder payload why next written) = (h.0, writes-unchanged d.responder h.1 payload next _ written)
event-unchanged d e event notes h (says _ Initiator payload bytes n more next heard written frame receives) = search (writes-unchanged, receives-unchanged)
event-unchanged d e event notes h (says _ Responder payload bytes n more next heard written frame receives) = search (receives-unchanged, writes-unchanged)
event-unchanged d e event notes h (delivers _ Initiator n bytes more heard frame receives) = (receives-unchanged d.initiator heard bytes more h.0 receives, h.1)
event-unchanged d e event notes h (delivers _ Responder n bytes more heard frame receives) = (h.0, receives-unchanged d.responder heard bytes more h.1 receives)
event-unchanged d e event notes h (misses _ whose n missing) = h
event-unchanged d e event notes h (injects _ Initiator bytes more heard receives) = (receives-unchanged d.initiator heard bytes more h.0 receives, h.1)
event-unchanged d e event notes h (injects _ Responder bytes more heard receives) = (h.0, receives-unchanged d.responder heard bytes more h.1 receives)

run-unchanged : (d e : Sides) (events : List Event) (notes : List (Role × Note)) → BothUnchanged d → Run d events notes e → BothUnchanged e
run-unchanged d e events notes h (run_ends _) = h
run-unchanged d e events notes h (begins _ next _ event later now more does run) = run-unchanged next e later more (event-unchanged d next event now h does) run

pub ends-frame : EndsFrame
ends-frame p a b i j events notes d run =
    let new : BothUnchanged (sides_at_start p a b i j) =
    (record { own = refl; count = refl; unsent = λ h. refl }, record { own = refl; count = refl; unsent = λ h. refl }) in
    let k = run-unchanged (sides_at_start p a b i j) d events notes new run in (k.0.own, k.1.own)
