-- In every run the payloads that a report reports of are those of the messages that the ends wrote and accepted.
use Rattle.std.proofs.Common.{rules, ◌≡◌, ℕ, ◌+◌, ◌<◌, List, ◌∷◌, ◌++◌, length, refl, ap, sym, subst, ◌∙◌, arith, append-nil, append_assoc, length-append, []}
use Rattle.std.proofs.lemmas.Grind.{flat_map-append}
use Rattle.std.specs.List.{flat_map}
use Rattle.std.specs.Prelude.{zero, suc, Err}
use Rattle.std.proofs.lemmas.Bool.Decides.{nat_tests}
use Rattle.noise_theorems.proofs.Common.{map-append, ◌==◌, Bool, true, false, IsTrue, if◌then◌else◌, Role, Initiator, Responder, other, same_role, turn_from, Plan, is_one_way, Party, StepValue, is_open, EndState, ended_session, end_of, progress_of, Judges, Event, sides_at_start, contents, HandshakeMessage, Start, begun_as, Note, Wrote, WriteFault, Judged, held_note, left_note, noted_by, TransportMessage, Side, Sides, new_side, with_state, wrote_handshake, accepted_handshake, wrote_transport, accepted_transport, notes_about, payload_reported, payload_given, was_written, done_of, own_payloads, PayloadsAreReported}
use Rattle.noise_session.specs.declared.faults.SendFault.{SendFault}
use Rattle.noise_session.specs.declared.faults.SendFault.TheVariants.{Agreement}
use Rattle.noise_session.specs.Faults.{ends}
use Rattle.noise_session.specs.Steps.StepValue.{Payload}
use Rattle.noise_session.specs.Progress.Progress.{Handshaking, Open, HasEnded}
use Rattle.noise_session.specs.Taking.Judges.{accepted, refused, opened, dropped, exhausted}
use Rattle.noise_session.specs.Sending.{Sends, after_fault}
use Rattle.noise_session.specs.Sending.Sends.{refuses, lacks_dh_result}
use Rattle.noise_duel.specs.Runs.{SideWrites, SideReads, SideReceives, Happens, Run, GivesNoPayload}
use Rattle.noise_duel.specs.Runs.SideWrites.{writes_nothing, writes_handshake, writes_transport}
use Rattle.noise_duel.specs.Runs.SideReads.{accepts_handshake, accepts_transport, refuses_message}
use Rattle.noise_duel.specs.Runs.SideReceives.{is_idle, waits, reads_frame}
use Rattle.noise_duel.specs.Runs.Happens.{writes, says_nothing, says, delivers, misses, injects}
use Rattle.noise_duel.specs.Runs.Run.{ends as run_ends, begins}
use Rattle.noise_names.specs.Roles.{same_role-self, same_role-other, other-same_role}

-- no message of the handshake is due at an end that is open
none-due : (v : EndState) → IsTrue (is_open (progress_of v)) → v.party.passed < length v.party.pattern.messages → ⊥
none-due v opens more = go v.party.ended (v.party.passed == length v.party.pattern.messages) refl opens
  where
    go : (ended all : Bool) → (v.party.passed == length v.party.pattern.messages) ≡ all
        → IsTrue (is_open (if ended then HasEnded v.party.role else if all then Open v.party.role (is_one_way v.party.pattern) v.sent v.received
        else Handshaking v.party.pattern v.party.role v.party.passed)) → ⊥
    go false true e h = grind (arith, nat_tests)
    go _ _ e h = cc

-- ---- lists

done-append : (ps qs : List (List ℕ)) (bs cs : List Bool) → length ps ≡ length bs → done_of (ps ++ qs) (bs ++ cs) ≡ done_of ps bs ++ done_of qs cs
done-append [] qs [] cs e = refl
done-append (p ∷ ps) qs (b ∷ bs) cs e = search (append_assoc, (done-append ps qs bs cs (omega (arith, e))))
done-append _ qs _ cs e = absurd (omega (arith, e))

-- a list in between that is empty
moved : (xs ys zs : List (List ℕ)) → zs ≡ [] → (xs ++ ys) ++ zs ≡ (xs ++ zs) ++ ys
moved xs ys zs e = search rules

own-more : (role : Role) (n : ℕ) (ps : List HandshakeMessage) (p : HandshakeMessage)
    → own_payloads role n (ps ++ p ∷ []) ≡ own_payloads role n ps ++ (if same_role (turn_from Initiator (n + length ps)) role then p.payload ∷ [] else [])
own-more role n [] p = search rules
own-more role n (q ∷ qs) p = search (rules, (own-more role (n + 1) qs p))

-- ---- one end

module _ (plan : Plan) (role : Role) where
  abbrev mine : Side → List (List ℕ)
  mine s = own_payloads role 0 s.passed ++ contents s.sent

  abbrev theirs : Side → List (List ℕ)
  theirs s = own_payloads (other role) 0 s.passed ++ contents s.received

  -- what is kept of an end
  pub record Unchanged (s : Side) : Type 0 where
    pub role_is : s.state.party.role ≡ role
    pub pattern_is : s.state.party.pattern ≡ plan
    pub count : length s.passed ≡ s.state.party.passed
    pub unsent : s.state.party.passed < length s.state.party.pattern.messages → s.sent ≡ []
    pub unheard : s.state.party.passed < length s.state.party.pattern.messages → s.received ≡ []

  -- what events and notes say of an end: those of the given payloads that are noted were written, and the noted ones accepted
  pub record Took (s t : Side) (given : List (List ℕ)) (notes : List Note) : Type 0 where
    pub unchanged : Unchanged t
    pub even : length given ≡ length (flat_map was_written notes)
    pub written : mine t ≡ mine s ++ done_of given (flat_map was_written notes)
    pub heard : theirs t ≡ theirs s ++ flat_map payload_reported notes

  both : (s t u : Side) (given more : List (List ℕ)) (notes later : List Note) → Took s t given notes → Took t u more later
      → Took s u (given ++ more) (notes ++ later)
  both s t u given more notes later x y =
      let flags = flat_map-append was_written notes later in
      let b : List (List ℕ) = done_of more (flat_map was_written later) in
      let d : List (List ℕ) = flat_map payload_reported later in
      record {
        unchanged = y.unchanged;
        even = length-append given more
            ∙ ap (λ (n : ℕ). n + length more) x.even ∙ ap (λ (n : ℕ). length (flat_map was_written notes) + n) y.even
            ∙ sym (length-append (flat_map was_written notes) (flat_map was_written later)) ∙ ap length (sym flags);
        written = y.written ∙ ap (λ (z : List (List ℕ)). z ++ b) x.written ∙ append_assoc (mine s) (done_of given (flat_map was_written notes)) b
            ∙ ap (λ (z : List (List ℕ)). mine s ++ z) (sym (done-append given more (flat_map was_written notes) (flat_map was_written later) x.even)
            ∙ ap (done_of (given ++ more)) (sym flags));
        heard = y.heard ∙ ap (λ (z : List (List ℕ)). z ++ d) x.heard ∙ append_assoc (theirs s) (flat_map payload_reported notes) d
            ∙ ap (λ (z : List (List ℕ)). theirs s ++ z) (sym (flat_map-append payload_reported notes later));
      }

  -- nothing was written or accepted
  idle : (s : Side) (next : EndState) → Unchanged (with_state s next) → Took s (with_state s next) [] []
  idle s next k = record { unchanged = k; even = refl; written = sym (append-nil (mine s)); heard = sym (append-nil (theirs s)) }

  still : (s : Side) → Unchanged s → Took s s [] []
  still s k = record { unchanged = k; even = refl; written = sym (append-nil (mine s)); heard = sym (append-nil (theirs s)) }

  module _ (s : Side) (k : Unchanged s) where
    due-more : (r t : Role) (q : HandshakeMessage) → turn_from Initiator s.state.party.passed ≡ t
        → own_payloads r 0 (s.passed ++ q ∷ []) ≡ own_payloads r 0 s.passed ++ (if same_role t r then q.payload ∷ [] else [])
    due-more r t q turn =
        let at : 0 + length s.passed ≡ s.state.party.passed = omega (arith, k.count) in
        own-more r 0 s.passed q
        ∙ ap (λ (z : Role). own_payloads r 0 s.passed ++ (if same_role z r then q.payload ∷ [] else [])) (ap (turn_from Initiator) at ∙ turn)

    due-by : (r t : Role) (b : Bool) (q : HandshakeMessage) → turn_from Initiator s.state.party.passed ≡ t → same_role t r ≡ b
        → own_payloads r 0 (s.passed ++ q ∷ []) ≡ own_payloads r 0 s.passed ++ (if b then q.payload ∷ [] else [])
    due-by r t b q turn e =
        due-more r t q turn ∙ ap (λ (z : Bool). own_payloads r 0 s.passed ++ (if z then q.payload ∷ [] else [])) e

    counted : (q : HandshakeMessage) → length (s.passed ++ q ∷ []) ≡ s.state.party.passed + 1
    counted q = omega (arith, length-append s.passed (q ∷ []), k.count)

    wrote-took : (q : HandshakeMessage) (n : ℕ) → turn_from Initiator s.state.party.passed ≡ s.state.party.role
        → s.state.party.passed < length s.state.party.pattern.messages → Took s (wrote_handshake s q) (q.payload ∷ []) (Wrote n ∷ [])
    wrote-took q n turn more =
        let none : s.sent ≡ [] = k.unsent more in
        record {
          unchanged = record { role_is = k.role_is; pattern_is = k.pattern_is; count = counted q; unsent = λ h. none; unheard = λ h. k.unheard more };
          even = refl;
          written = ap (λ (z : List (List ℕ)). z ++ contents s.sent) (due-by role role true q (turn ∙ k.role_is) (same_role-self role))
              ∙ moved (own_payloads role 0 s.passed) (q.payload ∷ []) (contents s.sent) (ap contents none);
          heard = ap (λ (z : List (List ℕ)). z ++ contents s.received)
              (due-by (other role) role false q (turn ∙ k.role_is) (other-same_role role) ∙ append-nil (own_payloads (other role) 0 s.passed))
              ∙ sym (append-nil (theirs s));
        }

    took-took : (q : HandshakeMessage) → turn_from Initiator s.state.party.passed ≡ other s.state.party.role
        → s.state.party.passed < length s.state.party.pattern.messages → Took s (accepted_handshake s q) [] (Judged (Payload q.payload) ∷ [])
    took-took q turn more =
        let none : s.received ≡ [] = k.unheard more in
        record {
          unchanged = record { role_is = k.role_is; pattern_is = k.pattern_is; count = counted q; unsent = λ h. k.unsent more; unheard = λ h. none };
          even = refl;
          written = ap (λ (z : List (List ℕ)). z ++ contents s.sent)
              (due-by role (other role) false q (turn ∙ ap other k.role_is) (same_role-other role) ∙ append-nil (own_payloads role 0 s.passed))
              ∙ sym (append-nil (mine s));
          heard = ap (λ (z : List (List ℕ)). z ++ contents s.received)
              (due-by (other role) (other role) true q (turn ∙ ap other k.role_is) (same_role-self (other role)))
              ∙ moved (own_payloads (other role) 0 s.passed) (q.payload ∷ []) (contents s.received) (ap contents none);
        }

    sent-took : (m : TransportMessage) (n : ℕ) → (s.state.party.passed < length s.state.party.pattern.messages → ⊥)
        → Took s (wrote_transport s m) (m.payload ∷ []) (Wrote n ∷ [])
    sent-took m n all = record {
      unchanged = record {
        role_is = k.role_is;
        pattern_is = k.pattern_is;
        count = k.count;
        unsent = λ h. absurd (all h);
        unheard = k.unheard;
      };
      even = refl;
      written = ap (λ (z : List (List ℕ)). own_payloads role 0 s.passed ++ z) (map-append (λ (z : TransportMessage). z.payload) s.sent (m ∷ []))
          ∙ sym (append_assoc (own_payloads role 0 s.passed) (contents s.sent) (m.payload ∷ []));
      heard = sym (append-nil (theirs s));
    }

    received-took : (m : TransportMessage) → (s.state.party.passed < length s.state.party.pattern.messages → ⊥)
        → Took s (accepted_transport s m) [] (Judged (Payload m.payload) ∷ [])
    received-took m all = record {
      unchanged = record {
        role_is = k.role_is;
        pattern_is = k.pattern_is;
        count = k.count;
        unsent = k.unsent;
        unheard = λ h. absurd (all h);
      };
      even = refl;
      written = sym (append-nil (mine s));
      heard = ap (λ (z : List (List ℕ)). own_payloads (other role) 0 s.passed ++ z)
          (map-append (λ (z : TransportMessage). z.payload) s.received (m ∷ []))
          ∙ sym (append_assoc (own_payloads (other role) 0 s.passed) (contents s.received) (m.payload ∷ []));
    }

    -- an end that writes
    writes-took : (payload : List ℕ) (t : Side) (note : Note) → SideWrites s payload note t → Took s t (payload ∷ []) (note ∷ [])
    writes-took payload t note (writes_nothing _ _ why next sends) = go why next sends
      where
        after-unchanged : (b : Bool) → Unchanged (with_state s (if b then ended_session s.state else s.state))
        after-unchanged true = record { role_is = k.role_is; pattern_is = k.pattern_is; count = k.count; unsent = k.unsent; unheard = k.unheard }
        after-unchanged false = record { role_is = k.role_is; pattern_is = k.pattern_is; count = k.count; unsent = k.unsent; unheard = k.unheard }

        none : (why : SendFault) (next : EndState) → Unchanged (with_state s next) → Took s (with_state s next) (payload ∷ []) (WriteFault why ∷ [])
        none why next unchanged = record { unchanged = unchanged; even = refl; written = sym (append-nil (mine s)); heard = sym (append-nil (theirs s)) }

        go : (why : SendFault) (next : EndState) → Sends s.state payload (Err why) next
            → Took s (with_state s next) (payload ∷ []) (WriteFault why ∷ [])
        go why next (refuses _ _ _ e) = none why (after_fault s.state why) (after-unchanged (ends why))
        go why next (lacks_dh_result _ _ token e lacks) = none (Agreement token) (ended_session s.state) (after-unchanged true)
    writes-took payload t note (writes_handshake _ message _ xs e w) =
        wrote-took (record { message = message; carried = xs; payload = payload }) (length s.frames) w.speaks.turn w.speaks.more
    writes-took payload t note (writes_transport _ message _ e due is) =
        sent-took (record { message = message; payload = payload }) (length s.frames) (none-due s.state due)

    -- an end that reads a message
    reads-took : (message : List ℕ) (t : Side) (step : StepValue) → SideReads s message step t → Took s t [] (Judged step ∷ [])
    reads-took message t step (accepts_handshake _ _ payload xs a) =
        took-took (record { message = message; carried = xs; payload = payload }) a.listens.turn a.listens.more
    reads-took message t step (accepts_transport _ _ payload due low is) =
        received-took (record { message = message; payload = payload }) (none-due s.state due)
    reads-took message t step (refuses_message _ _ _ next bad judges) = go step next bad judges
      where
        go : (step : StepValue) (next : EndState) → GivesNoPayload step → Judges s.state message step next → Took s (with_state s next) [] (Judged step ∷ [])
        go step next bad (accepted _ _ payload xs a) = absurd bad
        go step next bad (refused _ _ token cause r) = record {
          unchanged = record { role_is = k.role_is; pattern_is = k.pattern_is; count = k.count; unsent = k.unsent; unheard = k.unheard };
          even = refl;
          written = sym (append-nil (mine s));
          heard = sym (append-nil (theirs s));
        }
        go step next bad (opened _ _ payload due low is) = absurd bad
        go step next bad (dropped _ _ due low never) = record {
          unchanged = record { role_is = k.role_is; pattern_is = k.pattern_is; count = k.count; unsent = k.unsent; unheard = k.unheard };
          even = refl;
          written = sym (append-nil (mine s));
          heard = sym (append-nil (theirs s));
        }
        go step next bad (exhausted _ _ due full) = record {
          unchanged = record { role_is = k.role_is; pattern_is = k.pattern_is; count = k.count; unsent = k.unsent; unheard = k.unheard };
          even = refl;
          written = sym (append-nil (mine s));
          heard = sym (append-nil (theirs s));
        }

  left-took : (s : Side) (step : StepValue) (n : ℕ) → Unchanged s → Took s s [] (left_note step n)
  left-took s step zero k = still s k
  left-took s step (suc n) k = record { unchanged = k; even = refl; written = sym (append-nil (mine s)); heard = sym (append-nil (theirs s)) }

  partial-took : (s : Side) (n : ℕ) → Unchanged s → Took s s [] (held_note n)
  partial-took s zero k = still s k
  partial-took s (suc n) k = record { unchanged = k; even = refl; written = sym (append-nil (mine s)); heard = sym (append-nil (theirs s)) }

  -- an end that bytes come to
  receives-took : (s t : Side) (bytes : List ℕ) (notes : List Note) → Unchanged s → SideReceives s bytes notes t → Took s t [] notes
  receives-took s t bytes notes k (is_idle _ _ step e) = left-took s step (length bytes) k
  receives-took s t bytes notes k (waits _ _ e partial) =
      idle s (record (s.state) { partial = s.state.partial ++ bytes })
      (record { role_is = k.role_is; pattern_is = k.pattern_is; count = k.count; unsent = k.unsent; unheard = k.unheard })
  receives-took s t bytes notes k (reads_frame _ next _ _ message rest step more e is short reads on) =
      let first : Took s next [] (Judged step ∷ []) = reads-took s k message next step reads in
      both s next t [] [] (Judged step ∷ []) more first (receives-took next t rest more first.unchanged on)

  comes-took : (s t : Side) (bytes : List ℕ) (notes : List Note) → Unchanged s → SideReceives s bytes notes t
      → Took s t [] (notes ++ held_note (length t.state.partial))
  comes-took s t bytes notes k receives =
      let came : Took s t [] notes = receives-took s t bytes notes k receives in
      both s t t [] [] notes (held_note (length t.state.partial)) came (partial-took t (length t.state.partial) came.unchanged)

-- ---- both ends

noted-own : (role : Role) (notes : List Note) → notes_about role (noted_by role notes) ≡ notes
noted-own Initiator (n ∷ notes) = ap (λ (z : List Note). n ∷ z) (noted-own Initiator notes)
noted-own Responder (n ∷ notes) = ap (λ (z : List Note). n ∷ z) (noted-own Responder notes)
noted-own _ [] = refl

noted-other : (role : Role) (notes : List Note) → notes_about (other role) (noted_by role notes) ≡ []
noted-other Initiator (n ∷ notes) = noted-other Initiator notes
noted-other Responder (n ∷ notes) = noted-other Responder notes
noted-other _ [] = refl

module _ (plan : Plan) (role : Role) where
  hears : (s t : Side) (bytes : List ℕ) (notes : List Note) → Unchanged plan role s → SideReceives s bytes notes t
      → Took plan role s t [] (notes_about role (noted_by role (notes ++ held_note (length t.state.partial))))
  hears s t bytes notes k receives = search (noted-own, comes-took)

  joined : (s t u : Side) (given more : List (List ℕ)) (notes later : List (Role × Note)) → Took plan role s t given (notes_about role notes)
      → Took plan role t u more (notes_about role later) → Took plan role s u (given ++ more) (notes_about role (notes ++ later))
  joined s t u given more notes later x y = search (flat_map-append, both)

  -- the other end's notes
  apart : (s : Side) (notes : List Note) → Unchanged plan role s → notes_about role (noted_by (other role) notes) ≡ []
      → Took plan role s s [] (notes_about role (noted_by (other role) notes))
  apart s notes k e = let P : List Note → Type 0 = λ ns. Took plan role s s [] ns in subst P (sym e) (still plan role s k)

  said : (s t : Side) (payload : List ℕ) (n : ℕ) (notes : List Note) → Took plan role s t (payload ∷ []) (Wrote n ∷ [])
      → notes_about role (noted_by (other role) notes) ≡ []
      → Took plan role s t (payload ∷ []) (Wrote n ∷ notes_about role (noted_by (other role) notes))
  said s t payload n notes took e = search

module _ (plan : Plan) where
  -- what is said of both ends
  record Both (d e : Sides) (first second : List (List ℕ)) (notes : List (Role × Note)) : Type 0 where
    initiator : Took plan Initiator d.initiator e.initiator first (notes_about Initiator notes)
    responder : Took plan Responder d.responder e.responder second (notes_about Responder notes)

  event-took : (d e : Sides) (event : Event) (notes : List (Role × Note)) → Unchanged plan Initiator d.initiator → Unchanged plan Responder d.responder
      → Happens d event notes e → Both d e (payload_given Initiator event) (payload_given Responder event) notes
  event-took d e event notes h k (writes _ Initiator payload note next written) = record {
    initiator = writes-took plan Initiator d.initiator h payload next note written;
    responder = still plan Responder d.responder k;
  }
  event-took d e event notes h k (writes _ Responder payload note next written) = record {
    initiator = still plan Initiator d.initiator h;
    responder = writes-took plan Responder d.responder k payload next note written;
  }
  event-took d e event notes h k (says_nothing _ Initiator payload why next written) = record {
    initiator = writes-took plan Initiator d.initiator h payload next (WriteFault why) written;
    responder = still plan Responder d.responder k;
  }
  event-took d e event notes h k (says_nothing _ Responder payload why next written) = record {
    initiator = still plan Initiator d.initiator h;
    responder = writes-took plan Responder d.responder k payload next (WriteFault why) written;
  }
  event-took d e event notes h k (says _ Initiator payload bytes n more next heard written frame receives) =
      let all : List Note = more ++ held_note (length heard.state.partial) in
      record {
        initiator = said plan Initiator d.initiator next payload n all
            (writes-took plan Initiator d.initiator h payload next (Wrote n) written) (noted-other Responder all);
        responder = hears plan Responder d.responder heard bytes more k receives;
      }
  event-took d e event notes h k (says _ Responder payload bytes n more next heard written frame receives) =
      let all : List Note = more ++ held_note (length heard.state.partial) in
      record {
        initiator = hears plan Initiator d.initiator heard bytes more h receives;
        responder = said plan Responder d.responder next payload n all
            (writes-took plan Responder d.responder k payload next (Wrote n) written) (noted-other Initiator all);
      }
  event-took d e event notes h k (delivers _ Initiator n bytes more heard frame receives) =
      let all : List Note = more ++ held_note (length heard.state.partial) in
      record {
        initiator = hears plan Initiator d.initiator heard bytes more h receives;
        responder = apart plan Responder d.responder all k (noted-other Initiator all);
      }
  event-took d e event notes h k (delivers _ Responder n bytes more heard frame receives) =
      let all : List Note = more ++ held_note (length heard.state.partial) in
      record {
        initiator = apart plan Initiator d.initiator all h (noted-other Responder all);
        responder = hears plan Responder d.responder heard bytes more k receives;
      }
  event-took d e event notes h k (misses _ Initiator n missing) = record {
    initiator = record { unchanged = h; even = refl; written = sym (append-nil _); heard = sym (append-nil _) };
    responder = still plan Responder d.responder k;
  }
  event-took d e event notes h k (misses _ Responder n missing) = record {
    initiator = still plan Initiator d.initiator h;
    responder = record { unchanged = k; even = refl; written = sym (append-nil _); heard = sym (append-nil _) };
  }
  event-took d e event notes h k (injects _ Initiator bytes more heard receives) =
      let all : List Note = more ++ held_note (length heard.state.partial) in
      record {
        initiator = hears plan Initiator d.initiator heard bytes more h receives;
        responder = apart plan Responder d.responder all k (noted-other Initiator all);
      }
  event-took d e event notes h k (injects _ Responder bytes more heard receives) =
      let all : List Note = more ++ held_note (length heard.state.partial) in
      record {
        initiator = apart plan Initiator d.initiator all h (noted-other Responder all);
        responder = hears plan Responder d.responder heard bytes more k receives;
      }

  run-took : (d e : Sides) (events : List Event) (notes : List (Role × Note)) → Unchanged plan Initiator d.initiator → Unchanged plan Responder d.responder
      → Run d events notes e → Both d e (flat_map (payload_given Initiator) events) (flat_map (payload_given Responder) events) notes
  run-took d e events notes h k (run_ends _) = record { initiator = still plan Initiator d.initiator h; responder = still plan Responder d.responder k }
  run-took d e events notes h k (begins _ next _ event later now more does run) =
      let here = event-took d next event now h k does in
      let on = run-took next e later more here.initiator.unchanged here.responder.unchanged run in
      record {
        initiator = joined plan Initiator d.initiator next.initiator e.initiator (payload_given Initiator event)
            (flat_map (payload_given Initiator) later) now more here.initiator on.initiator;
        responder = joined plan Responder d.responder next.responder e.responder (payload_given Responder event)
            (flat_map (payload_given Responder) later) now more here.responder on.responder;
      }

-- a new end
new-unchanged : (plan : Plan) (role : Role) (party : Party) (interval : ℕ) → party.role ≡ role → party.pattern ≡ plan → party.passed ≡ 0
    → Unchanged plan role (new_side (end_of party interval))
new-unchanged plan role party interval e f g = record { role_is = e; pattern_is = f; count = sym g; unsent = λ h. refl; unheard = λ h. refl }

pub ends-unchanged : (p : Plan) (a b : Start) (i j : ℕ) (events : List Event) (notes : List (Role × Note)) (d : Sides)
    → Run (sides_at_start p a b i j) events notes d → Unchanged p Initiator d.initiator × Unchanged p Responder d.responder
ends-unchanged p a b i j events notes d run =
    let k = run-took p (sides_at_start p a b i j) d events notes (new-unchanged p Initiator (begun_as p Initiator a) i refl refl refl)
    (new-unchanged p Responder (begun_as p Responder b) j refl refl refl) run in
    (k.initiator.unchanged, k.responder.unchanged)

pub payloads-are-reported : PayloadsAreReported
payloads-are-reported p a b i j events notes d run =
    let k = run-took p (sides_at_start p a b i j) d events notes (new-unchanged p Initiator (begun_as p Initiator a) i refl refl refl)
    (new-unchanged p Responder (begun_as p Responder b) j refl refl refl) run in (
      record { written = sym k.initiator.written; reported = sym k.initiator.heard },
      record { written = sym k.responder.written; reported = sym k.responder.heard },
    )
