-- What is reported of a whole message, by what the message is.
use Rattle.std.proofs.Common.{rules, ◌≡◌, ℕ, List, refl, sym, ◌∙◌, ap, subst, arith, Result, Ok, Err}
use Rattle.noise_theorems.proofs.Common.{Role, Initiator, Responder, other, turn_from, Party, Listens, Accepts, Refuses, StepValue, EndState, Judges, MatchBool-at_true}
use Rattle.noise_handshake.specs.declared.faults.Cause.{Cause}
use Rattle.noise_handshake.specs.declared.faults.ReadFault.{ReadFault}
use Rattle.noise_handshake.specs.Matching.{DoesNotRead}
use Rattle.noise_session.specs.Steps.StepValue.{Dropped, Exhausted}
use Rattle.noise_session.specs.Taking.Judges.{dropped, exhausted}
use Rattle.noise_session.specs.Exactly.{AcceptedExactly}
use Rattle.noise_theorems.specs.Exactly.{IsDropped, HasNoNonce, ReportedExactly, IsReadResult, ReadExactly}
use Rattle.noise_handshake.specs.declared.faults.ReadFault.TheVariants as read

-- ---- what is dropped

reported-dropped : (v next : EndState) (message : List ℕ) (cause : Cause) (reported : StepValue) → Judges v message reported next → reported ≡ Dropped cause
    → IsDropped v message cause
reported-dropped v next message cause reported (dropped _ _ opens low never) e = record {
  opens = opens;
  nonce = low;
  none = λ payload encodes. never payload (MatchBool-at_true _ _ opens encodes).1;
  why = cc;
}
reported-dropped v next message cause reported _ e = absurd (cc)

reported-exhausted : (v next : EndState) (message : List ℕ) (reported : StepValue) → Judges v message reported next → reported ≡ Exhausted → HasNoNonce v
reported-exhausted v next message reported (exhausted _ _ opens last) e = record { opens = opens; nonce = last }
reported-exhausted v next message reported _ e = absurd (cc)

module _ (one : (v x y : EndState) (m : List ℕ) (s t : StepValue) → Judges v m s x → Judges v m t y → (s ≡ t) × (x ≡ y)) where
  dropped-reported : (v next : EndState) (message : List ℕ) (cause : Cause) (reported : StepValue) → Judges v message reported next → IsDropped v message cause
      → reported ≡ Dropped cause
  dropped-reported v next message cause reported j d =
      (one v next _ message reported _ j (dropped v message d.opens d.nonce (λ payload is. d.none payload (rw (d.opens) (d.nonce, is))))).0 ∙ ap Dropped (sym d.why)

  pub reported-exactly : AcceptedExactly → ReportedExactly
  reported-exactly law v next message reported j = record {
    payload = (law v next message reported j).payload;
    refused = (law v next message reported j).refused;
    dropped = λ c. (reported-dropped v next message c reported j, dropped-reported v next message c reported j);
    exhausted = (
      reported-exhausted v next message reported j,
      λ x. (one v next _ message reported Exhausted j (exhausted v message x.opens x.nonce)).0,
    );
  }

-- ---- a handshake by itself

other-apart : (role turn : Role) → turn ≡ other role → turn ≡ role → ⊥
other-apart Initiator turn e f = let bad : Initiator ≡ Responder = sym f ∙ e in cc
other-apart Responder turn e f = let bad : Responder ≡ Initiator = sym f ∙ e in cc

ok-same : (p q : List ℕ) (a : Result (List ℕ) ReadFault) → a ≡ Ok p → a ≡ Ok q → p ≡ q
ok-same p q a e f = let both = sym e ∙ f in cc

err-same : (x y : ReadFault) (a : Result (List ℕ) ReadFault) → a ≡ Err x → a ≡ Err y → x ≡ y
err-same x y a e f = let both = sym e ∙ f in cc

-- where a message is due, it isn't accepted only if it is refused
pub record IsRefused (v : Party) (message : List ℕ) (fault : ReadFault) : Type 0 where
  pub token : ℕ
  pub cause : Cause
  pub is : fault ≡ read.Refused token cause
  pub refuses : Refuses v message token cause

declined : (v : Party) (message : List ℕ) (fault : ReadFault) → Listens v → DoesNotRead v message fault → IsRefused v message fault
declined v message read.NotYourTurn l d = absurd (other-apart v.role (turn_from Initiator v.passed) l.turn d.turn)
declined v message read.Done l d = absurd (omega (arith, l.more, d.1))
declined v message read.Ended l d = absurd (let going = l.going in cc)
declined v message (read.Refused token cause) l d = record { token = token; cause = cause; is = refl; refuses = d }

module _ (one : (v : Party) (message : List ℕ) (xs ys : List (List ℕ)) (p q : List ℕ) → Accepts v message xs p → Accepts v message ys q
    → (xs ≡ ys) × (p ≡ q))
    (refused-one : (v : Party) (message : List ℕ) (k j : ℕ) (c d : Cause) → Refuses v message k c → Refuses v message j d → (k ≡ j) × (c ≡ d))
    (apart : (v : Party) (message : List ℕ) (xs : List (List ℕ)) (p : List ℕ) (k : ℕ) (c : Cause) → Accepts v message xs p → Refuses v message k c → ⊥) where
  is-payload : (v : Party) (message payload : List ℕ) (returned : Result (List ℕ) ReadFault) → IsReadResult v message returned → returned ≡ Ok payload
      → (xs : List (List ℕ)) × Accepts v message xs payload
  is-payload v message payload (Ok p) a e = (a.0, subst (λ (q : List ℕ). Accepts v message a.0 q) (ok-same p payload (Ok p) refl e) a.1)
  is-payload v message payload (Err f) a e = absurd (cc)

  payload-is : (v : Party) (message payload : List ℕ) (returned : Result (List ℕ) ReadFault) → Listens v → IsReadResult v message returned
      → (xs : List (List ℕ)) → Accepts v message xs payload → returned ≡ Ok payload
  payload-is v message payload (Ok p) l a xs b = ap Ok (one v message a.0 xs p payload a.1 b).1
  payload-is v message payload (Err f) l a xs b =
      let r = declined v message f l a in absurd (apart v message xs payload r.token r.cause b r.refuses)

  is-refused : (v : Party) (message : List ℕ) (token : ℕ) (cause : Cause) (returned : Result (List ℕ) ReadFault) → IsReadResult v message returned
      → returned ≡ Err (read.Refused token cause) → Refuses v message token cause
  is-refused v message token cause (Ok p) a e = absurd (cc)
  is-refused v message token cause (Err f) a e = search rules

  refused-is : (v : Party) (message : List ℕ) (token : ℕ) (cause : Cause) (returned : Result (List ℕ) ReadFault) → Listens v → IsReadResult v message returned
      → Refuses v message token cause → returned ≡ Err (read.Refused token cause)
  refused-is v message token cause (Ok p) l a b = absurd (apart v message a.0 p token cause a.1 b)
  refused-is v message token cause (Err f) l a b =
      let r = declined v message f l a in
      let same = refused-one v message r.token token r.cause cause r.refuses b in
      ap Err (r.is ∙ ap (λ (k : ℕ). read.Refused k r.cause) same.0 ∙ ap (λ (c : Cause). read.Refused token c) same.1)

  pub read-exactly : ReadExactly
  read-exactly v message returned l a = record {
    payload = λ p. (is-payload v message p returned a, λ e. payload-is v message p returned l a e.0 e.1);
    refused = λ k c. (is-refused v message k c returned a, refused-is v message k c returned l a);
  }
