-- What is reported of a whole message, by what the message is.
use Rattle.std.proofs.Common.{rules, ◌≡◌, ℕ, List, refl}
use Rattle.std.specs.Prelude.{Bool, true, false, IsTrue}
use Rattle.noise_session.proofs.Common.{MatchBool, Cause, Refuses, StepValue, Payload, Refused, is_open, EndState, progress_of, Judges, accepted, dropped, exhausted}
use Rattle.noise_session.specs.Taking.Judges.{refused, opened}
use Rattle.noise_session.specs.Exactly.{Encodes, AcceptedExactly}

either-way : (b : Bool) (P Q R : Type 0) → MatchBool b P Q → (IsTrue b → P → R) → (Q → R) → R
either-way true P Q R m f g = f refl m
either-way false P Q R m f g = g m

reported-encodes : (v next : EndState) (message payload : List ℕ) (reported : StepValue) → Judges v message reported next → reported ≡ Payload payload → Encodes v message payload
reported-encodes v next message payload reported (accepted _ _ p xs a) e = search rules
reported-encodes v next message payload reported (refused _ _ k c a) e = absurd (cc)
reported-encodes v next message payload reported (opened _ _ p opens low is) e = search rules
reported-encodes v next message payload reported (dropped _ _ opens low never) e = absurd (cc)
reported-encodes v next message payload reported (exhausted _ _ opens last) e = absurd (cc)

reported-refuses : (v next : EndState) (message : List ℕ) (token : ℕ) (cause : Cause) (reported : StepValue) → Judges v message reported next → reported ≡ Refused token cause
    → Refuses v.party message token cause
reported-refuses v next message token cause reported (accepted _ _ p xs a) e = absurd (cc)
reported-refuses v next message token cause reported (refused _ _ k c a) e = search rules
reported-refuses v next message token cause reported (opened _ _ p opens low is) e = absurd (cc)
reported-refuses v next message token cause reported (dropped _ _ opens low never) e = absurd (cc)
reported-refuses v next message token cause reported (exhausted _ _ opens last) e = absurd (cc)

pub accepted-exactly : ((v x y : EndState) (m : List ℕ) (s t : StepValue) → Judges v m s x → Judges v m t y → (s ≡ t) × (x ≡ y)) → AcceptedExactly
accepted-exactly one v next message reported j = record {
  payload = λ p. (
    reported-encodes v next message p reported j,
    λ e. either-way (is_open (progress_of v)) _ _ (reported ≡ Payload p) e
        (λ opens here. (one v next _ message reported (Payload p) j (opened v message p opens here.0 here.1)).0)
        (λ here. (one v next _ message reported (Payload p) j (accepted v message p here.0 here.1)).0),
  );
  refused = λ k c. (reported-refuses v next message k c reported j, λ r. (one v next _ message reported (Refused k c) j (refused v message k c r)).0);
}
