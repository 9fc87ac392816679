-- Where a piece is cut makes no difference.
use Rattle.std.proofs.Common.{rules, ◌≡◌, ℕ, ◌+◌, List, ◌++◌, length, Bool, true, false, ◌&&◌, Some, None, if◌then◌else◌, refl, sym, ◌∙◌, ap, subst, arith, append_assoc, length-append}
use Rattle.noise_session.proofs.Common.{IsPartial, StepValue, YourTurn, Silent, More, Initiator, same_role, is_turn, Progress, idle_step, Handshaking, Open, HasEnded, EndState, progress_of, Judges, Takes, accepted, dropped, exhausted, idles, waits, judges}
use Rattle.noise_session.specs.Taking.Judges.{refused, opened}

-- the state with a piece after what it holds
abbrev holding : EndState → List ℕ → EndState
holding v a = record v { partial = v.partial ++ a }

-- an end that takes no bytes doesn't report More
turn-not : (turn : Bool) → (if turn then Some YourTurn else None) ≡ Some More → ⊥
turn-not true e = cc
turn-not false e = cc

silent-not : (silent : Bool) → (if silent then Some Silent else None) ≡ Some More → ⊥
silent-not true e = cc
silent-not false e = cc

pub idles-not : (p : Progress) → idle_step p ≡ Some More → ⊥
idles-not (Handshaking pattern role passed) e = turn-not (is_turn role passed) e
idles-not (Open role one_way sent received) e = silent-not (one_way && same_role role Initiator) e
idles-not (HasEnded role) e = cc

-- nor does a whole message come to More
pub judged-not : (v x : EndState) (m : List ℕ) (s : StepValue) → s ≡ More → Judges v m s x → ⊥
judged-not v x m s e (accepted _ _ p xs a) = cc
judged-not v x m s e (refused _ _ k c a) = cc
judged-not v x m s e (opened _ _ p opens low is) = cc
judged-not v x m s e (dropped _ _ opens low never) = cc
judged-not v x m s e (exhausted _ _ opens last) = cc

waited : (v x : EndState) (a : List ℕ) (m : ℕ) (s : StepValue) → s ≡ More → Takes v a m s x → (idle_step (progress_of v) ≡ None) × IsPartial (v.partial ++ a)
    × (x ≡ holding v a)
waited v x a m s e (idles _ _ _ idle) = absurd (idles-not (progress_of v) (idle ∙ ap (λ (t : StepValue). Some t) e))
waited v x a m s e (waits _ _ listens partial) = (listens, partial, refl)
waited v x a m s e (judges _ _ _ message rest _ _ listens is short count j) = absurd (judged-not v x message s e j)

-- what is held doesn't count where a whole message is judged
judged-partial : (v y : EndState) (a m : List ℕ) (s : StepValue) → Judges (holding v a) m s y → Judges v m s y
judged-partial v y a m s (accepted _ _ p xs accepts) = accepted v m p xs accepts
judged-partial v y a m s (refused _ _ k c refuses) = refused v m k c refuses
judged-partial v y a m s (opened _ _ p opens low is) = opened v m p opens low is
judged-partial v y a m s (dropped _ _ opens low never) = dropped v m opens low never
judged-partial v y a m s (exhausted _ _ opens last) = exhausted v m opens last

after : (v y : EndState) (a b : List ℕ) (n : ℕ) (s : StepValue) → idle_step (progress_of v) ≡ None → Takes (holding v a) b n s y
    → Takes v (a ++ b) (length a + n) s y
after v y a b n s listens (idles _ _ _ idle) = cc
after v y a b n s listens (waits _ _ still partial) =
    subst (λ (k : ℕ). Takes v (a ++ b) k More (record v { partial = (v.partial ++ a) ++ b })) (length-append a b)
    (subst (λ (h : List ℕ). Takes v (a ++ b) (length (a ++ b)) More (record v { partial = h })) (sym (append_assoc v.partial a b))
    (waits v (a ++ b) listens (subst (λ (h : List ℕ). IsPartial h) (append_assoc v.partial a b) partial)))
after v y a b n s listens (judges _ _ _ message rest _ _ still is short count j) =
    judges v y (a ++ b) message rest (length a + n) s listens (sym (append_assoc v.partial a b) ∙ is) short (omega (arith, length-append a b))
    (judged-partial v y a message s j)

-- what comes of a second part, after a first that wasn't a whole frame, comes of both in one piece
pub takes-joined : (v x y : EndState) (a b : List ℕ) (n : ℕ) (s : StepValue) → Takes v a (length a) More x → Takes x b n s y → Takes v (a ++ b) (length a + n) s y
takes-joined v x y a b n s first second = search (rules, waited, after)
