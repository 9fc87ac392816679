-- What a reader found, and that there is such a value.
use Rattle.std.proofs.Common.{◌≡◌, refl, Bool, Option, Some, None}
use Rattle.std.specs.Prelude.{◌↔◌, IfSome, IsTrue, MatchOption, is_some}

pub some-such : {A : Type 0} (P : A → Type 0) (found : Option A) (r : Bool) → r ≡ is_some found → IfSome found P
    → ((x : A) → P x → found ≡ Some x) → (IsTrue r ↔ ((x : A) × P x))
some-such P None r e value every = (λ yes. absurd (cc (yes, e)), λ h. absurd (cc (every h.0 h.1)))
some-such P (Some x) r e value every = (λ yes. (x, value), λ h. e)

pub if-both : {A : Type 0} (P Q : A → Type 0) (found : Option A) → IfSome found P → IfSome found Q → IfSome found (λ x. P x × Q x)
if-both P Q None p q = tt
if-both P Q (Some x) p q = (p, q)

pub match-such : {A : Type 0} (N : Type 0) (P : A → Type 0) (found : Option A) → IfSome found P → (found ≡ None → N) → MatchOption found N P
match-such N P None value none = none refl
match-such N P (Some x) value none = value
