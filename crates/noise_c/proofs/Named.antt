-- A name is of one pattern.
use Rattle.std.proofs.Common.{◌≡◌, ℕ, suc, List, [], ◌∷◌, length, ap, refl, sym, subst, ◌∙◌, arith}
use Rattle.std.specs.Prelude.{Ok, true}
use Rattle.std.proofs.lemmas.Option.{same_Some}
use Rattle.noise_c.proofs.Common.{Result, ◌==◌, Some, nat_tests, Plan, IsPatternOfName}
use Rattle.noise_names.specs.declared.faults.NameFault.{NameFault}
use Rattle.noise_names.specs.Names.{Section, Names}
use Rattle.noise_names.specs.Placing.{none-beyond, placed-once}
use Rattle.noise_names.specs.Fundamental.{fundamental_of}
use Rattle.noise_names.specs.Limits.{Placed, first_beyond}

ok-same : {A : Type 0} {B : Type 0} (a b : A) → ◌≡◌ {A = Result A B} (Ok a) (Ok b) → a ≡ b
ok-same a b e = cc

pub pattern-one : (name : List ℕ) (section : Section) (base places : List ℕ) (plain p q : Plan)
    → ((s : Section) → Names name s → ◌≡◌ {A = Result Section NameFault} (Ok section) (Ok s)) → base ≡ section.base → places ≡ section.places
    → fundamental_of base ≡ Some plain → Placed plain places p → IsPatternOfName name q → q ≡ p
pattern-one name section base places plain p q every b l known placed h =
    let s : section ≡ h.section = ok-same section h.section (every h.section h.names) in
    let k : fundamental_of base ≡ Some h.plain = ap fundamental_of (b ∙ ap (λ (z : Section). z.base) s) ∙ h.known in
    let e : plain ≡ h.plain = same_Some plain h.plain (sym known ∙ k) in
    let u : h.section.places ≡ places = sym (l ∙ ap (λ (z : Section). z.places) s) in
    let other : Placed plain places q = subst (λ (z : List ℕ). Placed plain z q) u (subst (λ (z : Plan). Placed z h.section.places q) (sym e) h.placed) in
    placed-once plain places q p other placed

-- ---- psk places

pub no-places : (ns : List ℕ) → (length ns == 0) ≡ true → ns ≡ []
no-places [] e = refl
no-places (n ∷ ns) e = absurd (omega (arith, count (length ns) e)) where
  count : (k : ℕ) → (suc k == 0) ≡ true → suc k ≡ 0
  count k h = grind (arith, nat_tests)

-- the places of a name of a pattern aren't beyond its messages
pub pattern-fits : (name : List ℕ) (section : Section) (base places : List ℕ) (plain q : Plan) (n : ℕ)
    → ((s : Section) → Names name s → ◌≡◌ {A = Result Section NameFault} (Ok section) (Ok s)) → base ≡ section.base → places ≡ section.places
    → fundamental_of base ≡ Some plain → first_beyond plain places ≡ Some n → IsPatternOfName name q → ⊥
pattern-fits name section base places plain q n every b l known beyond h =
    let s : section ≡ h.section = ok-same section h.section (every h.section h.names) in
    let k : fundamental_of base ≡ Some h.plain = ap fundamental_of (b ∙ ap (λ (z : Section). z.base) s) ∙ h.known in
    let e : plain ≡ h.plain = same_Some plain h.plain (sym known ∙ k) in
    let u : places ≡ h.section.places = l ∙ ap (λ (z : Section). z.places) s in
    none-beyond h.plain h.section.places q n h.placed
    (ap (λ (z : Plan). first_beyond z h.section.places) (sym e) ∙ ap (λ (zs : List ℕ). first_beyond plain zs) (sym u) ∙ beyond)
