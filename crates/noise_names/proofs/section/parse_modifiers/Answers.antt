use Rattle.std.proofs.Common.{rules, ◌≡◌, ◌↔◌, ℕ, List, [], ◌∷◌, ◌++◌, Bool, true, false, ◌&&◌, cond, length, map, take, drop, refl, sym, ap, ◌∙◌, subst, append_assoc, arith, Option, Some, None, Result, Err, Ok, eqb, inl, inr}
use Rattle.std.specs.Prelude.{IsTrue}
use Rattle.std.specs.Option.{ok_or}
use Rattle.std.specs.Cmp.Lexicographic.{pointwise}
use Rattle.noise_names.proofs.Common.{IsSome, IfSome, join_with_byte, length-take-le, take_all, NameFault, ModifierOrder, modifier, are_places, modifiers_read, cases_lt, eqb-true}
use Rattle.noise_names.proofs.Modifiers.{fronts, fronts-push, join-push, are_numbers, are_numbers-push, refused_at, refused_after, modifiers_read-all, too_many_places}
use Rattle.noise_names.proofs.WordLists.{take-take}
use Rattle.noise_names.proofs.section.parse_modifiers.Goals as goal

not_empty : (xs : List ℕ) → eqb (length xs) 0 ≡ false → xs ≡ [] → ⊥
not_empty [] e f = cc
not_empty (x ∷ xs) e f = cc

is_nil : (xs : List ℕ) → eqb (length xs) 0 ≡ true → xs ≡ []
is_nil [] e = refl
is_nil (x ∷ xs) e = let none : length (x ∷ xs) ≡ 0 = eqb-true (length (x ∷ xs)) 0 e in absurd (omega arith)

no_plus : (beyond more : List ℕ) → pointwise eqb (take 1 beyond) (43 ∷ []) ≡ false → beyond ≡ 43 ∷ more → ⊥
no_plus beyond more h e = let t : pointwise eqb (take 1 (43 ∷ more)) (43 ∷ []) ≡ false =
    subst (λ (bs : List ℕ). pointwise eqb (take 1 bs) (43 ∷ []) ≡ false) e h in cc

plus : (beyond more : List ℕ) → pointwise eqb (take 1 beyond) (43 ∷ []) ≡ true → more ≡ drop 1 beyond → beyond ≡ 43 ∷ more
plus [] more h e = absurd (cc)
plus (b ∷ bs) more h e = let b_is : b ≡ 43 = eqb-true b 43 (first (eqb b 43) h) in cc where
  first : (x : Bool) → x && true ≡ true → x ≡ true
  first true h = refl
  first false h = h

-- one modifier more is read
read_more : (modifiers done rest beyond more : List ℕ) (n : ℕ) → modifiers ≡ fronts done ++ rest → rest ≡ modifier n ++ beyond → beyond ≡ 43 ∷ more
    → modifiers ≡ fronts (done ++ n ∷ []) ++ more
read_more modifiers done rest beyond more n e f g = search (rules, fronts, append_assoc, fronts-push)

-- the last modifier is read
read_last : (modifiers done rest beyond : List ℕ) (n : ℕ) → modifiers ≡ fronts done ++ rest → rest ≡ modifier n ++ beyond → beyond ≡ []
    → modifiers ≡ join_with_byte 43 (map modifier (done ++ n ∷ []))
read_last modifiers done rest beyond n e f g =
    e ∙ ap (λ (bs : List ℕ). fronts done ++ bs) (f ∙ ap (λ (bs : List ℕ). modifier n ++ bs) g) ∙ sym (join-push done n)

-- what is read of the numbers
ten_more : (done old new : List ℕ) (n : ℕ) → old ≡ take 10 done → new ≡ take 10 (old ++ n ∷ []) → new ≡ take 10 (done ++ n ∷ [])
ten_more done old new n e f = f ∙ ap (λ (ns : List ℕ). take 10 (ns ++ n ∷ [])) e ∙ take-take 10 done (n ∷ [])

abbrev as_places : List ℕ → Result (List ℕ) NameFault
as_places ns = cond (are_places ns) (Ok ns) (Err ModifierOrder)

-- ten numbers are no places, nor are more
ten_places : (ns : List ℕ) → as_places (take 10 ns) ≡ as_places ns
ten_places ns = elim (cases_lt (length ns) 10) [
  | inl few ↦ ap as_places (take_all 10 ns (omega arith))
  | inr many ↦
      let ten : length (take 10 ns) ≡ 10 = length-take-le 10 ns many in
      rw (too_many_places (take 10 ns) (omega arith), too_many_places ns (omega arith)) refl
]

-- the numbers as places
made : (o : Option (List ℕ)) (ns : List ℕ) → (IsSome o ↔ IsTrue (are_places ns)) → IfSome o (λ places. places ≡ ns)
    → ok_or o ModifierOrder ≡ as_places ns
made (Some places) ns only same = let yes : are_places ns ≡ true = only.0 refl in rw yes (ap (λ (p : List ℕ). Ok p) same)
made None ns only same = at (are_places ns) refl where
  at : (b : Bool) → are_places ns ≡ b → Err ModifierOrder ≡ cond (are_places ns) (Ok ns) (Err ModifierOrder)
  at true e = absurd (let h = only.1 e in cc)
  at false e = rw e refl

pub returns-in_default : goal.returns-in_default
returns-in_default c = search (rules, refused_at, not_empty)

pub returns-in_default-strip_prefix : goal.returns-in_default-strip_prefix
returns-in_default-strip_prefix c =
    rw (refused_after c.args.modifiers.now c.loop-number.rest.now c.loop-number.invariant.0 c.in-Some.after.now c.in-Some.number c.loop-number.invariant.1
    (not_empty c.args.modifiers.now (sym c.if-is_empty.ensures)) c.in-Some.ensures.some.1 (not_empty c.in-Some.after.now (sym c.if-is_empty-2.ensures))
    (λ more e. no_plus c.in-Some.after.now more c.in_default-strip_prefix.ensures.cases e))
    refl

pub loop-number-preserved : goal.loop-number-preserved
loop-number-preserved c = (
  c.loop-number.invariant.0 ++ c.in-Some.number ∷ [],
  read_more c.args.modifiers.now c.loop-number.invariant.0 c.loop-number.rest.now c.in-Some.after.now c.in-Some-strip_prefix.more.now c.in-Some.number
      c.loop-number.invariant.1 c.in-Some.ensures.some.1
      (plus c.in-Some.after.now c.in-Some-strip_prefix.more.now c.in-Some-strip_prefix.ensures.cases.0 c.in-Some-strip_prefix.ensures.cases.1),
  are_numbers-push c.loop-number.invariant.0 c.in-Some.number c.loop-number.invariant.2 c.in-Some.ensures.some.0,
  ten_more c.loop-number.invariant.0 c.loop-number.numbers.items c.push_number.new.numbers.items c.in-Some.number c.loop-number.invariant.3
      c.push_number.ensures,
)

pub returns : goal.returns
returns c =
    let done : List ℕ = c.loop-number.invariant.0 ++ c.in-Some.number ∷ [] in
    let read : c.args.modifiers.now ≡ join_with_byte 43 (map modifier done) =
    read_last c.args.modifiers.now c.loop-number.invariant.0 c.loop-number.rest.now c.in-Some.after.now c.in-Some.number c.loop-number.invariant.1
    c.in-Some.ensures.some.1 (is_nil c.in-Some.after.now (sym c.if-is_empty-2.ensures)) in
    let numbers : are_numbers done ≡ true = are_numbers-push c.loop-number.invariant.0 c.in-Some.number c.loop-number.invariant.2 c.in-Some.ensures.some.0 in
    let ten : c.push_number.new.numbers.items ≡ take 10 done = search rules in
    let seen : c.deref.result.now ≡ take 10 done = c.deref.ensures.0 ∙ ten in
    c.ok_or.ensures.value ∙ made c.new.result c.deref.result.now c.new.ensures.some c.new.ensures.value
    ∙ ap as_places seen ∙ ten_places done ∙ sym (ap modifiers_read read ∙ modifiers_read-all done numbers)
