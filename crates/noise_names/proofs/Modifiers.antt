-- The modifiers of a pattern section: what spells them, and that nothing else does.
use Rattle.std.proofs.Common.{rules, ◌≡◌, ℕ, ◌+◌, ◌-◌, ◌<◌, ◌≤◌, Bool, true, false, ◌&&◌, not, cond, eqb, leb, ltb, List, [], ◌∷◌, ◌++◌, Ok, Err, refl, ap, sym, ◌∙◌, map, length, arith}
use Rattle.noise_names.proofs.Common.{list_all, join_with_byte, slice_split, nat_tests, join_with_byte-slice_split, ModifierOrder, modifier, pieces_of, is_modifier, digit_of, rises, are_places, number_in, modifiers_read, and_from, and_parts, leb-true, eqb-true, le-leb, cons-same}
use Rattle.noise_names.proofs.Numbers.{places_from-few, are_places-from}

-- these numbers have a digit
abbrev pub are_numbers : List ℕ → Bool
are_numbers ns = list_all (λ n. leb n 8) ns

-- modifiers with a + after each
abbrev pub fronts : List ℕ → List ℕ
fronts [] = []
fronts (n ∷ ns) = modifier n ++ 43 ∷ fronts ns

pub fronts-push : (ns : List ℕ) (n : ℕ) → fronts (ns ++ n ∷ []) ≡ fronts ns ++ (modifier n ++ 43 ∷ [])
fronts-push [] n = refl
fronts-push (m ∷ ns) n = ap (λ (bs : List ℕ). modifier m ++ 43 ∷ bs) (fronts-push ns n)

pub join-push : (ns : List ℕ) (n : ℕ) → join_with_byte 43 (map modifier (ns ++ n ∷ [])) ≡ fronts ns ++ modifier n
join-push [] n = refl
join-push (m ∷ []) n = refl
join-push (m ∷ k ∷ ns) n = ap (λ (bs : List ℕ). modifier m ++ 43 ∷ bs) (join-push (k ∷ ns) n)

pub are_numbers-push : (ns : List ℕ) (n : ℕ) → are_numbers ns ≡ true → n ≤ 8 → are_numbers (ns ++ n ∷ []) ≡ true
are_numbers-push [] n h l = grind (arith, nat_tests)
are_numbers-push (m ∷ ns) n h l =
    let a : (leb m 8 ≡ true) × (are_numbers ns ≡ true) = and_parts (leb m 8) (are_numbers ns) h in
    rw (a.0) (are_numbers-push ns n a.1 l)

-- modifiers that begin with some others
pub record IsLeft (rest : List ℕ) : Type 0 where
  pub number : ℕ
  pub others : List ℕ
  pub small : number ≤ 8
  pub spelled : rest ≡ join_with_byte 43 (map modifier (number ∷ others))

pub left_over : (done : List ℕ) (n : ℕ) (ns rest : List ℕ) → are_numbers (n ∷ ns) ≡ true → fronts done ++ rest ≡ join_with_byte 43 (map modifier (n ∷ ns))
    → IsLeft rest
left_over [] n ns rest h e = record { number = n; others = ns; small = leb-true n 8 (and_parts (leb n 8) (are_numbers ns) h).0; spelled = e }
left_over (d ∷ done) n [] rest h e = absurd (cc)
left_over (d ∷ done) n (m ∷ ns) rest h e =
    let more : fronts done ++ rest ≡ join_with_byte 43 (map modifier (m ∷ ns)) = cc in
    left_over done m ns rest (and_parts (leb n 8) (are_numbers (m ∷ ns)) h).1 more

-- a modifier and its number
pub modifier_is : (piece : List ℕ) → is_modifier piece ≡ true → (piece ≡ modifier (number_in piece)) × (number_in piece ≤ 8)
modifier_is (a ∷ b ∷ c ∷ d ∷ []) h =
    let last = and_parts (((eqb 112 a && (eqb 115 b && (eqb 107 c && true))) && true) && leb 48 d) (leb d 56) h in
    let low = and_parts ((eqb 112 a && (eqb 115 b && (eqb 107 c && true))) && true) (leb 48 d) last.0 in
    let word = and_parts (eqb 112 a && (eqb 115 b && (eqb 107 c && true))) true low.0 in
    let p = and_parts (eqb 112 a) (eqb 115 b && (eqb 107 c && true)) word.0 in
    let s = and_parts (eqb 115 b) (eqb 107 c && true) p.1 in
    let k = and_parts (eqb 107 c) true s.1 in
    let p_is : 112 ≡ a = eqb-true 112 a p.0 in
    let s_is : 115 ≡ b = eqb-true 115 b s.0 in
    let k_is : 107 ≡ c = eqb-true 107 c k.0 in
    let at_least : 48 ≤ d = leb-true 48 d low.1 in
    let at_most : d ≤ 56 = leb-true d 56 last.1 in
    let d_is : d ≡ 48 + (d - 48) = omega arith in
    (rw (← p_is, ← s_is, ← k_is) (ap (λ (n : ℕ). 112 ∷ 115 ∷ 107 ∷ n ∷ []) d_is), omega arith)
modifier_is piece h = search rules

not_plus : (n : ℕ) → n ≤ 8 → eqb (48 + n) 43 ≡ false
not_plus n h = grind (arith, nat_tests)

-- the pieces of modifiers
split_modifiers : (n : ℕ) (ns : List ℕ) → are_numbers (n ∷ ns) ≡ true
    → slice_split (λ c. eqb c 43) (join_with_byte 43 (map modifier (n ∷ ns))) ≡ map modifier (n ∷ ns)
split_modifiers n [] h = search rules
split_modifiers n (m ∷ ns) h =
    let a : (leb n 8 ≡ true) × (are_numbers (m ∷ ns) ≡ true) = and_parts (leb n 8) (are_numbers (m ∷ ns)) h in
    let e : eqb (48 + n) 43 ≡ false = not_plus n (leb-true n 8 a.0) in
    let more : slice_split (λ c. eqb c 43) (join_with_byte 43 (map modifier (m ∷ ns))) ≡ map modifier (m ∷ ns) = split_modifiers m ns a.1 in
    rw (e, more) refl

pub pieces_of-modifiers : (ns : List ℕ) → are_numbers ns ≡ true → pieces_of (join_with_byte 43 (map modifier ns)) ≡ map modifier ns
pieces_of-modifiers [] h = refl
pieces_of-modifiers (n ∷ []) h = split_modifiers n [] h
pieces_of-modifiers (n ∷ m ∷ ns) h = split_modifiers n (m ∷ ns) h

pub all_modifiers : (pieces : List (List ℕ)) → list_all is_modifier pieces ≡ true
    → (pieces ≡ map modifier (map number_in pieces)) × (are_numbers (map number_in pieces) ≡ true)
all_modifiers [] h = (refl, refl)
all_modifiers (piece ∷ pieces) h =
    let a : (is_modifier piece ≡ true) × (list_all is_modifier pieces ≡ true) = and_parts (is_modifier piece) (list_all is_modifier pieces) h in
    let one = modifier_is piece a.0 in
    let more = all_modifiers pieces a.1 in
    let small : leb (number_in piece) 8 ≡ true = le-leb (number_in piece) 8 one.1 in
    (cons-same one.0 more.0, and_from _ _ small more.1)

-- where no numbers spell the modifiers, some piece is none
pub refused : (modifiers : List ℕ) → ((n : ℕ) (ns : List ℕ) → are_numbers (n ∷ ns) ≡ true → modifiers ≡ join_with_byte 43 (map modifier (n ∷ ns)) → ⊥)
    → (modifiers ≡ [] → ⊥) → list_all is_modifier (pieces_of modifiers) ≡ false
refused [] none some = absurd (some refl)
refused (b ∷ bs) none some = at (list_all is_modifier (slice_split (λ c. eqb c 43) (b ∷ bs))) refl where
  pieces : List (List ℕ)
  pieces = slice_split (λ c. eqb c 43) (b ∷ bs)

  spelled : (numbers : List ℕ) → slice_split (λ c. eqb c 43) (b ∷ bs) ≡ map modifier numbers → are_numbers numbers ≡ true → ⊥
  spelled [] e h = let joined : [] ≡ b ∷ bs = ap (join_with_byte 43) (sym e) ∙ join_with_byte-slice_split 43 (b ∷ bs) in cc
  spelled (n ∷ ns) e h = none n ns h (sym (ap (join_with_byte 43) (sym e) ∙ join_with_byte-slice_split 43 (b ∷ bs)))

  at : (test : Bool) → list_all is_modifier (slice_split (λ c. eqb c 43) (b ∷ bs)) ≡ test → list_all is_modifier (slice_split (λ c. eqb c 43) (b ∷ bs)) ≡ false
  at true e = let h = all_modifiers (slice_split (λ c. eqb c 43) (b ∷ bs)) e in absurd (spelled _ h.0 h.1)
  at false e = e

-- what is read of modifiers
pub are_modifiers : (ns : List ℕ) → are_numbers ns ≡ true → list_all is_modifier (map modifier ns) ≡ true
are_modifiers [] h = refl
are_modifiers (n ∷ ns) h =
    let a : (leb n 8 ≡ true) × (are_numbers ns ≡ true) = and_parts (leb n 8) (are_numbers ns) h in
    let low : leb 48 (48 + n) ≡ true = at_least n in
    let high : leb (48 + n) 56 ≡ true = at_most n (leb-true n 8 a.0) in
    rw (low, high) (are_modifiers ns a.1)
  where
    at_least : (n : ℕ) → leb 48 (48 + n) ≡ true
    at_least n = grind (arith, nat_tests)

    at_most : (n : ℕ) → n ≤ 8 → leb (48 + n) 56 ≡ true
    at_most n h = grind (arith, nat_tests)

pub digits_rise : (ns : List ℕ) → rises (map digit_of (map modifier ns)) ≡ rises ns
digits_rise [] = refl
digits_rise (n ∷ []) = refl
digits_rise (m ∷ n ∷ ns) = rw (shifted m n, digits_rise (n ∷ ns)) refl where
  shifted : (m n : ℕ) → ltb (48 + m) (48 + n) ≡ ltb m n
  shifted m n = grind (arith, nat_tests)

pub same_numbers : (ns : List ℕ) → map number_in (map modifier ns) ≡ ns
same_numbers [] = refl
same_numbers (n ∷ ns) = cons-same (shifted n) (same_numbers ns) where
  shifted : (n : ℕ) → 48 + n - 48 ≡ n
  shifted n = omega arith

pub places_rise : (ns : List ℕ) → are_numbers ns ≡ true → are_places ns ≡ rises ns
places_rise ns h = rw h (and_true (rises ns)) where
  and_true : (x : Bool) → x && true ≡ x
  and_true true = refl
  and_true false = refl

pub if_not : {A : Type 0} (b : Bool) (x y : A) → cond (not b) x y ≡ cond b y x
if_not true x y = refl
if_not false x y = refl

pub modifiers_read-all : (ns : List ℕ) → are_numbers ns ≡ true
    → modifiers_read (join_with_byte 43 (map modifier ns)) ≡ cond (are_places ns) (Ok ns) (Err ModifierOrder)
modifiers_read-all ns h = search (pieces_of-modifiers, are_modifiers, digits_rise, same_numbers, places_rise, if_not)

pub too_many_places : (ns : List ℕ) → 9 < length ns → are_places ns ≡ false
too_many_places ns h = at (are_places ns) refl where
  at : (b : Bool) → are_places ns ≡ b → are_places ns ≡ false
  at true e = let few : length ns + 0 ≤ 9 = places_from-few 0 ns (sym (are_places-from ns) ∙ e) (omega arith) in absurd (omega arith)
  at false e = e

-- a modifier in front of others
abbrev tail_of : List ℕ → List ℕ
tail_of [] = []
tail_of (n ∷ ns) = 43 ∷ join_with_byte 43 (map modifier (n ∷ ns))

join-cons : (n : ℕ) (ns : List ℕ) → join_with_byte 43 (map modifier (n ∷ ns)) ≡ modifier n ++ tail_of ns
join-cons n [] = refl
join-cons n (m ∷ ns) = refl

-- the rest has no modifier in front
pub refused_at : (modifiers rest done : List ℕ) → modifiers ≡ fronts done ++ rest → (modifiers ≡ [] → ⊥)
    → ((n : ℕ) (after : List ℕ) → n ≤ 8 → rest ≡ modifier n ++ after → ⊥) → list_all is_modifier (pieces_of modifiers) ≡ false
refused_at modifiers rest done e some none =
    refused modifiers (λ n ns h f. let l : IsLeft rest = left_over done n ns rest h (sym e ∙ f) in
    none l.number (tail_of l.others) l.small (l.spelled ∙ join-cons l.number l.others)) some

-- the rest has something else than a + after a modifier
pub refused_after : (modifiers rest done after : List ℕ) (n : ℕ) → modifiers ≡ fronts done ++ rest → (modifiers ≡ [] → ⊥) → rest ≡ modifier n ++ after
    → (after ≡ [] → ⊥) → ((more : List ℕ) → after ≡ 43 ∷ more → ⊥) → list_all is_modifier (pieces_of modifiers) ≡ false
refused_after modifiers rest done after n e some here ended plus =
    refused modifiers (λ k ns h f. let l : IsLeft rest = left_over done k ns rest h (sym e ∙ f) in at l.number l.others (sym here ∙ l.spelled)) some
  where
    at : (k : ℕ) (others : List ℕ) → modifier n ++ after ≡ join_with_byte 43 (map modifier (k ∷ others)) → ⊥
    at k [] f = ended (cc)
    at k (m ∷ ms) f = plus (join_with_byte 43 (map modifier (m ∷ ms))) (cc)
