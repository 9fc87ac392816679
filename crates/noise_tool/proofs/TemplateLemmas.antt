-- The ends of a template's file: nothing is wrong with their setups.
use Rattle.std.proofs.Common.{rules, ◌≡◌, ◌∙◌, refl, ap, ℕ, ◌+◌, ◌<◌, ◌≤◌, Bool, true, false, cond, eqb, leb, List, [], ◌∷◌, Some, None, length, map, arith}
use Rattle.std.specs.Prelude.{◌&&◌, ◌||◌, not, IsTrue, is_some, nat_le, nat_lt, if◌then◌else◌}
use Rattle.std.proofs.lemmas.Bool.Decides.{nat_tests}
use Rattle.std.proofs.lemmas.Bool.{leb-true}
use Rattle.noise_tool.proofs.Common.{length-map, count_by, is_none, list_all, list_any, sum_by-append, Plan, places_of, is_psk, other, own_tokens, is_among, Role, Initiator, Responder, has_before, psks_of, setup_fault, public_of, VectorFile, shown_before, IsFilePattern, keys_of_role, setup_of}
use Rattle.noise_names.specs.Limits.{HavePsksAt, IsPattern, psk_if, with_psk_tokens}
use Rattle.noise_names.specs.Names.{rises}
use Rattle.noise_names.specs.declared.token.Token.{Token}
use Rattle.noise_names.specs.declared.token.Token.TheVariants.{E, S, Ee, Es, Se, Ss, Psk}
use Rattle.noise_keys.specs.declared.keys.Own.TheVariants.{Ephemeral, Static}
use Rattle.noise_vectors.specs.declared.file_keys.FileKeys.TheVariants.{Table}
use Rattle.noise_explain.specs.Template.{IsTemplate, psk_at}
use Rattle.noise_explain.specs.Values.{value_in}
use Rattle.noise_explain.specs.declared.values.Given.{Given}
use Rattle.noise_explain.specs.declared.values.Place.TheVariants.{Key}
use Rattle.noise_explain.specs.Template as template

-- ---- the pattern

pub pattern-of : (g : List Given) (p : Plan) (file : VectorFile) → IsPattern p → IsTemplate g p file → IsFilePattern file.block file.protocol p
pattern-of g p file h t = search rules

-- ---- a psk for each place

-- how many places are no less than a number
abbrev from : ℕ → List ℕ → ℕ
from n places = count_by (λ m. nat_le n m) places

first : (a b : Bool) → IsTrue (a && b) → IsTrue a
first true b h = refl
first false b h = cc

second : (a b : Bool) → IsTrue (a && b) → IsTrue b
second true b h = h
second false b h = cc

lt-of : (a b : ℕ) → IsTrue (nat_lt a b) → a < b
lt-of a b h = grind (arith, nat_tests)

not-eq : (a b : ℕ) → b < a → eqb a b ≡ false
not-eq a b h = grind (arith, nat_tests)

-- a number below the places isn't among them
none-below : (n m : ℕ) (ms : List ℕ) → n ≤ m → IsTrue (rises (m ∷ ms)) → list_any (λ k. eqb k n) ms ≡ false
none-below n m [] le h = refl
none-below n m (k ∷ ks) le h =
    let less : m < k = lt-of m k (first (nat_lt m k) (rises (k ∷ ks)) h) in
    ap (λ (b : Bool). b || list_any (λ j. eqb j n) ks) (not-eq k n (omega arith))
    ∙ none-below n k ks (omega arith) (second (nat_lt m k) (rises (k ∷ ks)) h)

rest-rises : (m : ℕ) (ms : List ℕ) → IsTrue (rises (m ∷ ms)) → IsTrue (rises ms)
rest-rises m [] h = refl
rest-rises m (k ∷ ks) h = second (nat_lt m k) (rises (k ∷ ks)) h

abbrev bit : Bool → ℕ
bit true = 1
bit false = 0

from-cons : (n m : ℕ) (ms : List ℕ) → from n (m ∷ ms) ≡ bit (leb n m) + from n ms
from-cons n m ms =
    sum_by-append (λ k. cond (nat_le n k) 1 0) (m ∷ []) ms ∙ ap (λ (k : ℕ). k + from n ms) (same (leb n m))
  where
    same : (b : Bool) → 0 + cond b 1 0 ≡ bit b
    same true = refl
    same false = refl

bit-same : (n m : ℕ) → eqb m n ≡ false → (b c : Bool) → leb (n + 1) m ≡ b → leb n m ≡ c → bit b ≡ bit c
bit-same n m e true true h k = refl
bit-same n m e true false h k = absurd (grind (arith, nat_tests))
bit-same n m e false true h k = absurd (grind (arith, nat_tests))
bit-same n m e false false h k = refl

above-it : (n m : ℕ) → eqb m n ≡ true → leb (n + 1) m ≡ false
above-it n m e = grind (arith, nat_tests)

at-it : (n m : ℕ) → eqb m n ≡ true → leb n m ≡ true
at-it n m e = grind (arith, nat_tests)

no-more : (n m : ℕ) → eqb m n ≡ true → n ≤ m
no-more n m e = grind (arith, nat_tests)

-- a psk token is one place
one-step : (n m : ℕ) (ms : List ℕ) → IsTrue (rises (m ∷ ms)) → count_by is_psk (psk_if n ms) + from (n + 1) ms ≡ from n ms → (b : Bool) → eqb m n ≡ b
    → count_by is_psk (psk_if n (m ∷ ms)) + from (n + 1) (m ∷ ms) ≡ from n (m ∷ ms)
one-step n m ms h later true e =
    let here : count_by is_psk (psk_if n (m ∷ ms)) ≡ 1 = ap (λ (b : Bool). count_by is_psk (cond (b || list_any (λ k. eqb k n) ms) (Psk ∷ []) [])) e in
    let none : count_by is_psk (psk_if n ms) ≡ 0 = ap (λ (b : Bool). count_by is_psk (cond b (Psk ∷ []) [])) (none-below n m ms (no-more n m e) h) in
    let low : bit (leb (n + 1) m) ≡ 0 = ap bit (above-it n m e) in
    let high : bit (leb n m) ≡ 1 = ap bit (at-it n m e) in
    omega (arith, here, none, later, low, high, from-cons (n + 1) m ms, from-cons n m ms)
one-step n m ms h later false e =
    let here : count_by is_psk (psk_if n (m ∷ ms)) ≡ count_by is_psk (psk_if n ms) = search in
    omega (arith, here, later, bit-same n m e (leb (n + 1) m) (leb n m) refl refl, from-cons (n + 1) m ms, from-cons n m ms)

one-place : (n : ℕ) (places : List ℕ) → IsTrue (rises places) → count_by is_psk (psk_if n places) + from (n + 1) places ≡ from n places
one-place n [] h = refl
one-place n (m ∷ ms) h = one-step n m ms h (one-place n ms (rest-rises m ms h)) (eqb m n) refl

no-psk-among : (ts : List Token) → count_by is_psk (own_tokens ts) ≡ 0
no-psk-among [] = refl
no-psk-among (E ∷ ts) = no-psk-among ts
no-psk-among (S ∷ ts) = no-psk-among ts
no-psk-among (Ee ∷ ts) = no-psk-among ts
no-psk-among (Es ∷ ts) = no-psk-among ts
no-psk-among (Se ∷ ts) = no-psk-among ts
no-psk-among (Ss ∷ ts) = no-psk-among ts
no-psk-among (Psk ∷ ts) = no-psk-among ts

-- the psk tokens of a message
in-message : (places : List ℕ) (n : ℕ) (ts : List Token) → ts ≡ with_psk_tokens places n (own_tokens ts)
    → count_by is_psk ts ≡ count_by is_psk (cond (eqb n 1) (psk_if 0 places) []) + count_by is_psk (psk_if n places)
in-message places n ts h = search (rules, sum_by-append, no-psk-among)

later-psks : (places : List ℕ) (n : ℕ) (ms : List (List Token)) → 1 < n → IsTrue (rises places) → HavePsksAt places n ms
    → psks_of ms + from (n + length ms) places ≡ from n places
later-psks places n [] low up h = search rules
later-psks places n (ts ∷ ms) low up h = search (rules, in-message, one-place, (later-psks places (n + 1) ms (omega arith) up h.1))

all-psks : (places : List ℕ) (ms : List (List Token)) → 1 ≤ length ms → IsTrue (rises places) → HavePsksAt places 1 ms
    → psks_of ms + from (1 + length ms) places ≡ from 0 places
all-psks places [] some up h = absurd (omega arith)
all-psks places (ts ∷ ms) some up h =
    let here : count_by is_psk ts ≡ count_by is_psk (psk_if 0 places) + count_by is_psk (psk_if 1 places) = in-message places 1 ts h.0 in
    let more : psks_of ms + from (2 + length ms) places ≡ from 2 places = later-psks places 2 ms (omega arith) up h.1 in
    let last : from (1 + length (ts ∷ ms)) places ≡ from (2 + length ms) places = ap (λ (k : ℕ). from k places) (omega arith) in
    omega (arith, here, more, last, one-place 0 places up, one-place 1 places up)

zero-low : (n : ℕ) → leb 0 n ≡ true
zero-low n = grind (arith, nat_tests)

above-all : (count n : ℕ) → n ≤ count → leb (1 + count) n ≡ false
above-all count n h = grind (arith, nat_tests)

from-zero : (places : List ℕ) → from 0 places ≡ length places
from-zero [] = refl
from-zero (n ∷ ns) =
    let one : bit (leb 0 n) ≡ 1 = ap bit (zero-low n) in
    omega (arith, from-zero ns, one, from-cons 0 n ns)

none-above : (count : ℕ) (places : List ℕ) → IsTrue (list_all (λ n. nat_le n count) places) → from (1 + count) places ≡ 0
none-above count [] h = refl
none-above count (n ∷ ns) h =
    let low : n ≤ count = leb-true n count (first (nat_le n count) (list_all (λ m. nat_le m count) ns) h) in
    let no : bit (leb (1 + count) n) ≡ 0 = ap bit (above-all count n low) in
    omega (arith, no, from-cons (1 + count) n ns, none-above count ns (second (nat_le n count) (list_all (λ m. nat_le m count) ns) h))

psk-count : (g : List Given) (p : Plan) → IsPattern p → length (map (psk_at g) p.places) ≡ psks_of p.messages
psk-count g p h =
    let some : 1 ≤ length p.messages = leb-true 1 (length p.messages) (first (nat_le 1 (length p.messages)) (nat_le (length p.messages) 8) h.count) in
    let up : IsTrue (rises p.places) = first (rises p.places) _ h.places in
    omega (
      arith,
      length-map p.places (psk_at g),
      from-zero p.places,
      all-psks p.places p.messages some up h.psks.tokens,
      none-above (length p.messages) p.places h.psks.in_range,
    )

-- ---- the keys

-- the tokens of a party's pre-message are among its tokens
abbrev BeforeMatches : Plan → Type 0
BeforeMatches p = (party : Role) (t : Token) → has_before p party t ≡ true → is_among party t (places_of p) ≡ true

own-there : (b : Bool) (key : List ℕ) → b && is_none (if b then Some key else None) ≡ false
own-there true key = refl
own-there false key = refl

remote-there : (before b : Bool) (key : List ℕ) → (before ≡ true → b ≡ true)
    → before && is_none (if before then (if b then Some key else None) else None) ≡ false
remote-there true true key h = refl
remote-there true false key h = let bad = h refl in cc
remote-there false b key h = refl

none-unexpected : (before b : Bool) (key : List ℕ) → is_some (if before then (if b then Some key else None) else None) && not before ≡ false
none-unexpected true true key = refl
none-unexpected true false key = refl
none-unexpected false b key = refl

keys-are : (g : List Given) (p : Plan) (file : VectorFile) → IsTemplate g p file → (role : Role)
    → keys_of_role file role ≡ Table (template.template_keys g p role)
keys-are g p file t Initiator = t.initiator
keys-are g p file t Responder = t.responder

whole-setup : (g : List Given) (p : Plan) → BeforeMatches p → (role : Role) (n : ℕ) → n ≡ psks_of p.messages
    → setup_fault p role (public_of (Table (template.template_keys g p role)))
    (shown_before p (other role) (public_of (Table (template.template_keys g p (other role))))) n ≡ None
whole-setup g p matches role n count =
    let e = own-there (is_among role E (places_of p)) (value_in g (Key role Ephemeral)) in
    let s = own-there (is_among role S (places_of p)) (value_in g (Key role Static)) in
    let re = remote-there (has_before p (other role) E) (is_among (other role) E (places_of p)) (value_in g (Key (other role) Ephemeral)) (matches (other role) E) in
    let rs = remote-there (has_before p (other role) S) (is_among (other role) S (places_of p)) (value_in g (Key (other role) Static)) (matches (other role) S) in
    let ue = none-unexpected (has_before p (other role) E) (is_among (other role) E (places_of p)) (value_in g (Key (other role) Ephemeral)) in
    let us = none-unexpected (has_before p (other role) S) (is_among (other role) S (places_of p)) (value_in g (Key (other role) Static)) in
    let same : eqb n (psks_of p.messages) ≡ true = grind (arith, nat_tests) in
    simp (e, s, re, rs, ue, us, same)

pub no-setup-fault : (g : List Given) (p : Plan) (file : VectorFile) → IsPattern p → BeforeMatches p → IsTemplate g p file → (role : Role) → setup_of file p role ≡ None
no-setup-fault g p file h matches t role = search (rules, keys-are, whole-setup, psk-count)
