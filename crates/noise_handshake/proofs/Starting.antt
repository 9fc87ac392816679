-- What a pattern asks of a setup: how many psks.
use Rattle.std.proofs.Common.{rules, ◌≡◌, ℕ, zero, suc, ◌+◌, ◌<◌, ◌≤◌, List, [], ◌∷◌, length, drop, cond, eqb, refl, ap, ◌∙◌, arith}
use Rattle.std.specs.Prelude.{Bool, true, false}
use Rattle.noise_handshake.proofs.Common.{nat_le, count_by, list_any, nat_tests, and_parts, leb-true, sum_by-append, Token, E, S, Ee, Es, Se, Ss, is_psk, own_tokens, Plan, IsPattern, HavePsksAt, psk_if, with_psk_tokens, psks_of}
use Rattle.noise_names.specs.declared.token.Token.TheVariants.{Psk}

no_psk_among : (ts : List Token) → count_by is_psk (own_tokens ts) ≡ 0
no_psk_among [] = refl
no_psk_among (E ∷ ts) = no_psk_among ts
no_psk_among (S ∷ ts) = no_psk_among ts
no_psk_among (Ee ∷ ts) = no_psk_among ts
no_psk_among (Es ∷ ts) = no_psk_among ts
no_psk_among (Se ∷ ts) = no_psk_among ts
no_psk_among (Ss ∷ ts) = no_psk_among ts
no_psk_among (Psk ∷ ts) = no_psk_among ts

at_most_one : (n : ℕ) (places : List ℕ) → count_by is_psk (psk_if n places) ≤ 1
at_most_one n places = by (list_any (λ m. eqb m n) places) where
  by : (b : Bool) → count_by is_psk (cond b (Psk ∷ []) []) ≤ 1
  by true = omega arith
  by false = omega arith

-- a message has a psk token at each of its ends at most, in front only message 1
few_in : (places : List ℕ) (n : ℕ) (ts : List Token) (front : Bool) (b : ℕ) → eqb n 1 ≡ front → cond front 1 0 ≡ b
    → ts ≡ with_psk_tokens places n (own_tokens ts) → count_by is_psk ts ≤ 1 + b
few_in places n ts front b e f h =
    let first : List Token = cond (eqb n 1) (psk_if 0 places) [] in
    let sum : count_by is_psk ts ≡ (count_by is_psk first + count_by is_psk (own_tokens ts)) + count_by is_psk (psk_if n places) =
    search (rules, sum_by-append) in
    let low : count_by is_psk first ≤ cond (eqb n 1) 1 0 = by (eqb n 1) in
    let same : cond (eqb n 1) 1 0 ≡ b = ap (λ (c : Bool). cond c 1 0) e ∙ f in
    omega (arith, sum, low, same, no_psk_among ts, at_most_one n places)
  where
    by : (c : Bool) → count_by is_psk (cond c (psk_if 0 places) []) ≤ cond c 1 0
    by true = at_most_one 0 places
    by false = omega arith

later-few : (places : List ℕ) (n : ℕ) (ms : List (List Token)) → 1 < n → HavePsksAt places n ms → psks_of ms ≤ length ms
later-few places n [] h k = omega arith
later-few places n (ts ∷ ms) h k =
    let not_first : eqb n 1 ≡ false = grind (arith, nat_tests) in
    omega (arith, few_in places n ts false 0 not_first refl k.0, later-few places (n + 1) ms (omega arith) k.1)

all-few : (places : List ℕ) (ms : List (List Token)) → HavePsksAt places 1 ms → psks_of ms ≤ length ms + 1
all-few places [] k = omega arith
all-few places (ts ∷ ms) k = omega (arith, few_in places 1 ts true 1 refl refl k.0, later-few places 2 ms (omega arith) k.1)

-- a pattern takes at most 9 psks
pub few-messages : (p : Plan) → IsPattern p → length p.messages ≤ 8
few-messages p h = leb-true (length p.messages) 8 (and_parts (nat_le 1 (length p.messages)) (nat_le (length p.messages) 8) h.count).1

pub few-psks : (p : Plan) → IsPattern p → psks_of p.messages ≤ 9
few-psks p h = omega (arith, all-few p.places p.messages h.psks.tokens, few-messages p h)

later-take-less : (n : ℕ) (ms : List (List Token)) → psks_of (drop n ms) ≤ psks_of ms
later-take-less zero ms = omega arith
later-take-less (suc n) [] = omega arith
later-take-less (suc n) (ts ∷ ms) = omega (arith, later-take-less n ms)

-- and no more where some messages have passed
pub few-left : (p : Plan) (n : ℕ) → IsPattern p → psks_of (drop n p.messages) ≤ 9
few-left p n h = omega (arith, later-take-less n p.messages, few-psks p h)
