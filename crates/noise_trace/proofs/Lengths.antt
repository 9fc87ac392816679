-- How many tokens the messages of a pattern have at most.
use Rattle.std.proofs.Common.{rules, ◌≡◌, ℕ, zero, suc, ◌+◌, ◌≤◌, List, [], ◌∷◌, length, refl, arith, length-append}
use Rattle.std.proofs.lemmas.Bool.Decides.{nat_tests}
use Rattle.std.specs.List.{list_any, list_all}
use Rattle.noise_trace.proofs.Common.{Bool, true, false, ◌&&◌, ◌==◌, IsTrue, nat_le, if◌then◌else◌, Token, Psk, own_tokens, tokens_at, Plan}
use Rattle.noise_names.specs.Limits.{IsPattern, HavePsksAt, psk_if, has_few_tokens}

-- each message has at most 10 tokens
abbrev pub AreShort : List (List Token) → Type 0
AreShort [] = Unit {0}
AreShort (ts ∷ ms) = (length ts ≤ 10) × AreShort ms

one-psk : (n : ℕ) (places : List ℕ) → length (psk_if n places) ≤ 1
one-psk n places = by (list_any (λ m. m == n) places) where
  by : (b : Bool) → length (if b then Psk ∷ [] else []) ≤ 1
  by true = omega arith
  by false = omega arith

first-psk : (b : Bool) (places : List ℕ) → length (if b then psk_if 0 places else []) ≤ 1
first-psk true places = one-psk 0 places
first-psk false places = omega arith

few-own : (a : Bool) (n : ℕ) → IsTrue (a && nat_le n 8) → n ≤ 8
few-own true n h = grind (arith, nat_tests)
few-own false n h = absurd (cc)

split : (a b : Bool) → IsTrue (a && b) → IsTrue a × IsTrue b
split true b h = (refl, h)
split false b h = absurd (cc)

short : (places : List ℕ) (n : ℕ) (ms : List (List Token)) → HavePsksAt places n ms → IsTrue (list_all has_few_tokens ms) → AreShort ms
short places n [] have few = tt
short places n (ts ∷ ms) have few =
    let both = split (has_few_tokens ts) (list_all has_few_tokens ms) few in
    let own : List Token = own_tokens ts in
    let first : List Token = if n == 1 then psk_if 0 places else [] in
    let most : length own ≤ 8 = few-own (nat_le 1 (length own)) (length own) both.0 in
    let sum : length ts ≡ (length first + length own) + length (psk_if n places) = search (rules, length-append) in
    (omega (arith, sum, most, first-psk (n == 1) places, one-psk n places), short places (n + 1) ms have.1 both.1)

short-at : (ms : List (List Token)) (i : ℕ) → AreShort ms → length (tokens_at ms i) ≤ 10
short-at [] i s = omega arith
short-at (ts ∷ ms) zero s = s.0
short-at (ts ∷ ms) (suc i) s = short-at ms i s.1

pub few-tokens : (p : Plan) → IsPattern p → (i : ℕ) → length (tokens_at p.messages i) ≤ 10
few-tokens p is i = short-at p.messages i (short p.places 1 p.messages is.psks.tokens is.sizes)
