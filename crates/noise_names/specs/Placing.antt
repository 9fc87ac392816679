-- Psk tokens are placed in one way, and only in messages that there are: facts for proofs of other crates.
use Rattle.std.proofs.Common.{◌≡◌, ◌∙◌, refl, ap, ap₂, sym, ℕ, ◌+◌, List, [], ◌∷◌, length, map, cond, arith, Option, Some, None}
use Rattle.std.specs.Prelude.{Bool, true, false, nat_le, nat_lt, find}
use Rattle.std.specs.List.{list_all}
use Rattle.std.proofs.lemmas.Bool.{and_parts}
use Rattle.std.proofs.lemmas.Bool.Decides.{nat_tests}
use Rattle.std.proofs.lemmas.List.{length-map}
use Rattle.noise_names.specs.declared.token.Token.{Token}
use Rattle.noise_names.specs.Limits.{HavePsksAt, Placed, first_beyond, with_psk_tokens}
use Rattle.noise_names.specs.Plan.{Plan, plain_of}
use Rattle.noise_names.specs.Tokens.{own_tokens}

-- messages with psk tokens at the same places are those of their other tokens
messages-once : (places : List ℕ) (n : ℕ) (xs ys : List (List Token)) → map own_tokens xs ≡ map own_tokens ys
    → HavePsksAt places n xs → HavePsksAt places n ys → xs ≡ ys
messages-once places n [] [] e h k = refl
messages-once places n [] (y ∷ ys) e h k = absurd (cc)
messages-once places n (x ∷ xs) [] e h k = absurd (cc)
messages-once places n (x ∷ xs) (y ∷ ys) e h k =
    let first : own_tokens x ≡ own_tokens y = cc in
    let rest : map own_tokens xs ≡ map own_tokens ys = cc in
    ap₂ (λ (t : List Token) (ts : List (List Token)). t ∷ ts) (h.0 ∙ ap (with_psk_tokens places n) first ∙ sym k.0)
    (messages-once places (n + 1) xs ys rest h.1 k.1)

plan-same : (p q : Plan) → plain_of p ≡ plain_of q → p.places ≡ q.places → p.messages ≡ q.messages → p ≡ q
plan-same p q e places messages =
    ap (λ (z : Plan). record z { places = p.places; messages = p.messages }) e
    ∙ ap₂ (λ (n : List ℕ) (ts : List (List Token)). record q { places = n; messages = ts }) places messages

pub placed-once : (plain : Plan) (places : List ℕ) (p q : Plan) → Placed plain places p → Placed plain places q → p ≡ q
placed-once plain places p q h k =
    let same : plain_of p ≡ plain_of q = h.without ∙ sym k.without in
    plan-same p q same (h.places_are ∙ sym k.places_are)
    (messages-once places 1 p.messages q.messages (ap (λ (z : Plan). z.messages) same) h.psks.tokens k.psks.tokens)

none-some : (n : ℕ) → ◌≡◌ {A = Option ℕ} None (Some n) → ⊥
none-some n e = cc

not-lower : (k m : ℕ) → nat_le m k ≡ true → nat_lt k m ≡ false
not-lower k m a = grind (arith, nat_tests)

not-beyond : (k : ℕ) (ms : List ℕ) (n : ℕ) → list_all (λ m. nat_le m k) ms ≡ true
    → find (λ m. nat_lt k m) ms ≡ Some n → ⊥
not-beyond k [] n h e = none-some n e
not-beyond k (m ∷ ms) n h e =
    let parts = and_parts (nat_le m k) (list_all (λ z. nat_le z k) ms) h in
    let same = ap (λ (c : Bool). cond c (Some m) (find (λ z. nat_lt k z) ms)) (not-lower k m parts.0) in
    not-beyond k ms n parts.1 (sym same ∙ e)

-- no place is beyond the messages
pub none-beyond : (plain : Plan) (places : List ℕ) (p : Plan) (n : ℕ) → Placed plain places p
    → first_beyond plain places ≡ Some n → ⊥
none-beyond plain places p n h beyond =
    let count : length plain.messages ≡ length p.messages =
    ap (λ (z : Plan). length z.messages) (sym h.without) ∙ length-map p.messages own_tokens in
    not-beyond (length p.messages) places n h.psks.in_range
    (ap (λ (k : ℕ). find (λ m. nat_lt k m) places) (sym count) ∙ beyond)
