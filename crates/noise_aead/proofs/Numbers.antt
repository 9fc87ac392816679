-- Numbers that bytes spell.
use Rattle.std.proofs.Common.{◌≡◌, ℕ, zero, suc, ◌+◌, ◌*◌, ◌^◌, ◌<◌, ◌≤◌, List, [], ◌∷◌, length, get_or, refl, ap, sym, ◌∙◌, arith, inl, inr}
use Rattle.std.proofs.Math.Nat.{mul-le-mul_right, pow-suc}
use Rattle.noise_aead.proofs.Common.{cases_lt, ext_get_or, w128, byte_worth, sum_through, from_le_bytes, number}
use Rattle.byteorder.specs.Endian.{little_from}
use Rattle.byteorder.specs.Numbers.{little_from-cons}

pub little_from-whole : (n : ℕ) (bytes : List ℕ) → length bytes ≡ n → little_from 0 n bytes ≡ number bytes
little_from-whole zero [] e = refl
little_from-whole zero (b ∷ bytes) e = absurd (omega arith)
little_from-whole (suc n) [] e = absurd (omega arith)
little_from-whole (suc n) (b ∷ bytes) e =
    ap (λ (m : ℕ). b + 256 * m) (little_from-cons 0 n b bytes ∙ little_from-whole n bytes (omega arith))

-- ---- what bytes are worth together

worth_below : (f : ℕ → ℕ) → ((i : ℕ) → f i < 256) → (k : ℕ) → sum_through (λ i. byte_worth i (f i)) k < 256 ^ suc k
worth_below f small zero = omega (arith, small 0)
worth_below f small (suc k) =
    let p : ℕ = 256 ^ suc k in
    let most : f (suc k) * p ≤ 255 * p = mul-le-mul_right p (omega (arith, small (suc k))) in
    omega (arith, worth_below f small k, most, pow-suc 256 (suc k))

not_more : (p s t x y : ℕ) → s < p → s + x * p ≡ t + y * p → x < y → ⊥
not_more p s t x y low e h = omega (arith, mul-le-mul_right {m = x + 1} {n = y} p (omega arith))

same_quotient : (p s t x y : ℕ) → s < p → t < p → s + x * p ≡ t + y * p → x ≡ y
same_quotient p s t x y low low' e =
    elim (cases_lt x y) [
      | inl less ↦ absurd (not_more p s t x y low e less)
      | inr h ↦ elim (cases_lt y x) [ inl more ↦ absurd (not_more p t s y x low' (sym e) more) | inr h' ↦ omega arith ]
    ]

same_worth : (f g : ℕ → ℕ) → ((i : ℕ) → f i < 256) → ((i : ℕ) → g i < 256) → (k : ℕ)
    → sum_through (λ i. byte_worth i (f i)) k ≡ sum_through (λ i. byte_worth i (g i)) k → (i : ℕ) → i ≤ k → f i ≡ g i
same_worth f g small small' zero e i h = let first : i ≡ 0 = omega arith in rw first e
same_worth f g small small' (suc k) e i h =
    let p : ℕ = 256 ^ suc k in
    let s : ℕ = sum_through (λ i. byte_worth i (f i)) k in
    let t : ℕ = sum_through (λ i. byte_worth i (g i)) k in
    let top : f (suc k) ≡ g (suc k) =
    same_quotient p s t (f (suc k)) (g (suc k)) (worth_below f small k) (worth_below g small' k) e in
    let rest : s ≡ t = omega (arith, e, ap (λ (n : ℕ). n * p) top) in
    elim (cases_lt k i) [
      | inl last ↦ (let at : i ≡ suc k = omega arith in rw at top)
      | inr below ↦ same_worth f g small small' k rest i below
    ]

-- sixteen bytes that spell one number are the same bytes
pub from_le_bytes-same : (a b : List ℕ) → length a ≡ 16 → length b ≡ 16 → ((i : ℕ) → get_or a i 0 < 256) → ((i : ℕ) → get_or b i 0 < 256)
    → from_le_bytes w128 a ≡ from_le_bytes w128 b → a ≡ b
from_le_bytes-same a b la lb sa sb e =
    ext_get_or 0 a b (la ∙ sym lb)
    (λ (i : ℕ) (h : i < length a). same_worth (λ (j : ℕ). get_or a j 0) (λ (j : ℕ). get_or b j 0) sa sb 15 e i (omega arith))
