-- The xor of two texts, place by place.
use Rattle.std.proofs.Common.{◌≡◌, ℕ, zero, suc, ◌+◌, ◌<◌, List, [], ◌∷◌, ◌++◌, length, get_or, take, drop, refl, ap, arith, add-one}
use Rattle.std.proofs.Math.ListN.{set}
use Rattle.std.specs.Prelude.{bit_xor}
use Rattle.noise_keys.specs.Keys.{xored_bytes}

xored-suc : (i : ℕ) (xs ys : List ℕ) → i < length xs → i < length ys
    → set (xored_bytes (take i xs) (take i ys) ++ drop i xs) i (bit_xor (get_or (xored_bytes (take i xs) (take i ys) ++ drop i xs) i 0) (get_or ys i 0))
    ≡ xored_bytes (take (suc i) xs) (take (suc i) ys) ++ drop (suc i) xs
xored-suc i [] ys h k = absurd (omega arith)
xored-suc i (x ∷ xs) [] h k = absurd (omega arith)
xored-suc zero (x ∷ xs) (y ∷ ys) h k = refl
xored-suc (suc i) (x ∷ xs) (y ∷ ys) h k = ap (λ (bs : List ℕ). bit_xor x y ∷ bs) (xored-suc i xs ys (omega arith) (omega arith))

-- one place more
pub xored-step : (i : ℕ) (answer xs ys : List ℕ) → answer ≡ xored_bytes (take i xs) (take i ys) ++ drop i xs → i < length xs → i < length ys
    → set answer i (bit_xor (get_or answer i 0) (get_or ys i 0)) ≡ xored_bytes (take (i + 1) xs) (take (i + 1) ys) ++ drop (i + 1) xs
xored-step i answer xs ys e h k = rw (e, add-one) (xored-suc i xs ys h k)
