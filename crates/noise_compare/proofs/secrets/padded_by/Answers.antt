use Rattle.std.proofs.Common.{◌≡◌, ◌<◌, ◌+◌, ◌++◌, ℕ, suc, zero, List, [], ◌∷◌, length, map, bit_xor, take, drop, set, get_or, refl, ap, arith, rules}
use Rattle.noise_compare.proofs.secrets.padded_by.Goals as goal

-- one element more is mapped in place
mapped_more : (f : ℕ → ℕ) (xs : List ℕ) (i : ℕ) → i < length xs
    → set (map f (take i xs) ++ drop i xs) i (f (get_or (map f (take i xs) ++ drop i xs) i 0)) ≡ map f (take (suc i) xs) ++ drop (suc i) xs
mapped_more f [] i h = absurd (omega arith)
mapped_more f (x ∷ xs) zero h = refl
mapped_more f (x ∷ xs) (suc i) h = ap (λ (ys : List ℕ). f x ∷ ys) (mapped_more f xs i (omega arith))

mapped_at : (f : ℕ → ℕ) (xs ys : List ℕ) (i j : ℕ) → i < length xs → j ≡ suc i → ys ≡ map f (take i xs) ++ drop i xs
    → set ys i (f (get_or ys i 0)) ≡ map f (take j xs) ++ drop j xs
mapped_at f xs ys i j h ej e = rw (ej, e) (mapped_more f xs i h)

pub loop-i-preserved : goal.loop-i-preserved
loop-i-preserved c =
    mapped_at (λ b. bit_xor b c.args.pad) c.args.key c.loop-i.key c.loop-i.i (c.loop-i.i + 1) (search rules) (omega arith) c.loop-i.invariant
