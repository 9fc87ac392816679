use Rattle.std.proofs.Common.{rules, ◌≡◌, refl, ℕ, zero, suc, ◌≤◌, min, List, ◌∷◌, length, drop, arith, None, []}
use Rattle.noise_theorems.proofs.Common.{Global, Vec, first_clash, bytes_of}
use Rattle.noise_theorems.proofs.clash.find_clash.Goals as goal

no-right : (n : ℕ) (texts : List (List ℕ)) → first_clash n texts [] ≡ None
no-right n [] = refl
no-right n (text ∷ texts) = refl

-- past the end of one of two lists
none-left : (n i : ℕ) (xs ys : List (Vec ℕ Global)) → min (length xs) (length ys) ≤ i
    → first_clash n (bytes_of (drop i xs)) (bytes_of (drop i ys)) ≡ None
none-left n zero (x ∷ xs) (y ∷ ys) h = absurd (omega (arith, h))
none-left n (suc i) (x ∷ xs) [] h = no-right n (bytes_of (drop i xs))
none-left n (suc i) (x ∷ xs) (y ∷ ys) h = none-left n i xs ys (omega (arith, h))
none-left n _ _ _ h = refl

pub returns : goal.returns
returns c = search (rules, none-left)
