-- Lists, and facts on them, for several crates.
use Rattle.std.proofs.Common.{◌≡◌, ◌≢◌, ◌⊎◌, inl, inr, ℕ, zero, suc, List, [], ◌∷◌, ◌++◌, length, take, drop, map}
use Rattle.std.proofs.Common.{slice_get, Some, Vec, refl, ap, sym, ◌∙◌}
use Rattle.std.specs.Prelude.{bytes_eq}
use Rattle.std.specs.Global.{Global}
use Rattle.std.proofs.lemmas.Bool.{cases_Bool}
use Rattle.std.proofs.lemmas.Bool.Decides.{not_from_Decides}
use Rattle.std.proofs.lemmas.Slice.Eq.{bytes_eq-Decides}
use Rattle.std.proofs.lemmas.List.{drop_at, take_at}

-- the bytes of each
abbrev pub bytes_of : List (Vec ℕ Global) → List (List ℕ)
bytes_of vecs = map (λ v. v.items) vecs

-- two texts are the same or not
pub same-or : (xs ys : List ℕ) → (xs ≡ ys) ⊎ (xs ≢ ys)
same-or xs ys = elim (cases_Bool (bytes_eq xs ys)) [
  | inl same ↦ inl ((bytes_eq-Decides xs ys).0 same)
  | inr differ ↦ inr (not_from_Decides (bytes_eq xs ys) (bytes_eq-Decides xs ys) differ)
]

pub cons-same : {X : Type 0} {x y : X} {xs ys : List X} → x ≡ y → xs ≡ ys → x ∷ xs ≡ y ∷ ys
cons-same e f = cc

pub heads : {X : Type 0} (x y : X) (xs ys : List X) → (x ∷ xs) ≡ (y ∷ ys) → x ≡ y
heads x y xs ys e = cc

pub tails : {X : Type 0} (x y : X) (xs ys : List X) → (x ∷ xs) ≡ (y ∷ ys) → xs ≡ ys
tails x y xs ys e = cc

-- two texts that begin with parts of one length
pub split-apart : (a b p q : List ℕ) → length a ≡ length b → a ++ p ≡ b ++ q → (a ≡ b) × (p ≡ q)
split-apart a b p q n e = (
  sym (take_at a p (length a) refl) ∙ ap (take (length a)) e ∙ take_at b q (length a) (sym n),
  sym (drop_at a p (length a) refl) ∙ ap (drop (length a)) e ∙ drop_at b q (length a) (sym n),
)

-- an item stays at its place where the list grows
pub get-front : {X : Type 0} (xs ys : List X) (n : ℕ) (x : X)
    → slice_get xs n ≡ Some x → slice_get (xs ++ ys) n ≡ Some x
get-front [] ys n x e = absurd (cc)
get-front (y ∷ xs) ys zero x e = e
get-front (y ∷ xs) ys (suc n) x e = get-front xs ys n x e

pub get-last : {X : Type 0} (xs : List X) (x : X) → slice_get (xs ++ x ∷ []) (length xs) ≡ Some x
get-last [] x = refl
get-last (y ∷ xs) x = get-last xs x
