-- A chain of hashes: where two of one length and one start end alike, they hashed the same, or two of their texts clash.
use Rattle.std.proofs.Common.{◌≡◌, ◌≢◌, ℕ, List, ◌∷◌, ◌++◌, length, refl, sym, subst, ◌∙◌, arith, inl, inr, ◌⊎◌, slice_get, Some, length-append, []}
use Rattle.noise_duel.proofs.Common.{sha256, TextsClashAt, split-apart, get-front, get-last, cons-same, same-or}
use Rattle.sha2.proofs.Facts256.{length-sha256}

abbrev pub chained : List ℕ → List (List ℕ) → List ℕ
chained start [] = start
chained start (x ∷ xs) = sha256 (chained start xs ++ x)

abbrev pub chain_texts : List ℕ → List (List ℕ) → List (List ℕ)
chain_texts start [] = []
chain_texts start (x ∷ xs) = chain_texts start xs ++ (chained start xs ++ x) ∷ []

length-chained : (start : List ℕ) (xs : List (List ℕ)) → length start ≡ 32 → length (chained start xs) ≡ 32
length-chained start [] h = h
length-chained start (x ∷ xs) h = length-sha256 (chained start xs ++ x)

length-texts : (start : List ℕ) (xs : List (List ℕ)) → length (chain_texts start xs) ≡ length xs
length-texts start [] = refl
length-texts start (x ∷ xs) = length-append (chain_texts start xs) ((chained start xs ++ x) ∷ []) ∙ omega (arith, length-texts start xs)

pub clash-longer : (a b more others : List (List ℕ)) (i : ℕ) → TextsClashAt a b i → TextsClashAt (a ++ more) (b ++ others) i
clash-longer a b more others i c = record {
  left = c.left;
  right = c.right;
  at_left = get-front a more i c.left c.at_left;
  at_right = get-front b others i c.right c.at_right;
  differ = c.differ;
  same = c.same;
}

-- Two chains from one start, of one length, with one end.
pub chains-alike : (start : List ℕ) (xs ys : List (List ℕ)) → length start ≡ 32 → length xs ≡ length ys → chained start xs ≡ chained start ys
    → (xs ≡ ys) ⊎ ((i : ℕ) × TextsClashAt (chain_texts start xs) (chain_texts start ys) i)
chains-alike start [] [] long n e = inl refl
chains-alike start (x ∷ xs) (y ∷ ys) long n e = go (same-or (chained start xs ++ x) (chained start ys ++ y)) (chains-alike start xs ys long (omega (arith, n)))
  where
    go : ((chained start xs ++ x) ≡ (chained start ys ++ y)) ⊎ ((chained start xs ++ x) ≢ (chained start ys ++ y))
        → (chained start xs ≡ chained start ys → (xs ≡ ys) ⊎ ((i : ℕ) × TextsClashAt (chain_texts start xs) (chain_texts start ys) i))
        → ((x ∷ xs) ≡ (y ∷ ys)) ⊎ ((i : ℕ) × TextsClashAt (chain_texts start (x ∷ xs)) (chain_texts start (y ∷ ys)) i)
    go (inr d) older = inr (
      length (chain_texts start xs),
      record {
        left = chained start xs ++ x;
        right = chained start ys ++ y;
        at_left = get-last (chain_texts start xs) (chained start xs ++ x);
        at_right = subst (λ (i : ℕ). slice_get (chain_texts start (y ∷ ys)) i ≡ Some (chained start ys ++ y))
            (omega (arith, length-texts start xs, length-texts start ys, n)) (get-last (chain_texts start ys) (chained start ys ++ y));
        differ = d;
        same = e;
      },
    )
    go (inl same) older =
        let apart = split-apart (chained start xs) (chained start ys) x y (length-chained start xs long ∙ sym (length-chained start ys long)) same in
        elim (older apart.0) [
          | inl rest ↦ inl (cons-same apart.1 rest)
          | inr c ↦ inr (
            c.0,
            clash-longer (chain_texts start xs) (chain_texts start ys) ((chained start xs ++ x) ∷ []) ((chained start ys ++ y) ∷ []) c.0
                c.1,
          )
        ]
chains-alike start _ _ long n e = cc
