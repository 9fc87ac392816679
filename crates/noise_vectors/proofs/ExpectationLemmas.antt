-- Lists of lines, compared line by line.
use Rattle.std.proofs.Common.{rules, arith, ◌≡◌, ◌≢◌, ◌∙◌, ◌+◌, ◌<◌, ◌≤◌, ◌⊎◌, inl, inr, refl, sym, ℕ, suc, Vec, Some, None, List, ◌∷◌, length, get_or, []}
use Rattle.std.specs.Global.{Global}
use Rattle.std.specs.Prelude.{slice_get}
use Rattle.std.proofs.lemmas.Option.{slice_get-map, slice_get_cases, slice_get_past, slice_get_read}
use Rattle.std.proofs.Math.Nat.{eq-or-lt_of_le}
use Rattle.noise_vectors.proofs.Common.{length-map, bytes_of}
use Rattle.noise_vectors.specs.Expectations.{IsFirstUnmet}

-- the bytes of a line that is there
pub line-at : (lines : List (Vec ℕ Global)) (i : ℕ) (l : Vec ℕ Global) → i < length lines → l ≡ get_or lines i l → slice_get (bytes_of lines) i ≡ Some l.items
line-at lines i l less is = search (rules, slice_get-map, slice_get_read)

-- one line more is the same
pub same-more : {A : Type 0} (xs ys : List A) (k : ℕ) → ((i : ℕ) → i < k → slice_get xs i ≡ slice_get ys i) → slice_get xs k ≡ slice_get ys k
    → (i : ℕ) → i < k + 1 → slice_get xs i ≡ slice_get ys i
same-more xs ys k before now i less = by (eq-or-lt_of_le (at_most less)) where
  at_most : i < k + 1 → i ≤ k
  at_most h = omega (arith, h)

  by : (i ≡ k) ⊎ (i < k) → slice_get xs i ≡ slice_get ys i
  by (inl e) = rw e now
  by (inr h) = before i h

-- lists of one length that have the same everywhere are equal
pub all-same : {A : Type 0} (xs ys : List A) → length xs ≡ length ys → ((i : ℕ) → i < length xs → slice_get xs i ≡ slice_get ys i) → xs ≡ ys
all-same [] [] len same = refl
all-same (x ∷ xs) (y ∷ ys) len same =
    let first : Some x ≡ Some y = same 0 (omega arith) in
    let one : x ≡ y = cc first in
    let rest : xs ≡ ys = all-same xs ys (omega (arith, len)) (λ i less. same (suc i) (omega (arith, less))) in
    rw (one, rest) refl
all-same _ _ len same = absurd (cc len)

pub lines-len : (lines : List (Vec ℕ Global)) → length (bytes_of lines) ≡ length lines
lines-len lines = length-map lines (λ (v : Vec ℕ Global). v.items)

-- so many lines are the same, and one has ended there, or they differ there
pub unmet-at : (xs ys : List (Vec ℕ Global)) (k : ℕ) → k ≤ length xs → k ≤ length ys
    → ((i : ℕ) → i < k → slice_get (bytes_of xs) i ≡ slice_get (bytes_of ys) i)
    → (k < length xs → k < length ys → slice_get (bytes_of xs) k ≢ slice_get (bytes_of ys) k)
    → ¬ ((k ≡ length xs) × (k ≡ length ys)) → IsFirstUnmet (bytes_of xs) (bytes_of ys) (k + 1)
unmet-at xs ys k in_xs in_ys same differ some = record { before = k; counted = refl; same = same; differ = λ e. apart e } where
  past : (zs : List (Vec ℕ Global)) → length zs ≤ k → slice_get (bytes_of zs) k ≡ None
  past zs h = slice_get_past (bytes_of zs) k (rw (lines-len zs) h)

  ends : (zs : List (Vec ℕ Global)) → slice_get (bytes_of zs) k ≡ None → length zs ≤ k
  ends zs none = by_cases (slice_get_cases (bytes_of zs) k).1 where
    by_cases : ((x : List ℕ) × (k < length (bytes_of zs)) × (slice_get (bytes_of zs) k ≡ Some x) × (get_or (bytes_of zs) k x ≡ x))
        ⊎ ((length (bytes_of zs) ≤ k) × (slice_get (bytes_of zs) k ≡ None)) → length zs ≤ k
    by_cases (inl (x, less, found, _)) = let bad = sym none ∙ found in absurd (cc bad)
    by_cases (inr (over, _)) = rw (sym (lines-len zs)) over

  apart : slice_get (bytes_of xs) k ≡ slice_get (bytes_of ys) k → ⊥
  apart e = at (eq-or-lt_of_le in_xs) (eq-or-lt_of_le in_ys) where
    at : (k ≡ length xs) ⊎ (k < length xs) → (k ≡ length ys) ⊎ (k < length ys) → ⊥
    at (inl a) (inl b) = some (a, b)
    at (inl a) (inr b) = let over = ends ys (sym e ∙ past xs (omega (arith, a))) in absurd (omega (arith, b, over))
    at (inr a) (inl b) = let over = ends xs (e ∙ past ys (omega (arith, b))) in absurd (omega (arith, a, over))
    at (inr a) (inr b) = differ a b e
