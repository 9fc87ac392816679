-- The first position at which two histories clash.
use Rattle.std.proofs.Common.{rules, ◌≡◌, ◌≢◌, ◌≤◌, ◌+◌, ℕ, zero, suc, List, ◌∷◌, refl, arith, inl, inr, []}
use Rattle.std.specs.Prelude.{Bool, true, false, Some, if◌then◌else◌}
use Rattle.std.proofs.lemmas.Slice.Eq.{bytes_eq-Decides}
use Rattle.noise_duel.proofs.Common.{Initiator, Responder, History, history_of, not, bytes_eq, sha256, hash_texts, TextsClashAt, HashesReport, and_parts, same_Some}
use Rattle.noise_duel.specs.Clash.{clash, first_clash, clash_position, FoundIsClash, ClashFound, ClashReported}

not-both : (b : Bool) → not b ≡ true → b ≡ true → ⊥
not-both true e f = cc
not-both false e f = cc

clash-differs : (x y : List ℕ) → clash x y ≡ true → x ≢ y
clash-differs x y h e = not-both (bytes_eq x y) (and_parts (not (bytes_eq x y)) (bytes_eq (sha256 x) (sha256 y)) h).0 ((bytes_eq-Decides x y).1 e)

clash-same : (x y : List ℕ) → clash x y ≡ true → sha256 x ≡ sha256 y
clash-same x y h = (bytes_eq-Decides (sha256 x) (sha256 y)).0 (and_parts (not (bytes_eq x y)) (bytes_eq (sha256 x) (sha256 y)) h).1

later : (x y : List ℕ) (xs ys : List (List ℕ)) (k : ℕ) → TextsClashAt xs ys k → TextsClashAt (x ∷ xs) (y ∷ ys) (suc k)
later x y xs ys k c = record { left = c.left; right = c.right; at_left = c.at_left; at_right = c.at_right; differ = c.differ; same = c.same }

abbrev MatchesFrom : ℕ → ℕ → List (List ℕ) → List (List ℕ) → Type 0
MatchesFrom n i xs ys = (k : ℕ) × (i ≡ n + k) × TextsClashAt xs ys k

matches-by : (b : Bool) (n i : ℕ) (x y : List ℕ) (xs ys : List (List ℕ)) → clash x y ≡ b
    → (if b then Some n else first_clash (n + 1) xs ys) ≡ Some i → (first_clash (n + 1) xs ys ≡ Some i → MatchesFrom (n + 1) i xs ys)
    → MatchesFrom n i (x ∷ xs) (y ∷ ys)
matches-by true n i x y xs ys c e more =
    let here : n ≡ i = same_Some n i e in
    (0, omega arith, record { left = x; right = y; at_left = refl; at_right = refl; differ = clash-differs x y c; same = clash-same x y c })
matches-by false n i x y xs ys c e more =
    let r = more e in
    let count : i ≡ (n + 1) + r.0 = r.1 in
    (suc r.0, omega arith, later x y xs ys r.0 r.2)

matches-from : (n i : ℕ) (xs ys : List (List ℕ)) → first_clash n xs ys ≡ Some i → MatchesFrom n i xs ys
matches-from n i (x ∷ xs) (y ∷ ys) e = matches-by (clash x y) n i x y xs ys refl e (matches-from (n + 1) i xs ys)
matches-from n i _ _ e = absurd (cc)

abbrev FoundFrom : ℕ → ℕ → List (List ℕ) → List (List ℕ) → Type 0
FoundFrom n k xs ys = (j : ℕ) × (first_clash n xs ys ≡ Some j) × (j ≤ n + k)

found-by : (b : Bool) (n k : ℕ) (x y : List ℕ) (xs ys : List (List ℕ)) → clash x y ≡ b → TextsClashAt (x ∷ xs) (y ∷ ys) k
    → ((m : ℕ) → TextsClashAt xs ys m → FoundFrom (n + 1) m xs ys)
    → (j : ℕ) × ((if b then Some n else first_clash (n + 1) xs ys) ≡ Some j) × (j ≤ n + k)
found-by true n k x y xs ys c at more = (n, refl, omega arith)
found-by false n zero x y xs ys c at more = search rules
found-by false n (suc k) x y xs ys c at more =
    let r =
    more k (record { left = at.left; right = at.right; at_left = at.at_left; at_right = at.at_right; differ = at.differ; same = at.same }) in
    let low : r.0 ≤ (n + 1) + k = r.2 in
    (r.0, r.1, omega arith)

found-from : (n k : ℕ) (xs ys : List (List ℕ)) → TextsClashAt xs ys k → FoundFrom n k xs ys
found-from n k [] ys c = absurd (let e = c.at_left in cc)
found-from n k (x ∷ xs) [] c = absurd (let e = c.at_right in cc)
found-from n k (x ∷ xs) (y ∷ ys) c = found-by (clash x y) n k x y xs ys refl c (λ m. found-from (n + 1) m xs ys)

pub clash-matches : FoundIsClash
unfolding clash_position
clash-matches r s i e = search (rules, matches-from)

pub clash-found : ClashFound
unfolding clash_position
clash-found r s i c =
    let w = found-from 0 i (hash_texts r) (hash_texts s) c in
    let low : w.0 ≤ 0 + i = w.2 in
    (w.0, w.1, omega arith)

pub clash-reported : HashesReport → ClashReported
clash-reported report_step p a b i j events notes d run one differ =
    elim (report_step p a b i j events notes d run one) [
      | inl same ↦ absurd (differ same)
      | inr c ↦
          let r : History = history_of p Initiator a d.initiator.passed in
          let s : History = history_of p Responder b d.responder.passed in
          let w = clash-found r s c.0 c.1 in
          (w.0, w.1, clash-matches r s w.0 w.1)
    ]
