-- What is known of a frame when bytes come to those that are held.
use Rattle.std.proofs.Common.{rules, ◌≡◌, ◌≢◌, ℕ, ◌+◌, ◌-◌, ◌==◌, ◌<◌, ◌≤◌, nat_lt, List, ◌++◌, length, take, drop, Bool, true, false, refl, sym, ◌∙◌, ap, arith, length-drop, append_assoc}
use Rattle.std.proofs.lemmas.List.{take-append-le}
use Rattle.std.proofs.Math.Seq.{take-append-add}
use Rattle.noise_session.proofs.Common.{take-take, length-take-le, take-append-drop, drop-take, take_rest, take_all, big_bytes, frame_length, IsPartial, eqb-true, ltb-false, eqb-false}

-- nothing that comes after the first two bytes changes it
length-same : (xs ys : List ℕ) → 2 ≤ length xs → 2 ≤ length ys → take 2 xs ≡ take 2 ys → frame_length xs ≡ frame_length ys
length-same xs ys long other same = search rules

-- So many bytes of p come to the first h of xs, of a frame of w, and those are then the first of ys, of a frame of u.
module _ (xs ys p : List ℕ) (h n w u : ℕ) (joined : take (h + n) ys ≡ take h xs ++ p) (came : length p ≡ n) (room : h + n ≤ length xs)
    (unchanged_room : length ys ≡ length xs)
    (known : w ≡ frame_length (take h xs)) (fits : h + n ≤ w) (low : w ≤ 65537) (spelled : 2 ≤ h → take 2 xs ≡ big_bytes 2 (w - 2))
    (read : h + n ≡ 2 → (u ≡ frame_length (take 2 ys)) × (u ≤ 65537) × (take 2 ys ≡ big_bytes 2 (u - 2))) (unchanged : h + n ≢ 2 → u ≡ w) where
  length-front : length (take h xs) ≡ h
  length-front = length-take-le h xs (omega arith)

  first-two : 2 ≤ h → take 2 ys ≡ take 2 xs
  first-two two =
      let front = length-front in
      sym (take-take 2 (h + n) ys (omega arith)) ∙ (ap (take 2) joined ∙ (take-append-le 2 (take h xs) p (omega arith) ∙ take-take 2 h xs two))

  at-most : (b : Bool) → (h + n == 2) ≡ b → u ≤ 65537
  at-most true e = (read (eqb-true (h + n) 2 e)).1
  at-most false e = let same = unchanged (eqb-false (h + n) 2 e) in omega arith

  begun : (b : Bool) → nat_lt h 2 ≡ b → h + n ≢ 2 → 2 ≤ h + n → 2 ≤ h
  begun true e not long = search rules
  begun false e not long = ltb-false h 2 e

  known-by : (b d : Bool) → (h + n == 2) ≡ b → nat_lt (h + n) 2 ≡ d → u ≡ frame_length (take (h + n) ys)
  known-by true d e f = search rules
  known-by false true e f = search rules
  known-by false false e f = search (rules, length-same)

  spelled-by : (b : Bool) → (h + n == 2) ≡ b → 2 ≤ h + n → take 2 ys ≡ big_bytes 2 (u - 2)
  spelled-by true e long = (read (eqb-true (h + n) 2 e)).2
  spelled-by false e long = search (rules, first-two)

  within-by : (b : Bool) → (h + n == 2) ≡ b → h + n ≤ u
  within-by true e = search rules
  within-by false e = let same = unchanged (eqb-false (h + n) 2 e) in omega arith

  pub grown-most : u ≤ 65537
  grown-most = at-most (h + n == 2) refl

  pub grown-within : h + n ≤ u
  grown-within = within-by (h + n == 2) refl

  pub grown-known : u ≡ frame_length (take (h + n) ys)
  grown-known = known-by (h + n == 2) (nat_lt (h + n) 2) refl refl

  pub grown-spelled : 2 ≤ h + n → take 2 ys ≡ big_bytes 2 (u - 2)
  grown-spelled = spelled-by (h + n == 2) refl

-- Bytes of a piece come in two parts.
pub two-parts : (old mid new piece : List ℕ) (first second : ℕ) → mid ≡ old ++ take first piece
    → new ≡ mid ++ take second (take (length piece - first) (drop first piece)) → new ≡ old ++ take (first + second) piece
two-parts old mid new piece first second to_mid to_new =
    let joined : take first piece ++ take second (drop first piece) ≡ take (first + second) piece =
    ap (λ (xs : List ℕ). xs ++ take second (drop first piece)) (sym (take-take first (first + second) piece (omega arith)))
    ∙ (ap (λ (xs : List ℕ). take first (take (first + second) piece) ++ xs) (sym (drop-take first second piece))
    ∙ take-append-drop first (take (first + second) piece)) in
    to_new
    ∙ (ap (λ (xs : List ℕ). mid ++ take second xs) (take_rest piece first)
    ∙ (ap (λ (xs : List ℕ). xs ++ take second (drop first piece)) to_mid
    ∙ (append_assoc old (take first piece) (take second (drop first piece)) ∙ ap (λ (xs : List ℕ). old ++ xs) joined)))

pub front-read : (old post read : List ℕ) (at n : ℕ) → at ≤ length old → n ≤ length read
    → take (at + n) (take at old ++ (read ++ post)) ≡ take at old ++ take n read
front-read old post read at n within fits = search (rules, take-append-add, take-append-le)

-- All bytes of a piece come, in two parts, where the frame isn't whole with them.
module _ (old mid new piece : List ℕ) (first second : ℕ) (to_mid : mid ≡ old ++ take first piece)
    (to_new : new ≡ mid ++ take second (take (length piece - first) (drop first piece))) (some : first ≤ length piece)
    (more : second ≤ length (take (length piece - first) (drop first piece))) (all_first : length mid < frame_length old → first ≡ length piece)
    (all_second : length new < frame_length mid → second ≡ length (take (length piece - first) (drop first piece))) (partial : IsPartial new) where
  rest-long : length (take (length piece - first) (drop first piece)) ≡ length piece - first
  rest-long = ap length (take_rest piece first) ∙ length-drop first piece

  all-by : (b : Bool) → nat_lt (length mid) 2 ≡ b → first + second ≡ length piece
  all-by true e = search rules
  all-by false e = search (rules, length-same, rest-long)

  pub all-came : new ≡ old ++ piece
  all-came =
      two-parts old mid new piece first second to_mid to_new
      ∙ ap (λ (k : ℕ). old ++ take k piece) (all-by (nat_lt (length mid) 2) refl)
      ∙ ap (λ (xs : List ℕ). old ++ xs) (take_all (length piece) piece (omega arith))
