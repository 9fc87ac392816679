-- What a ring of words recalls of the accepted nonces.
use Rattle.std.proofs.Common.{rules, ◌≡◌, ◌≢◌, ℕ, ◌+◌, ◌-◌, ◌*◌, ◌/◌, ◌%◌, ◌^◌, ◌<◌, ◌≤◌, Bool, true, false, eqb, leb, List, [], ◌∷◌, length, get_or, set, refl, sym, ◌∙◌, ap, inl, inr, arith, eq-eqb, get_or-set_other}
use Rattle.std.proofs.Math.Nat.{mul-le-mul_left}
use Rattle.std.proofs.lemmas.Nat.Bits.{bit_at-zero, bit_at_set_same, bit_at_set_other}
use Rattle.noise_session.proofs.Common.{bit_at, w64, bit_or, cases_lt, cases_eq, cases_Bool, or_cases, or_left, or_right, eqb-true, leb-true, le-leb, lt-leb, ne_eqb, false≢true, Ring, width_of, bitmap_len, is_accepted, is_below, is_marked, is_old, bit_of, Recalls, ring_fault, window_fault}
use Rattle.std.specs.Prelude.{◌&&◌}
use Rattle.noise_events.specs.declared.window.Window.{Window}
use Rattle.noise_events.specs.declared.window.Window.TheVariants.{W64, W256, W1024}

-- ---- places of blocks
pub place-apart : (r a b : ℕ) → a < b → b < a + r → a % r ≢ b % r
place-apart r a b less near same = search (rules, mul-le-mul_left)

-- ---- old nonces
old-witness : (width : ℕ) (accepted : List ℕ) (n : ℕ) → is_old width accepted n ≡ true → (m : ℕ) × (is_accepted accepted m ≡ true) × (n + width ≤ m)
old-witness width [] n e = absurd (false≢true e)
old-witness width (m ∷ ms) n e =
    elim (or_cases (leb (n + width) m) (is_old width ms n) e) [
      | inl here ↦ (m, or_left (eqb m m) (is_accepted ms m) (eq-eqb m m refl), leb-true (n + width) m here)
      | inr there ↦ let w = old-witness width ms n there in (w.0, or_right (eqb m w.0) (is_accepted ms w.0) w.1, w.2)
    ]

old-from : (width : ℕ) (accepted : List ℕ) (n m : ℕ) → is_accepted accepted m ≡ true → n + width ≤ m → is_old width accepted n ≡ true
old-from width [] n m e far = absurd (false≢true e)
old-from width (k ∷ ks) n m e far =
    elim (or_cases (eqb k m) (is_accepted ks m) e) [
      | inl here ↦ let same = eqb-true k m here in or_left (leb (n + width) k) (is_old width ks n) (le-leb (n + width) k (omega arith))
      | inr there ↦ or_right (leb (n + width) k) (is_old width ks n) (old-from width ks n m there far)
    ]

pub width-some : (window : Window) → 0 < width_of window
width-some W64 = omega arith
width-some W256 = omega arith
width-some W1024 = omega arith

pub words-some : (window : Window) → (0 < bitmap_len window) × (bitmap_len window ≤ 17)
words-some W64 = (omega arith, omega arith)
words-some W256 = (omega arith, omega arith)
words-some W1024 = (omega arith, omega arith)

-- the blocks that the window touches have a word each
pub touched : (window : Window) (n g : ℕ) → g < n + width_of window → g / 64 < n / 64 + bitmap_len window
touched W64 n g near = omega arith
touched W256 n g near = omega arith
touched W1024 n g near = omega arith

pub below-reported : (r : Ring) (n : ℕ) → leb (width_of r.window) (r.greatest - n) ≡ is_below r n
below-reported r n =
    let some = width-some r.window in
    elim (cases_lt (r.greatest - n) (width_of r.window)) [
      | inl near ↦
          lt-leb (width_of r.window) (r.greatest - n) near ∙ sym (lt-leb (n + width_of r.window) r.greatest (omega arith))
      | inr far ↦
          le-leb (width_of r.window) (r.greatest - n) far ∙ sym (le-leb (n + width_of r.window) r.greatest (omega arith))
    ]

old-reported : (r : Ring) (accepted : List ℕ) (n : ℕ) → Recalls r accepted → is_below r n ≡ is_old (width_of r.window) accepted n
old-reported r accepted n h =
    let some = width-some r.window in
    elim (cases_Bool (is_old (width_of r.window) accepted n)) [
      | inl old ↦
          let w = old-witness (width_of r.window) accepted n old in
          let most = h.greatest w.0 w.1 in
          le-leb (n + width_of r.window) r.greatest (omega arith) ∙ sym old
      | inr not ↦
          elim (cases_lt r.greatest (n + width_of r.window)) [
            | inl near ↦ lt-leb (n + width_of r.window) r.greatest near ∙ sym not
            | inr far ↦ absurd (false≢true (sym not ∙ old-from (width_of r.window) accepted n r.greatest (h.reached (omega arith)) far))
          ]
    ]

-- a nonce that isn't old is near the greatest
pub near-reported : (r : Ring) (accepted : List ℕ) (n : ℕ) → Recalls r accepted → is_old (width_of r.window) accepted n ≡ false
    → r.greatest / 64 < n / 64 + bitmap_len r.window
near-reported r accepted n h not =
    let some = width-some r.window in
    touched r.window n r.greatest (elim (cases_lt r.greatest (n + width_of r.window)) [
      | inl near ↦ near
      | inr far ↦ absurd (false≢true (sym not ∙ old-from (width_of r.window) accepted n r.greatest (h.reached (omega arith)) far))
    ])

-- ---- a nonce more
-- the ring with a greatest nonce that is at least n, when n isn't marked yet
pub record Ready (r : Ring) (accepted : List ℕ) (n : ℕ) : Type 0 where
  pub most : (m : ℕ) → is_accepted accepted m ≡ true → m ≤ r.greatest
  pub above : n ≤ r.greatest
  pub reached : 0 < r.greatest → is_accepted (n ∷ accepted) r.greatest ≡ true
  pub near : r.greatest / 64 < n / 64 + bitmap_len r.window
  pub bits : (m : ℕ) → m / 64 ≤ r.greatest / 64 → r.greatest / 64 < m / 64 + bitmap_len r.window → eqb (bit_of r m) 1 ≡ is_accepted accepted m

pub ready-unchanged : (r : Ring) (accepted : List ℕ) (n : ℕ) → Recalls r accepted → is_old (width_of r.window) accepted n ≡ false
    → n ≤ r.greatest → Ready r accepted n
ready-unchanged r accepted n h not below = record {
  most = h.greatest;
  above = below;
  reached = λ some. or_right (eqb n r.greatest) (is_accepted accepted r.greatest) (h.reached some);
  near = near-reported r accepted n h not;
  bits = h.bits;
}

beyond : (accepted : List ℕ) (g m : ℕ) → ((k : ℕ) → is_accepted accepted k ≡ true → k ≤ g) → g < m → is_accepted accepted m ≡ false
beyond accepted g m most more = search rules

marked-reported : (r : Ring) (accepted : List ℕ) (n : ℕ) → Recalls r accepted → is_old (width_of r.window) accepted n ≡ false
    → is_marked r n ≡ is_accepted accepted n
marked-reported r accepted n h not = elim (cases_lt r.greatest n) [
  | inl above ↦
      ap (λ (b : Bool). b && eqb (bit_of r n) 1) (lt-leb n r.greatest above) ∙ sym (beyond accepted r.greatest n h.greatest above)
  | inr within ↦
      ap (λ (b : Bool). b && eqb (bit_of r n) 1) (le-leb n r.greatest within)
      ∙ h.bits n (omega arith) (near-reported r accepted n h not)
]

-- the faults of a ring are those of the nonces that it recalls
pub ring-reported : (r : Ring) (accepted : List ℕ) (n : ℕ) → Recalls r accepted → ring_fault r n ≡ window_fault (width_of r.window) accepted n
ring-reported r accepted n h =
    let old = old-reported r accepted n h in
    elim (cases_Bool (is_old (width_of r.window) accepted n)) [
      | inl is ↦ rw (old, is) refl
      | inr not ↦ rw (old, not, marked-reported r accepted n h not) refl
    ]

module _ (r : Ring) (accepted : List ℕ) (n : ℕ) (words : List ℕ) where
  pub ready-moved : Recalls r accepted → r.greatest < n
      → ((b : ℕ) → r.greatest / 64 < b → b ≤ n / 64 → n / 64 < b + bitmap_len r.window → get_or words (b % bitmap_len r.window) 0 ≡ 0)
      → ((b : ℕ) → b ≤ r.greatest / 64 → n / 64 < b + bitmap_len r.window → get_or words (b % bitmap_len r.window) 0 ≡ get_or r.words (b % bitmap_len r.window) 0)
      → Ready (record { window = r.window; greatest = n; words = words }) accepted n
  ready-moved h more fresh unchanged =
      let some = words-some r.window in
      record {
        most = λ m e. let low = h.greatest m e in omega arith;
        above = omega arith;
        reached = λ _. or_left (eqb n n) (is_accepted accepted n) (eq-eqb n n refl);
        near = omega arith;
        bits = λ m low near. elim (cases_lt (r.greatest / 64) (m / 64)) [
          | inl above ↦
              ap (λ (w : ℕ). eqb (bit_at w (m % 64)) 1) (fresh (m / 64) above low near)
              ∙ ap (λ (b : ℕ). eqb b 1) (bit_at-zero (m % 64))
              ∙ sym (beyond accepted r.greatest m h.greatest (omega arith))
          | inr below ↦
              ap (λ (w : ℕ). eqb (bit_at w (m % 64)) 1) (unchanged (m / 64) below near) ∙ h.bits m below (omega arith)
        ];
      }

module _ (r : Ring) (accepted : List ℕ) (n : ℕ) (room : length r.words ≡ 17) (h : Ready r accepted n) where
  place : ℕ
  place = n / 64 % bitmap_len r.window

  marked : ℕ
  marked = bit_or (get_or r.words (n / 64 % bitmap_len r.window) 0) (1 * 2 ^ (n % 64) % 2 ^ 64)

  words : List ℕ
  words = set r.words (n / 64 % bitmap_len r.window) (bit_or (get_or r.words (n / 64 % bitmap_len r.window) 0) (1 * 2 ^ (n % 64) % 2 ^ 64))

  same-block : (m : ℕ) → m / 64 ≡ n / 64 → get_or words (m / 64 % bitmap_len r.window) 0 ≡ marked
  unfolding words marked
  same-block m same = search rules

  other-block : (m : ℕ) → m / 64 ≢ n / 64 → m / 64 ≤ r.greatest / 64 → r.greatest / 64 < m / 64 + bitmap_len r.window
      → get_or words (m / 64 % bitmap_len r.window) 0 ≡ get_or r.words (m / 64 % bitmap_len r.window) 0
  unfolding words marked
  other-block m other low near =
      let above = h.above in
      let reach = h.near in
      let apart : m / 64 % bitmap_len r.window ≢ n / 64 % bitmap_len r.window = elim (cases_lt (m / 64) (n / 64)) [
        | inl less ↦ place-apart (bitmap_len r.window) (m / 64) (n / 64) less (omega arith)
        | inr more ↦ λ e. place-apart (bitmap_len r.window) (n / 64) (m / 64) (omega arith) (omega arith) (sym e)
      ] in
      get_or-set_other r.words (n / 64 % bitmap_len r.window) (m / 64 % bitmap_len r.window) marked 0 apart

  unlike : (m : ℕ) → n ≢ m → is_accepted accepted m ≡ is_accepted (n ∷ accepted) m
  unlike m ne = rw (ne_eqb n m ne) refl

  bit-reported : (m : ℕ) → m / 64 ≤ r.greatest / 64 → r.greatest / 64 < m / 64 + bitmap_len r.window
      → eqb (bit_at (get_or words (m / 64 % bitmap_len r.window) 0) (m % 64)) 1 ≡ is_accepted (n ∷ accepted) m
  unfolding marked
  bit-reported m low near = elim (cases_eq (m / 64) (n / 64)) [
    | inl same ↦
        let word = ap (λ (w : ℕ). eqb (bit_at w (m % 64)) 1) (same-block m same) in
        elim (cases_eq (m % 64) (n % 64)) [
          | inl bit ↦
              let is : n ≡ m = omega arith in
              word ∙ ap (λ (i : ℕ). eqb (bit_at marked i) 1) bit
              ∙ ap (λ (b : ℕ). eqb b 1) (bit_at_set_same w64 (get_or r.words (n / 64 % bitmap_len r.window) 0) (n % 64) (omega arith))
              ∙ sym (or_left (eqb n m) (is_accepted accepted m) (eq-eqb n m is))
          | inr other ↦
              let old = ap (λ (b : ℕ). get_or r.words (b % bitmap_len r.window) 0) same in
              word
              ∙ ap (λ (b : ℕ). eqb b 1) (bit_at_set_other w64 (get_or r.words (n / 64 % bitmap_len r.window) 0) (n % 64) (omega arith) (m % 64) other)
              ∙ ap (λ (w : ℕ). eqb (bit_at w (m % 64)) 1) (sym old)
              ∙ h.bits m low near
              ∙ unlike m (λ e. other (ap (λ (k : ℕ). k % 64) (sym e)))
        ]
    | inr other ↦
        ap (λ (w : ℕ). eqb (bit_at w (m % 64)) 1) (other-block m other low near)
        ∙ h.bits m low near
        ∙ unlike m (λ e. other (ap (λ (k : ℕ). k / 64) (sym e)))
  ]

  pub recalls-marked : Recalls (record {
    window = r.window;
    greatest = r.greatest;
    words = set r.words (n / 64 % bitmap_len r.window) (bit_or (get_or r.words (n / 64 % bitmap_len r.window) 0) (1 * 2 ^ (n % 64) % 2 ^ 64));
  }) (n ∷ accepted)
  unfolding words
  recalls-marked = record {
    greatest = λ m e. elim (or_cases (eqb n m) (is_accepted accepted m) e) [
      | inl here ↦ let same = eqb-true n m here in let above = h.above in omega arith
      | inr there ↦ h.most m there
    ];
    reached = h.reached;
    bits = bit-reported;
  }
