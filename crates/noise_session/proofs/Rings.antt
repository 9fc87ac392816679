-- Rings that some accepted nonces have, and that a nonce more leaves one.
use Rattle.std.proofs.Common.{rules, ◌≡◌, ◌≢◌, ◌⊎◌, ℕ, zero, suc, ◌+◌, ◌-◌, ◌*◌, ◌/◌, ◌%◌, ◌^◌, ◌<◌, ◌≤◌, min, Bool, true, eqb, ltb, List, [], ◌∷◌, length, get_or, set, drop, refl, sym, ◌∙◌, ap, inl, inr, arith, get_or-set_same}
use Rattle.std.specs.Prelude.{◌&&◌}
use Rattle.std.specs.List.{list_all}
use Rattle.std.proofs.Math.Nat.{div-eq_of_lt, div_self, mod-eq_of_lt, min-le_left, min-le_right, le-min}
use Rattle.std.proofs.Math.Pow.{pow-lt}
use Rattle.std.proofs.lemmas.Nat.{or_shr, pow_pos}
use Rattle.noise_session.proofs.Common.{bit_or, ◌||◌, cases_lt, or_cases, eqb-true, ltb-true, and_parts, drop-drop, drop-set-lt, Ring, width_of, last_nonce, bitmap_len, top_word, begun_words, ends_at_greatest, is_ring}
use Rattle.noise_session.proofs.Ringing.{width-some, words-some}

-- ---- what the test says
abbrev are_zeros : List ℕ → Bool
are_zeros words = list_all (λ word. eqb word 0) words

-- where the highest bit of the top word is
abbrev IsTop : ℕ → ℕ → Type 0
IsTop word greatest = (word / 2 ^ (greatest % 64) ≡ 1) ⊎ ((greatest ≡ 0) × (word ≡ 0))

pub record IsRing (r : Ring) : Type 0 where
  pub below : r.greatest < last_nonce
  pub top : IsTop (top_word r) r.greatest
  pub beyond : are_zeros (drop (begun_words r) r.words) ≡ true

top-says : (word greatest : ℕ) → (eqb (word / 2 ^ (greatest % 64)) 1 || (eqb greatest 0 && eqb word 0)) ≡ true → IsTop word greatest
top-says word greatest e = elim (or_cases (eqb (word / 2 ^ (greatest % 64)) 1) (eqb greatest 0 && eqb word 0) e) [
  | inl one ↦ inl (eqb-true (word / 2 ^ (greatest % 64)) 1 one)
  | inr none ↦ let b = and_parts (eqb greatest 0) (eqb word 0) none in inr (eqb-true greatest 0 b.0, eqb-true word 0 b.1)
]

pub ring-says : (r : Ring) → is_ring r ≡ true → IsRing r
ring-says r e =
    let a = and_parts (ltb r.greatest last_nonce && ends_at_greatest r) (are_zeros (drop (begun_words r) r.words)) e in
    let b = and_parts (ltb r.greatest last_nonce) (ends_at_greatest r) a.0 in
    record { below = ltb-true r.greatest last_nonce b.0; top = top-says (top_word r) r.greatest b.1; beyond = a.1 }

-- ---- words that aren't begun
zeros-drop : (n : ℕ) (words : List ℕ) → are_zeros words ≡ true → are_zeros (drop n words) ≡ true
zeros-drop zero words e = e
zeros-drop (suc n) [] e = e
zeros-drop (suc n) (w ∷ ws) e = zeros-drop n ws (and_parts (eqb w 0) (are_zeros ws) e).1

zeros-more : (a b : ℕ) (words : List ℕ) → a ≤ b → are_zeros (drop a words) ≡ true → are_zeros (drop b words) ≡ true
zeros-more a b words le e =
    ap (λ (n : ℕ). are_zeros (drop n words)) (omega arith)
    ∙ ap are_zeros (sym (drop-drop (b - a) a words))
    ∙ zeros-drop (b - a) (drop a words) e

min-more : (w a b : ℕ) → a ≤ b → min w a ≤ min w b
min-more w a b le = le-min (min-le_left w a) (omega (arith, min-le_right w a))

-- ---- bits
bit-alone : (k : ℕ) → k < 64 → 1 * 2 ^ k % 2 ^ 64 ≡ 2 ^ k
bit-alone k small = ap (λ (m : ℕ). m % 2 ^ 64) (omega arith) ∙ mod-eq_of_lt (pow-lt small)

-- a bit at or below the highest one leaves it the highest
lifted : (word k g : ℕ) → k < 64 → ((word / 2 ^ g ≡ 1) × (k ≤ g)) ⊎ ((word / 2 ^ g ≡ 0) × (k ≡ g)) → bit_or word (1 * 2 ^ k % 2 ^ 64) / 2 ^ g ≡ 1
lifted word k g small h =
    let two = ap (λ (b : ℕ). bit_or word b / 2 ^ g) (bit-alone k small) ∙ or_shr word (2 ^ k) g in
    let same : k ≡ g → 2 ^ k / 2 ^ g ≡ 1 = λ e. ap (λ (m : ℕ). 2 ^ m / 2 ^ g) e ∙ div_self (pow_pos g) in
    two ∙ elim h [
      | inl there ↦ ap (λ (q : ℕ). bit_or q (2 ^ k / 2 ^ g)) there.0 ∙ elim (cases_lt k g) [
        | inl less ↦ ap (bit_or 1) (div-eq_of_lt (pow-lt less))
        | inr more ↦ let le = there.1 in ap (bit_or 1) (same (omega arith))
      ]
      | inr none ↦ ap (λ (q : ℕ). bit_or q (2 ^ k / 2 ^ g)) none.0 ∙ same none.1
    ]

-- a word has no bit above its highest one
above : (word j k : ℕ) → j < k → word / 2 ^ j ≡ 1 → word / 2 ^ k ≡ 0
above word j k less one = search (rules, pow-lt)

nothing : (k : ℕ) → 0 / 2 ^ k ≡ 0
nothing k = div-eq_of_lt (pow_pos k)

-- ---- a nonce more
-- the ring with a greatest nonce that is at least n, when n isn't marked yet
pub record IsOpen (r : Ring) (n : ℕ) : Type 0 where
  pub below : r.greatest < last_nonce
  pub within : n ≤ r.greatest
  pub near : r.greatest < n + width_of r.window
  pub top : (top_word r / 2 ^ (r.greatest % 64) ≡ 1) ⊎ ((top_word r / 2 ^ (r.greatest % 64) ≡ 0) × (n ≡ r.greatest))
  pub beyond : are_zeros (drop (begun_words r) r.words) ≡ true

pub open-unchanged : (r : Ring) (n : ℕ) → IsRing r → r.greatest < n + width_of r.window → n ≤ r.greatest → IsOpen r n
open-unchanged r n h near low = record {
  below = h.below;
  within = low;
  near = near;
  top = elim h.top [
    | inl one ↦ inl one
    | inr none ↦ let least = none.0 in inr (ap (λ (w : ℕ). w / 2 ^ (r.greatest % 64)) none.1 ∙ nothing (r.greatest % 64), omega arith)
  ];
  beyond = h.beyond;
}

module _ (r : Ring) (n : ℕ) (words : List ℕ) (h : IsRing r) (more : r.greatest < n) where
  unmarked : ((b : ℕ) → r.greatest / 64 < b → b ≤ n / 64 → n / 64 < b + bitmap_len r.window → get_or words (b % bitmap_len r.window) 0 ≡ 0)
      → ((b : ℕ) → b ≤ r.greatest / 64 → n / 64 < b + bitmap_len r.window → get_or words (b % bitmap_len r.window) 0 ≡ get_or r.words (b % bitmap_len r.window) 0)
      → get_or words (n / 64 % bitmap_len r.window) 0 / 2 ^ (n % 64) ≡ 0
  unmarked fresh unchanged =
      let some = words-some r.window in
      elim (cases_lt (r.greatest / 64) (n / 64)) [
        | inl later ↦ ap (λ (w : ℕ). w / 2 ^ (n % 64)) (fresh (n / 64) later (omega arith) (omega arith)) ∙ nothing (n % 64)
        | inr back ↦
            let same : n / 64 ≡ r.greatest / 64 = omega arith in
            let less : r.greatest % 64 < n % 64 = omega arith in
            let is : get_or words (n / 64 % bitmap_len r.window) 0 ≡ top_word r = search rules in
            ap (λ (w : ℕ). w / 2 ^ (n % 64)) is ∙ elim h.top [
              | inl one ↦ above (top_word r) (r.greatest % 64) (n % 64) less one
              | inr none ↦ ap (λ (w : ℕ). w / 2 ^ (n % 64)) none.1 ∙ nothing (n % 64)
            ]
      ]

  pub open-moved : n < last_nonce
      → ((b : ℕ) → r.greatest / 64 < b → b ≤ n / 64 → n / 64 < b + bitmap_len r.window → get_or words (b % bitmap_len r.window) 0 ≡ 0)
      → ((b : ℕ) → b ≤ r.greatest / 64 → n / 64 < b + bitmap_len r.window → get_or words (b % bitmap_len r.window) 0 ≡ get_or r.words (b % bitmap_len r.window) 0)
      → drop (min (bitmap_len r.window) (n / 64 + 1)) words ≡ drop (min (bitmap_len r.window) (n / 64 + 1)) r.words
      → IsOpen (record { window = r.window; greatest = n; words = words }) n
  open-moved small fresh unchanged beyond =
      let some = width-some r.window in
      record {
        below = small;
        within = omega arith;
        near = omega arith;
        top = inr (unmarked fresh unchanged, refl);
        beyond =
            ap are_zeros beyond
            ∙ zeros-more (begun_words r) (min (bitmap_len r.window) (n / 64 + 1)) r.words
            (min-more (bitmap_len r.window) (r.greatest / 64 + 1) (n / 64 + 1) (omega arith)) h.beyond;
      }

module _ (r : Ring) (n : ℕ) (room : length r.words ≡ 17) (h : IsOpen r n) where
  marked : ℕ
  marked = bit_or (get_or r.words (n / 64 % bitmap_len r.window) 0) (1 * 2 ^ (n % 64) % 2 ^ 64)

  words : List ℕ
  words = set r.words (n / 64 % bitmap_len r.window) (bit_or (get_or r.words (n / 64 % bitmap_len r.window) 0) (1 * 2 ^ (n % 64) % 2 ^ 64))

  same-top : n / 64 ≡ r.greatest / 64 → get_or words (r.greatest / 64 % bitmap_len r.window) 0 / 2 ^ (r.greatest % 64) ≡ 1
  unfolding words marked
  same-top same =
      let some = words-some r.window in
      let low = h.within in
      let within : n / 64 % bitmap_len r.window < length r.words = omega arith in
      let old : get_or r.words (n / 64 % bitmap_len r.window) 0 ≡ top_word r = ap (λ (b : ℕ). get_or r.words (b % bitmap_len r.window) 0) same in
      ap (λ (b : ℕ). get_or words (b % bitmap_len r.window) 0 / 2 ^ (r.greatest % 64)) (sym same)
      ∙ ap (λ (w : ℕ). w / 2 ^ (r.greatest % 64)) (get_or-set_same r.words (n / 64 % bitmap_len r.window) marked 0 within)
      ∙ lifted (get_or r.words (n / 64 % bitmap_len r.window) 0) (n % 64) (r.greatest % 64) (omega arith) (elim h.top [
        | inl one ↦ inl (ap (λ (w : ℕ). w / 2 ^ (r.greatest % 64)) old ∙ one, omega arith)
        | inr none ↦ inr (ap (λ (w : ℕ). w / 2 ^ (r.greatest % 64)) old ∙ none.0, ap (λ (m : ℕ). m % 64) none.1)
      ])

  other-top : n / 64 ≢ r.greatest / 64 → get_or words (r.greatest / 64 % bitmap_len r.window) 0 / 2 ^ (r.greatest % 64) ≡ 1
  unfolding words marked
  other-top other = search rules

  begun : n / 64 % bitmap_len r.window < begun_words r
  begun = search rules

  pub ring-marked : is_ring (record {
    window = r.window;
    greatest = r.greatest;
    words = set r.words (n / 64 % bitmap_len r.window) (bit_or (get_or r.words (n / 64 % bitmap_len r.window) 0) (1 * 2 ^ (n % 64) % 2 ^ 64));
  }) ≡ true
  unfolding words marked
  ring-marked = search (rules, same-top, drop-set-lt)
