-- Where a byte stands first, and what decimal numbers look like.
use Rattle.std.proofs.Common.{rules, arith, ◌≡◌, ◌∙◌, ◌+◌, ◌-◌, ◌<◌, ◌≤◌, ◌^◌, ◌==◌, not, true, false, ap, refl, sym, add-one, eq-eqb, lit<, ℕ, zero, suc, List, ◌∷◌, ◌++◌, Some, None, length, get_or, take, drop, Bool, inl, inr, subst, ◌⊎◌, []}
use Rattle.std.specs.Prelude.{decimal}
use Rattle.std.specs.Str.Parse.{AllDigits}
use Rattle.std.proofs.lemmas.List.Quantifiers.{position-Some}
use Rattle.std.proofs.lemmas.Str.Parse.{digit_at, tells_digits}
use Rattle.noise_vectors.proofs.Common.{position, prefix_len, and_parts, eqb-true, nat_tests, decimal_digit, decimal_is_IsNumeral, first_decimal, append_assoc, length-append, length-drop, take-append-drop, drop-append_seam, drop-cons, take-append_seam, take-length, lacks}

-- ---- the first place of a byte

first_len : (byte : ℕ) (before after : List ℕ) → lacks byte before ≡ true
    → prefix_len (λ b. not (b == byte)) (before ++ byte ∷ after) ≡ length before
first_len byte [] after h = rw (eq-eqb byte byte refl) refl
first_len byte (b ∷ bs) after h =
    let parts = and_parts (not (b == byte)) (lacks byte bs) h in
    let more = first_len byte bs after parts.1 in
    rw parts.0 (omega (arith, more))

-- it stands after what lacks it
pub position-first : (byte : ℕ) (before after : List ℕ) → lacks byte before ≡ true
    → position (λ b. b == byte) (before ++ byte ∷ after) ≡ Some (length before)
position-first byte before after h = search (rules, first_len, length-append)

pub place-first : (byte : ℕ) (text before after : List ℕ) (place : ℕ) → Some place ≡ position (λ b. b == byte) text
    → lacks byte before ≡ true → text ≡ before ++ byte ∷ after → place ≡ length before
place-first byte text before after place found h e = search (rules, position-first)

pub no-place : (byte : ℕ) (text before after : List ℕ) → None ≡ position (λ b. b == byte) text
    → lacks byte before ≡ true → ¬ (text ≡ before ++ byte ∷ after)
no-place byte text before after none h e = search (rules, position-first)

-- what comes before that place and after it
pub parted : (byte : ℕ) (text before after : List ℕ) (place : ℕ) → text ≡ before ++ byte ∷ after → place ≡ length before
    → (take place text ≡ before) × (take (length text - (place + 1)) (drop (place + 1) text) ≡ after)
parted byte text before after place e at =
    let len : length text ≡ length before + length (byte ∷ after) = ap length e ∙ length-append before (byte ∷ after) in
    let front : take (length before) text ≡ before = ap (take (length before)) e ∙ take-append_seam before (byte ∷ after) in
    let whole : text ≡ (before ++ byte ∷ []) ++ after = e ∙ sym (append_assoc before (byte ∷ []) after) in
    let one : length (before ++ byte ∷ []) ≡ length before + 1 = length-append before (byte ∷ []) in
    let next : place + 1 ≡ length (before ++ byte ∷ []) = omega arith in
    let rest : drop (length (before ++ byte ∷ [])) text ≡ after =
    ap (drop (length (before ++ byte ∷ []))) whole ∙ drop-append_seam (before ++ byte ∷ []) after in
    let left : length text - length (before ++ byte ∷ []) ≡ length after = omega arith in
    (rw at front, rw (next, left, rest) (take-length after))

-- the text is what comes before it, the byte, and what follows it
pub parts-at : (byte : ℕ) (text : List ℕ) (place : ℕ) → Some place ≡ position (λ b. b == byte) text
    → text ≡ take place text ++ byte ∷ take (length text - (place + 1)) (drop (place + 1) text)
parts-at byte text place found =
    let at = position-Some (λ b. b == byte) text place 0 (sym found) in
    let inside : place < length text = at.0 in
    let first : drop place text ≡ get_or text place 0 ∷ drop (place + 1) text = rw (add-one, drop-cons text place 0) in
    let whole : take (length text - (place + 1)) (drop (place + 1) text) ≡ drop (place + 1) text =
    rw (← (length-drop (place + 1) text)) (take-length (drop (place + 1) text)) in
    rw whole (sym (take-append-drop place text)
    ∙ ap (λ (t : List ℕ). take place text ++ t) (first ∙ ap (λ (b : ℕ). b ∷ drop (place + 1) text) (eqb-true (get_or text place 0) byte at.1)))

-- a text with the byte doesn't lack it
pub not_lacks : (byte : ℕ) (before after : List ℕ) → ¬ (lacks byte (before ++ byte ∷ after) ≡ true)
not_lacks byte [] after h = search rules
not_lacks byte (b ∷ bs) after h = search ((not_lacks byte bs after (and_parts (not (b == byte)) (lacks byte (bs ++ byte ∷ after)) h).1))

-- a text that is parted by its first such byte
pub record Parted (byte : ℕ) (text : List ℕ) : Type 0 where
  pub before : List ℕ
  pub after : List ℕ
  pub plain : lacks byte before ≡ true
  pub text_is : text ≡ before ++ byte ∷ after

parted-step : (byte b : ℕ) (bs : List ℕ) (test : Bool) → (b == byte) ≡ test → (lacks byte bs ≡ true) ⊎ Parted byte bs
    → (lacks byte (b ∷ bs) ≡ true) ⊎ Parted byte (b ∷ bs)
parted-step byte b bs true e rest =
    inr (record { before = []; after = bs; plain = refl; text_is = ap (λ (n : ℕ). n ∷ bs) (eqb-true b byte e) })
parted-step byte b bs false e (inl h) = inl (rw (e, h) refl)
parted-step byte b bs false e (inr s) =
    inr (record { before = b ∷ s.before; after = s.after; plain = rw (e, s.plain) refl; text_is = ap (λ (t : List ℕ). b ∷ t) s.text_is })

-- a text lacks the byte, or is parted by it
lacks-or : (byte : ℕ) (text : List ℕ) → (lacks byte text ≡ true) ⊎ Parted byte text
lacks-or byte [] = inl refl
lacks-or byte (b ∷ bs) = parted-step byte b bs (b == byte) refl (lacks-or byte bs)

-- without a place the text lacks the byte
pub lacks-no_place : (byte : ℕ) (text : List ℕ) → None ≡ position (λ b. b == byte) text → lacks byte text ≡ true
lacks-no_place byte text none = search (rules, lacks-or, no-place)

-- what comes before the first place lacks the byte
pub lacks-front : (byte : ℕ) (text : List ℕ) (place : ℕ) → Some place ≡ position (λ b. b == byte) text → lacks byte (take place text) ≡ true
lacks-front byte text place found =
    elim (lacks-or byte text) [
      | inl h ↦ absurd (not_lacks byte (take place text) (take (length text - (place + 1)) (drop (place + 1) text))
          (subst (λ (t : List ℕ). lacks byte t ≡ true) (parts-at byte text place found) h))
      | inr s ↦
          let parts = parted byte text s.before s.after place s.text_is (place-first byte text s.before s.after place found s.plain s.text_is) in
          subst (λ (t : List ℕ). lacks byte t ≡ true) (sym parts.0) s.plain
    ]

-- ---- decimal numbers

lacks-digits : (byte : ℕ) (ds : List ℕ) → byte < 48 → AllDigits 10 ds → lacks byte ds ≡ true
lacks-digits byte [] low h = refl
lacks-digits byte (c ∷ cs) low h =
    let parts = tells_digits.parts c cs h in
    let more = lacks-digits byte cs low parts.1 in
    let digit = parts.0 in
    let other : (c == byte) ≡ false = grind (arith, nat_tests) in
    rw (other, more) refl

-- a number has no byte that is less than a digit
pub lacks-decimal : (byte n : ℕ) → byte < 48 → n < 2 ^ 64 → lacks byte (decimal n) ≡ true
lacks-decimal byte n low small =
    lacks-digits byte (decimal n) low (decimal_is_IsNumeral n small).0.1

-- its first byte is a digit, and a zero only alone
pub led-decimal : (n : ℕ) → n < 2 ^ 64
    → (48 ≤ get_or (decimal n) 0 0) × (get_or (decimal n) 0 0 ≤ 57) × (get_or (decimal n) 0 0 ≡ 48 → length (decimal n) ≡ 1)
led-decimal zero small = rw (decimal_digit 0 (lit< tt)) (omega arith, omega arith, λ e. refl)
led-decimal (suc n) small = search (rules, decimal_is_IsNumeral, digit_at, first_decimal)
