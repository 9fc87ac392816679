-- What a first line and a piece of a list are, where a sentence is said of them.
use Rattle.std.proofs.Common.{◌≡◌, ◌≢◌, ◌∙◌, ◌≤◌, ◌<◌, ◌+◌, ◌-◌, ◌==◌, ◌||◌, ◌&&◌, ℕ, zero, suc, Bool, true, false, List, [], ◌∷◌, ◌++◌, ap, sym, refl, subst, arith, length, take, drop, min, append_assoc}
use Rattle.std.specs.Prelude.{IsFalse, codes, nat_lt, take_while}
use Rattle.std.proofs.lemmas.Bool.{cond-false, cond-true}
use Rattle.std.proofs.lemmas.Bool.Decides.{nat_tests}
use Rattle.std.proofs.Math.Seq.{drop-append_seam}
use Rattle.std.proofs.lemmas.List.{drop-drop, take-append-drop}
use Rattle.std.proofs.lemmas.List.Folds.{list_any-append}
use Rattle.std.proofs.lemmas.List.Sums.{take_while-cons}
use Rattle.noise_names.specs.declared.token.Token.{Token}
use Rattle.noise_names.specs.Names.{base_front, is_base_byte, is_digit, is_upper}
use Rattle.noise_names.specs.Text.{word_of, words}
use Rattle.noise_explain.specs.AdviceFacts.{IsNoList, IsNoToken, first_is, has, piece_at}
use Rattle.noise_explain.specs.Positions.{IsWrongPiece, heading_column, words_before}

-- ---- the front of a line

while-more : (p : ℕ → Bool) (x : ℕ) (xs : List ℕ) → p x ≡ true → take_while p (x ∷ xs) ≡ x ∷ take_while p xs
while-more p x xs e = take_while-cons p x xs ∙ cond-true (p x) (x ∷ take_while p xs) [] e

while-end : (p : ℕ → Bool) (x : ℕ) (xs : List ℕ) → p x ≡ false → take_while p (x ∷ xs) ≡ []
while-end p x xs e = take_while-cons p x xs ∙ cond-false (p x) (x ∷ take_while p xs) [] e

while-again : (p : ℕ → Bool) (xs : List ℕ) → take_while p (drop (length (take_while p xs)) xs) ≡ []
while-again p [] = refl
while-again p (x ∷ xs) = at (p x) refl (while-again p xs) where
  at : (is : Bool) → p x ≡ is → take_while p (drop (length (take_while p xs)) xs) ≡ []
      → take_while p (drop (length (take_while p (x ∷ xs))) (x ∷ xs)) ≡ []
  at true e more =
      subst (λ (w : List ℕ). take_while p (drop (length w) (x ∷ xs)) ≡ []) (sym (while-more p x xs e)) more
  at false e more =
      subst (λ (w : List ℕ). take_while p (drop (length w) (x ∷ xs)) ≡ []) (sym (while-end p x xs e)) (while-end p x xs e)

-- ---- the name of a heading

base-no-colon : (b : ℕ) → is_base_byte b ≡ true → (b == 58) ≡ false
base-no-colon b e = grind (arith, nat_tests)

front-no-colon : (n : ℕ) (line : List ℕ) → n ≤ length (base_front line) → has (take n line) 58 ≡ false
front-no-colon zero line few = refl
front-no-colon (suc n) [] few = refl
front-no-colon (suc n) (b ∷ bs) few = at (is_base_byte b) refl (front-no-colon n bs) where
  at : (is : Bool) → is_base_byte b ≡ is → (n ≤ length (base_front bs) → has (take n bs) 58 ≡ false)
      → has (take (suc n) (b ∷ bs)) 58 ≡ false
  at true e later =
      let longer = ap (λ (w : List ℕ). length w) (while-more is_base_byte b bs e) in
      let fewer : n ≤ length (base_front bs) = omega (arith, few, longer) in
      rw (base-no-colon b e) (later fewer)
  at false e later =
      let none = ap (λ (w : List ℕ). length w) (while-end is_base_byte b bs e) in
      absurd (omega (arith, few, none))

heading-within : (line : List ℕ) → heading_column line - 1 ≤ length (base_front line)
heading-within [] = omega arith
heading-within (b ∷ bs) = at (is_upper b) refl where
  at : (is : Bool) → is_upper b ≡ is → heading_column (b ∷ bs) - 1 ≤ length (base_front (b ∷ bs))
  at true e = rw e (omega arith)
  at false e = rw e (omega arith)

-- neither the name nor what follows it has a colon
pub colon-missing : (line piece : List ℕ) (column : ℕ) → piece ≡ piece_at line column → has piece 58 ≡ false
    → column ≡ heading_column line → IsFalse (has line 58)
colon-missing line piece column is none right =
    let within : column - 1 ≤ length (base_front line) = rw right (heading-within line) in
    let front = front-no-colon (column - 1) line within in
    let back : has (drop (column - 1) line) 58 ≡ false = rw is at none in
    let both = list_any-append (λ b. b == 58) (take (column - 1) line) (drop (column - 1) line) in
    let whole = take-append-drop (column - 1) line in
    ap (λ (w : List ℕ). has w 58) (sym whole) ∙ both ∙ ap (λ (is : Bool). is || has (drop (column - 1) line) 58) front ∙ back

drop-nil : (n : ℕ) → drop {A = ℕ} n [] ≡ []
drop-nil zero = refl
drop-nil (suc n) = refl

-- a name that ends before its ninth byte has none of its bytes after it
name-stops : (line piece : List ℕ) (column : ℕ) → 0 < length (base_front piece) → piece ≡ piece_at line column
    → column ≡ min (length (base_front line)) 8 + 1 → 8 < length (base_front line)
name-stops line piece column some is right = at (nat_lt 8 (length (base_front line))) refl where
  at : (long : Bool) → nat_lt 8 (length (base_front line)) ≡ long → 8 < length (base_front line)
  at true e = grind (arith, nat_tests)
  at false e =
      let short : length (base_front line) ≤ 8 = grind (arith, nat_tests) in
      let there : column - 1 ≡ length (base_front line) = omega (arith, short, right) in
      let none : base_front piece ≡ [] =
      ap base_front (is ∙ ap (λ (n : ℕ). drop n line) there) ∙ while-again is_base_byte line in
      absurd (omega (arith, some, ap (λ (w : List ℕ). length w) none))

-- a line whose first byte is none of a letter and a digit has no name
no-first : (b : ℕ) (bs : List ℕ) → is_upper b ≡ false → 0 < length (base_front (b ∷ bs))
    → (is_digit b && length (b ∷ bs) == length (b ∷ bs)) ≡ false → ⊥
no-first b bs upper some front = at (is_digit b) refl where
  at : (digit : Bool) → is_digit b ≡ digit → ⊥
  at true e = grind (arith, nat_tests)
  at false e =
      let neither : is_base_byte b ≡ false = rw (upper, e) refl in
      let none = while-end is_base_byte b bs neither in
      omega (arith, some, ap (λ (w : List ℕ). length w) none)

-- the name goes on for more than eight bytes
pub name-long : (line piece : List ℕ) (column : ℕ) → 0 < length (base_front piece)
    → (first_is is_digit piece && length piece == length line) ≡ false → piece ≡ piece_at line column
    → column ≡ heading_column line → 8 < length (base_front line)
name-long [] piece column some front is right =
    let none : piece ≡ [] = is ∙ drop-nil (column - 1) in
    absurd (omega (arith, some, ap (λ (w : List ℕ). length (base_front w)) none))
name-long (b ∷ bs) piece column some front is right = at (is_upper b) refl where
  at : (upper : Bool) → is_upper b ≡ upper → 8 < length (base_front (b ∷ bs))
  at true e =
      let column_is : column ≡ min (length (base_front (b ∷ bs))) 8 + 1 = right ∙ rw e refl in
      name-stops (b ∷ bs) piece column some is column_is
  at false e =
      let first : column ≡ 1 = right ∙ rw e refl in
      let whole : piece ≡ b ∷ bs = is ∙ ap (λ (n : ℕ). piece_at (b ∷ bs) n) first in
      absurd (no-first b bs e (subst (λ (w : List ℕ). 0 < length (base_front w)) whole some)
      (subst (λ (w : List ℕ). (first_is is_digit w && length w == length (b ∷ bs)) ≡ false) whole front))

-- ---- a piece of a list

words-last : (right : List Token) (t : Token) → words_before right ++ word_of t ≡ words (right ++ t ∷ [])
words-last [] t = refl
words-last (u ∷ []) t = grind (arith, append_assoc)
words-last (u ∷ v ∷ us) t =
    let later = words-last (v ∷ us) t in
    append_assoc (word_of u ++ codes ", ") (words_before (v ∷ us)) (word_of t)
    ∙ ap (λ (w : List ℕ). (word_of u ++ codes ", ") ++ w) later

not-nil : (right : List Token) (t : Token) → right ++ t ∷ [] ≢ []
not-nil [] t e = cc
not-nil (u ∷ us) t e = cc

-- it is no token where a list goes wrong
pub no-token : (line : List ℕ) (column : ℕ) → IsWrongPiece (drop 5 line) column → IsNoList (drop 5 line)
    → IsNoToken (piece_at line column)
no-token line column w none t =
    let before : List ℕ = words_before w.right in
    let far : column - 1 ≡ 5 + length before = omega (arith, w.column_is) in
    let piece : piece_at line column ≡ w.rest =
    ap (λ (n : ℕ). drop n line) far ∙ sym (drop-drop (length before) 5 line) ∙ ap (λ (l : List ℕ). drop (length before) l) w.list_is
    ∙ drop-append_seam before w.rest in (
      λ is. none (w.right ++ t ∷ []) (not-nil w.right t)
          (w.list_is ∙ ap (λ (r : List ℕ). before ++ r) (sym piece ∙ is) ∙ words-last w.right t),
      λ more is. w.last t more (sym piece ∙ is),
    )
