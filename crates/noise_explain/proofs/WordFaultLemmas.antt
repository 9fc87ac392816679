-- What the tests of a wrong word say of it.
use Rattle.std.proofs.Common.{arith, ◌≡◌, ◌≢◌, ℕ, ◌≤◌, ◌<◌, ◌*◌, ◌/◌, ◌%◌, ◌^◌, Bool, true, false, not, List, [], ◌∷◌, codes, decimal, length, get_or, nat_eq, refl, sym}
use Rattle.std.specs.Char.{is_ascii_digit, is_ascii_hexdigit, is_ascii_uppercase}
use Rattle.std.specs.Int.{IsInRange}
use Rattle.std.specs.List.{AllPass, list_all, list_any, starts_with}
use Rattle.std.specs.Str.Parse.{AllDigits, digits_value}
use Rattle.std.proofs.lemmas.Bool.{and_parts, or_parts}
use Rattle.std.proofs.lemmas.Bool.Decides.{nat_tests}
use Rattle.std.proofs.lemmas.Fmt.{decimal-digits_value, decimal_digit}
use Rattle.std.proofs.lemmas.List.Sums.{AllPass-from_list_all}
use Rattle.std.proofs.lemmas.Str.Parse.{numerals_by_value, tells_digits}
use Rattle.hex.specs.Hex.{encode_lower, lower_digits}
use Rattle.hex.proofs.HexLemmas.{length-encode_with}
use Rattle.noise_vectors.specs.HexWord.{IsDigits, is_lower_digit}
use Rattle.noise_vectors.proofs.HexWordLemmas.{few-digits, spelled}
use Rattle.noise_explain.specs.VectorColumns.{HasShape}
use Rattle.noise_explain.specs.WordFaults.{AreDecimal, AreLower}
use Rattle.noise_explain.specs.declared.shapes.Shape.TheVariants as shapes

-- ---- tests of each byte

-- where not all pass a test, one fails it
pub one-fails : (p : ℕ → Bool) (w : List ℕ) → list_all p w ≡ false → list_any (λ b. not (p b)) w ≡ true
one-fails p [] h = absurd (cc (h))
one-fails p (x ∷ xs) h = at (p x) refl (one-fails p xs) where
  at : (r : Bool) → p x ≡ r → (list_all p xs ≡ false → list_any (λ b. not (p b)) xs ≡ true) → list_any (λ b. not (p b)) (x ∷ xs) ≡ true
  at true e more = rw e (more (rw e at h))
  at false e more = rw e refl

lower-digit : (x : ℕ) → is_ascii_hexdigit x ≡ true → is_ascii_uppercase x ≡ false → is_lower_digit x ≡ true
lower-digit x hex none = grind (arith, nat_tests)

-- hex digits without an upper-case letter are of lower case
pub all-lower : (w : List ℕ) → list_all is_ascii_hexdigit w ≡ true → list_any is_ascii_uppercase w ≡ false → list_all is_lower_digit w ≡ true
all-lower [] hex none = refl
all-lower (x ∷ xs) hex none =
    let h = and_parts (is_ascii_hexdigit x) (list_all is_ascii_hexdigit xs) hex in
    let n = or_parts (is_ascii_uppercase x) (list_any is_ascii_uppercase xs) none in
    rw (lower-digit x h.0 n.0, all-lower xs h.1 n.1) refl

-- ---- digits of bytes and keys

-- an even number of digits that aren't the word of few bytes are those of more
pub more-digits : (w : List ℕ) (most : ℕ) → 0 < length w → AreLower w → length w % 2 ≢ 1 → ¬ HasShape (shapes.Hex most) w → most < length w / 2
more-digits w most some lower odd wrong =
    let digits : IsDigits w = (some, omega arith, AllPass-from_list_all is_lower_digit w lower) in
    let no : length w / 2 ≤ most → ⊥ = λ few. wrong (few-digits w most digits few) in
    omega (arith, no)

-- 64 digits are the word of a key
pub key-digits : (w : List ℕ) → AreLower w → length w ≡ 64 → HasShape shapes.Key w
key-digits w lower len =
    let s = spelled 0 w (omega arith) (AllPass-from_list_all is_lower_digit w lower) in
    let back : encode_lower s.bytes ≡ w = s.back in
    let twice : length (encode_lower s.bytes) ≡ 2 * length s.bytes = length-encode_with lower_digits s.bytes in
    let same : length w ≡ 2 * length s.bytes = rw back at twice in
    (s.bytes, (omega arith, s.small), sym back)

-- ---- numbers

-- a zero that isn't the number has more after it
pub more-zeros : (w : List ℕ) (most : ℕ) → starts_with nat_eq w (codes "0") ≡ true → ¬ HasShape (shapes.Number most) w → 1 < length w
more-zeros [] most zeros wrong = absurd (cc (zeros))
more-zeros (x ∷ []) most zeros wrong =
    let is : x ≡ 48 = grind (arith, nat_tests) in
    let digit : decimal 0 ≡ 48 ∷ [] = decimal_digit 0 (omega arith) in
    absurd (wrong (0, omega arith, rw (is, digit) refl))
more-zeros (x ∷ y ∷ more) most zeros wrong = omega arith

all-digits : (w : List ℕ) → AreDecimal w → AllDigits 10 w
all-digits [] h = tt
all-digits (c ∷ cs) h =
    let parts = and_parts (is_ascii_digit c) (list_all is_ascii_digit cs) h in
    let digit : is_ascii_digit c ≡ true = parts.0 in
    let in_range : IsInRange 48 57 c = grind (arith, nat_tests) in
    tells_digits.more c cs in_range (all-digits cs parts.1)

not-led : (w : List ℕ) → starts_with nat_eq w (codes "0") ≡ false → get_or w 0 0 ≢ 48
not-led [] none e = absurd (omega arith)
not-led (x ∷ xs) none e = absurd (grind (arith, nat_tests))

-- digits with no leading zero that aren't a number of this limit are a greater one
pub greater : (w : List ℕ) (most : ℕ) → most < 2 ^ 64 → 0 < length w → starts_with nat_eq w (codes "0") ≡ false → AreDecimal w
    → ¬ HasShape (shapes.Number most) w → most < digits_value 10 w
greater w most small some none digits wrong =
    let no : digits_value 10 w ≤ most → ⊥ = λ few.
    wrong (
      digits_value 10 w,
      few,
      sym (decimal-digits_value (numerals_by_value (AllDigits 10) tells_digits) w (all-digits w digits) some
          (λ e. absurd (not-led w none e)) (omega arith)),
    ) in
    omega (arith, no)
