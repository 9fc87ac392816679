-- Lower-case digits read as bytes, and bytes read back from their digits.
use Rattle.std.proofs.Common.{rules, ◌≡◌, ℕ, zero, suc, ◌+◌, ◌*◌, ◌/◌, ◌%◌, ◌<◌, ◌≤◌, ◌==◌, Bool, true, false, ◌&&◌, ◌||◌, not, ◌⊎◌, inl, inr, List, ◌∷◌, length, slice_index, Option, Some, None, Result, Ok, Err, refl, sym, ap, subst, ◌∙◌, arith, codes, []}
use Rattle.std.proofs.Math.ListN.{get_or-eq_default}
use Rattle.noise_vectors.proofs.Common.{nat_lt, IsOk, MatchResult, and_parts, cases_lt, eqb-true, ltb-false, ltb-true, nat_tests, All-cons, All-head, All-nil, All-tail, All, AllPass, decode_of, encode_lower, hex_digit_value, lower_digits, pair_value, value_at, digit_or_error, decode_sized, decode_of-even, decode_sized-ok, decode_sized-twice, length-encode_with, hex_of, is_lower_digit, IsDigits, IsHexWord, AreBytes}
use Rattle.hex.specs.Hex.{decode_pairs, encode_with}
use Rattle.hex.specs.declared.error.FromHexError.{FromHexError}
use Rattle.hex.proofs.Pairs.{cons_byte, decode_pairs-ok_pair}

-- ---- the digits, by tests that compute

-- the value is that of the digit c in the table
abbrev reads_at : ℕ → Option ℕ → Bool
reads_at c (Some v) = nat_lt v 16 && (slice_index lower_digits v == c)
reads_at c None = false

abbrev is_read : ℕ → Bool
is_read c = not (is_lower_digit c) || reads_at c (hex_digit_value c)

-- the test holds of each number below this one
abbrev holds_below : (ℕ → Bool) → ℕ → Bool
holds_below test zero = true
holds_below test (suc n) = test n && holds_below test n

holds_below-at : (test : ℕ → Bool) (n c : ℕ) → holds_below test n ≡ true → c < n → test c ≡ true
holds_below-at test zero c h lt = absurd (omega arith)
holds_below-at test (suc n) c h lt =
    let parts = and_parts (test n) (holds_below test n) h in
    elim (cases_lt c n) [
      | inl below ↦ holds_below-at test n c parts.1 below
      | inr top ↦
          let e : c ≡ n = omega arith in
          rw e parts.0
    ]

below_103 : (c : ℕ) → is_lower_digit c ≡ true → c < 103
below_103 c h = grind (arith, nat_tests)

pub record Digit (c : ℕ) : Type 0 where
  pub value : ℕ
  pub is : hex_digit_value c ≡ Some value
  pub small : value < 16
  pub back : slice_index lower_digits value ≡ c

digit_from : (c : ℕ) (o : Option ℕ) → hex_digit_value c ≡ o → reads_at c o ≡ true → Digit c
digit_from c (Some v) e h =
    let parts = and_parts (nat_lt v 16) (slice_index lower_digits v == c) h in
    record { value = v; is = e; small = ltb-true v 16 parts.0; back = eqb-true (slice_index lower_digits v) c parts.1 }
digit_from c None e h = cc h

-- a lower-case digit has a value, at which the table has it
pub digit_of : (c : ℕ) → is_lower_digit c ≡ true → Digit c
digit_of c h =
    digit_from c (hex_digit_value c) refl (rw h at (holds_below-at is_read 103 c refl (below_103 c h)))

abbrev is_lower_at : ℕ → Bool
is_lower_at d = is_lower_digit (slice_index lower_digits d)

-- ---- whole words

abbrev lower_holds : ℕ → Type 0
lower_holds c = is_lower_digit c ≡ true

abbrev byte_holds : ℕ → Type 0
byte_holds b = b < 256

-- the bytes that these digits spell
pub record Spelled (i : ℕ) (word : List ℕ) : Type 0 where
  pub bytes : List ℕ
  pub decoded : decode_pairs i word ≡ Ok bytes
  pub back : encode_lower bytes ≡ word
  pub small : All (λ b. b < 256) bytes

pub spelled : (i : ℕ) (word : List ℕ) → length word % 2 ≡ 0 → AllPass is_lower_digit word → Spelled i word
unfolding decode_pairs encode_with
spelled i [] even h = record { bytes = []; decoded = refl; back = refl; small = All-nil byte_holds }
spelled i (a ∷ []) even h = absurd (omega arith)
spelled i (a ∷ b ∷ rest) even h =
    let tail = All-tail lower_holds a (b ∷ rest) h in
    let high = digit_of a (All-head lower_holds a (b ∷ rest) h) in
    let low = digit_of b (All-head lower_holds b rest tail) in
    let more = spelled (i + 2) rest (omega arith) (All-tail lower_holds b rest tail) in
    let byte : ℕ = high.value * 16 + low.value in
    let ha : value_at a i ≡ Ok high.value = ap (digit_or_error a i) high.is in
    let hb : value_at b (i + 1) ≡ Ok low.value = ap (digit_or_error b (i + 1)) low.is in
    let pair : pair_value a b i ≡ Ok (high.value * 16 + low.value) = rw (ha, hb) refl in
    let fits : high.value < 16 = high.small in
    let fits_low : low.value < 16 = low.small in
    let first : (high.value * 16 + low.value) / 16 ≡ high.value = omega arith in
    let second : (high.value * 16 + low.value) % 16 ≡ low.value = omega arith in
    record {
      bytes = (high.value * 16 + low.value) ∷ more.bytes;
      decoded = decode_pairs-ok_pair i a b _ rest pair ∙ ap (cons_byte (high.value * 16 + low.value)) more.decoded;
      back = rw (first, second, high.back, low.back, more.back) refl;
      small = All-cons byte_holds (high.value * 16 + low.value) more.bytes (omega arith) more.small;
    }

-- the digits of bytes are lower-case digits
pub AllPass-encode_lower : (bytes : List ℕ) → All (λ b. b < 256) bytes → AllPass is_lower_digit (encode_lower bytes)
unfolding encode_with
AllPass-encode_lower [] h = All-nil lower_holds
AllPass-encode_lower (b ∷ rest) h =
    let fits : b < 256 = All-head byte_holds b rest h in
    All-cons lower_holds (slice_index lower_digits (b / 16)) (slice_index lower_digits (b % 16) ∷ encode_lower rest)
    (holds_below-at is_lower_at 16 (b / 16) refl (omega arith))
    (All-cons lower_holds (slice_index lower_digits (b % 16)) (encode_lower rest)
    (holds_below-at is_lower_at 16 (b % 16) refl (omega arith))
    (AllPass-encode_lower rest (All-tail byte_holds b rest h)))

-- a word of digits is that of its bytes
hex_of-digits : (bytes : List ℕ) → 0 < length (encode_lower bytes) → hex_of bytes ≡ encode_lower bytes
unfolding encode_with
hex_of-digits [] h = absurd (omega arith)
hex_of-digits (b ∷ rest) h = refl

-- digits decode to the bytes that have them as their word
pub word_of-decoded : (word bytes : List ℕ) → IsDigits word → decode_of word ≡ Ok bytes → word ≡ hex_of bytes
word_of-decoded word bytes h e =
    let s = spelled 0 word h.1 h.2 in
    let same : Ok s.bytes ≡ Ok bytes = sym s.decoded ∙ sym (decode_of-even word h.1) ∙ e in
    let bytes_are : s.bytes ≡ bytes = cc in
    let back : encode_lower bytes ≡ word = rw (← bytes_are) s.back in
    let long : 0 < length (encode_lower bytes) = rw back h.0 in
    sym (hex_of-digits bytes long ∙ back)

-- digits are a word of some bytes
pub IsHexWord-digits : (word : List ℕ) → IsDigits word → IsHexWord word
IsHexWord-digits word h =
    let s = spelled 0 word h.1 h.2 in
    (s.bytes, s.small, word_of-decoded word s.bytes h (decode_of-even word h.1 ∙ s.decoded))

-- a word of some bytes is a hyphen, or digits
pub IsHexWord-cases : (word : List ℕ) → IsHexWord word → (word ≡ codes "-") ⊎ IsDigits word
unfolding encode_with
IsHexWord-cases word ([], small, e) = inl e
IsHexWord-cases word (b ∷ rest, small, e) =
    let len = length-encode_with lower_digits (b ∷ rest) in
    let digits = AllPass-encode_lower (b ∷ rest) small in
    inr (rw e (omega (arith, len), omega (arith, len), digits))

-- a word of one byte or more has two digits for each
pub length-hex_of : (bytes : List ℕ) → 0 < length bytes → length (hex_of bytes) ≡ 2 * length bytes
length-hex_of [] h = absurd (omega arith)
length-hex_of (b ∷ rest) h = length-encode_with lower_digits (b ∷ rest)

-- what is no hyphen and no digits is no word of any bytes
pub not_IsHexWord : (word : List ℕ) → ¬ (word ≡ codes "-") → ¬ IsDigits word → ¬ IsHexWord word
not_IsHexWord word hyphen digits h =
    elim (IsHexWord-cases word h) [
      | inl e ↦ hyphen e
      | inr d ↦ digits d
    ]

-- what a slice's decoding wrote
pub decoded_is : (d : Result (List ℕ) FromHexError) (r : Result Unit FromHexError) (out : List ℕ)
    → MatchResult d (λ bytes. (r ≡ Ok tt) × (out ≡ bytes)) (λ e. r ≡ Err e) → IsOk r → d ≡ Ok out
decoded_is (Ok bytes) r out h ok = ap Ok (sym h.1)
decoded_is (Err e) r out h ok = absurd (cc (rw h at ok))

-- digits that fill a room of n bytes are those of what was written
pub digits_of-decoded : (word bytes : List ℕ) (n : ℕ) → IsDigits word → decode_sized word n ≡ Ok bytes → word ≡ encode_lower bytes
digits_of-decoded word bytes n h e =
    let s = spelled 0 word h.1 h.2 in
    let twice = decode_sized-twice word n (decode_sized-ok word n bytes e) in
    let same : Ok s.bytes ≡ Ok bytes = sym s.decoded ∙ sym (decode_of-even word h.1) ∙ sym twice ∙ e in
    let bytes_are : s.bytes ≡ bytes = cc in
    sym (rw (← bytes_are) s.back)

-- and that is bytes
pub bytes_of-decoded : (word bytes : List ℕ) (n : ℕ) → IsDigits word → decode_sized word n ≡ Ok bytes → All (λ b. b < 256) bytes
bytes_of-decoded word bytes n h e =
    let s = spelled 0 word h.1 h.2 in
    let twice = decode_sized-twice word n (decode_sized-ok word n bytes e) in
    let same : Ok s.bytes ≡ Ok bytes = sym s.decoded ∙ sym (decode_of-even word h.1) ∙ sym twice ∙ e in
    let bytes_are : s.bytes ≡ bytes = cc in
    subst (λ (bs : List ℕ). All (λ b. b < 256) bs) bytes_are s.small

-- the table has a digit at the first sixteen places alone
within : (n : ℕ) → is_lower_at n ≡ true → n < 16
within n h = at (nat_lt n 16) refl where
  at : (test : Bool) → nat_lt n 16 ≡ test → n < 16
  at true below = ltb-true n 16 below
  at false over =
      let none : slice_index lower_digits n ≡ 0 = get_or-eq_default lower_digits 0 (ltb-false n 16 over) in
      let bad : is_lower_digit 0 ≡ true = subst (λ (c : ℕ). is_lower_digit c ≡ true) none h in
      absurd (cc (bad))

-- only bytes have digits for each of them
bytes_of-digits : (bytes : List ℕ) → AllPass is_lower_digit (encode_lower bytes) → All (λ b. b < 256) bytes
unfolding encode_with
bytes_of-digits [] h = All-nil byte_holds
bytes_of-digits (b ∷ rest) h =
    let high = within (b / 16) (All-head lower_holds (slice_index lower_digits (b / 16)) (slice_index lower_digits (b % 16) ∷ encode_lower rest) h) in
    let tail = All-tail lower_holds (slice_index lower_digits (b / 16)) (slice_index lower_digits (b % 16) ∷ encode_lower rest) h in
    All-cons byte_holds b rest (omega (arith, high)) (bytes_of-digits rest (All-tail lower_holds (slice_index lower_digits (b % 16)) (encode_lower rest) tail))

-- the numbers whose word is that of some bytes are bytes
pub bytes_of-word : (word bytes : List ℕ) → word ≡ hex_of bytes → IsHexWord word → All (λ b. b < 256) bytes
bytes_of-word word [] e h = All-nil byte_holds
bytes_of-word word (b ∷ rest) e h =
    elim (IsHexWord-cases word h) [
      | inl hyphen ↦
          let one : length word ≡ 1 = ap length hyphen in
          let long = length-hex_of (b ∷ rest) (omega arith) in
          let same : length word ≡ length (hex_of (b ∷ rest)) = ap length e in
          absurd (omega (arith, one, long, same))
      | inr digits ↦ bytes_of-digits (b ∷ rest) (subst (AllPass is_lower_digit) e digits.2)
    ]

-- a word has at least two digits for each byte
pub length-hex_word : (word bytes : List ℕ) → word ≡ hex_of bytes → 2 * length bytes ≤ length word
length-hex_word word [] e = omega arith
length-hex_word word (b ∷ rest) e = search (rules, length-encode_with)

-- the word of few bytes is short
pub short-hex_word : (word bytes : List ℕ) (most : ℕ) → AreBytes most bytes → word ≡ hex_of bytes → ¬ (most < length word / 2)
short-hex_word word [] most h e long = search rules
short-hex_word word (b ∷ bs) most h e long =
    let twice = length-hex_of (b ∷ bs) (omega arith) in
    let few : length (b ∷ bs) ≤ most = h.0 in
    let len : length word ≡ length (hex_of (b ∷ bs)) = ap length e in
    omega (arith, twice)

-- few digits are the word of few bytes
pub few-digits : (word : List ℕ) (most : ℕ) → IsDigits word → length word / 2 ≤ most
    → (bytes : List ℕ) × AreBytes most bytes × (word ≡ hex_of bytes)
few-digits word most h few =
    let is = IsHexWord-digits word h in
    let long = length-hex_word word is.0 is.2 in
    (is.0, (omega (arith, long), is.1), is.2)
