-- Words of printed bytes.
use Rattle.std.proofs.Common.{◌≡◌, ◌∙◌, refl, ℕ, ◌+◌, ◌/◌, ◌%◌, ◌<◌, ◌^◌, true, List, [], ◌∷◌, ◌++◌, arith}
use Rattle.std.specs.Prelude.{decimal}
use Rattle.std.proofs.lemmas.Bool.Decides.{nat_tests}
use Rattle.std.proofs.lemmas.Fmt.{decimal_by_steps}
use Rattle.std.proofs.lemmas.List.Elements.{All-get_or, All-head, All-tail}
use Rattle.std.proofs.lemmas.List.Folds.{list_all-append}
use Rattle.std.proofs.lemmas.List.Sums.{AllPass-from_list_all}
use Rattle.noise_lines.proofs.Common.{slice_index, All, list_all, hex_of}
use Rattle.hex.specs.Hex.{encode_lower, encode_with, lower_digits}
use Rattle.noise_lines.specs.PrintedWords.{is_printed, is_printed_byte}

abbrev passes : ℕ → Type 0
passes b = is_printed_byte b ≡ true

abbrev is_byte : ℕ → Type 0
is_byte b = b < 256

all_printed : (word : List ℕ) → is_printed word ≡ true → list_all is_printed_byte word ≡ true
all_printed [] h = refl
all_printed (b ∷ bs) h = h

printed-append : (front after : List ℕ) → is_printed front ≡ true → list_all is_printed_byte after ≡ true → is_printed (front ++ after) ≡ true
printed-append [] after h k = absurd (cc h)
printed-append (b ∷ bs) after h k = list_all-append is_printed_byte (b ∷ bs) after ∙ rw (h, k) refl

-- and so is one after a space (32)
pub printed-more : (front word : List ℕ) → is_printed front ≡ true → is_printed word ≡ true → is_printed (front ++ 32 ∷ word) ≡ true
printed-more front word h k = printed-append front (32 ∷ word) h (all_printed word k)

-- ---- numbers

digit-printed : (d : ℕ) → d < 10 → is_printed_byte (48 + d) ≡ true
digit-printed d less = grind (arith, nat_tests)

one-printed : (d : ℕ) → d < 10 → list_all is_printed_byte ((48 + d) ∷ []) ≡ true
one-printed d less = rw (digit-printed d less) refl

pub printed-decimal : (n : ℕ) → n < 2 ^ 64 → is_printed (decimal n) ≡ true
printed-decimal = decimal_by_steps (λ n ds. is_printed ds ≡ true) (λ n less. one-printed n less)
    (λ n ds least h. printed-append ds ((48 + n % 10) ∷ []) h (one-printed (n % 10) (omega arith)))

-- ---- bytes

hex_digit-printed : (d : ℕ) → d < 16 → is_printed_byte (slice_index lower_digits d) ≡ true
hex_digit-printed d less = All-get_or passes lower_digits d 0 less (AllPass-from_list_all is_printed_byte lower_digits refl)

encode-printed : (bytes : List ℕ) → All is_byte bytes → list_all is_printed_byte (encode_lower bytes) ≡ true
unfolding encode_with
encode-printed [] h = refl
encode-printed (b ∷ rest) h =
    let small : b < 256 = All-head is_byte b rest h in
    let high = hex_digit-printed (b / 16) (omega arith) in
    let low = hex_digit-printed (b % 16) (omega arith) in
    let more = encode-printed rest (All-tail is_byte b rest h) in
    rw (high, low, more) refl

pub printed-hex_of : (bytes : List ℕ) → All (λ b. b < 256) bytes → is_printed (hex_of bytes) ≡ true
unfolding encode_with
printed-hex_of [] h = refl
printed-hex_of (b ∷ rest) h = encode-printed (b ∷ rest) h
