use Rattle.std.proofs.Common.{rules, arith, ◌≡◌, ◌∙◌, ap, sym, List, ℕ, length, get_or, ◌<◌, ◌≤◌, ◌^◌}
use Rattle.std.specs.Prelude.{decimal}
use Rattle.std.specs.Str.Parse.{AllDigits, digits_value, without_leading_plus}
use Rattle.std.specs.Str.{IsUtf8}
use Rattle.std.proofs.lemmas.Str.{IsUtf8-from_ascii}
use Rattle.std.proofs.lemmas.Str.Parse.{numerals_by_value, tells_digits, without_leading_plus_none}
use Rattle.noise_vectors.proofs.Common.{IsAscii-decimal, decimal-digits_value, parse-decimal}
use Rattle.noise_vectors.proofs.WordLemmas.{led-decimal}
use Rattle.noise_vectors.proofs.words.read_number.Goals as goal

-- digits with no leading zero that read as a number are its text
numeral : (word text : List ℕ) (n : ℕ) → text ≡ word → 48 ≤ get_or word 0 0 → (get_or word 0 0 ≡ 48 → length word ≡ 1)
    → 0 < length (without_leading_plus text) → AllDigits 10 (without_leading_plus text) → digits_value 10 (without_leading_plus text) < 2 ^ 64
    → n ≡ digits_value 10 (without_leading_plus text) → word ≡ decimal n
numeral word text n same low single some digits small value =
    let plain : without_leading_plus word ≡ word = without_leading_plus_none word (λ e. absurd (omega arith)) in
    let text_is : without_leading_plus text ≡ word = ap without_leading_plus same ∙ plain in
    sym (ap decimal (value ∙ ap (digits_value 10) text_is) ∙ decimal-digits_value (numerals_by_value (AllDigits 10) tells_digits) word
    (rw text_is at digits) (rw text_is at some) single (rw text_is at small))

pub returns-then-not-is_led-clause-every : goal.returns-then-not-is_led-clause-every
returns-then-not-is_led-clause-every c = search (rules, led-decimal)

pub returns-in_err-ok-clause-every : goal.returns-in_err-ok-clause-every
returns-in_err-ok-clause-every c =
    let bad : ¬ (IsUtf8 c.args.word.now) = search rules in
    λ n small e. absurd (bad (rw e (IsUtf8-from_ascii (decimal n) (IsAscii-decimal n small))))

pub returns-in-Err-clause-every : goal.returns-in-Err-clause-every
returns-in-Err-clause-every c =
    let text : c.in_ok-ok.field-0.now ≡ c.args.word.now = search rules in
    λ n small e.
    let gives = parse-decimal 64 n c.in_ok-ok.field-0.now c.parse.result small small (text ∙ e) c.parse.ensures.value.0 in
    cc (gives)

pub returns-in-Ok-clause-value : goal.returns-in-Ok-clause-value
returns-in-Ok-clause-value c = search (rules, numeral)

pub returns-in-Ok-clause-every : goal.returns-in-Ok-clause-every
returns-in-Ok-clause-every c =
    let text : c.in_ok-ok.field-0.now ≡ c.args.word.now = search rules in
    λ n small e.
    let gives = parse-decimal 64 n c.in_ok-ok.field-0.now c.parse.result small small (text ∙ e) c.parse.ensures.value.0 in
    cc (gives)
