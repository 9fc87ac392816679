use Rattle.std.proofs.Common.{rules, refl, codes}
use Rattle.noise_vectors.proofs.Common.{bytes_eq-Decides}
use Rattle.noise_vectors.proofs.HexWordLemmas.{word_of-decoded, IsHexWord-digits, not_IsHexWord}
use Rattle.noise_vectors.proofs.hex_words.read_hex.Goals as goal

pub returns-then-not-is_digits-clause-found : goal.returns-then-not-is_digits-clause-found
returns-then-not-is_digits-clause-found c = search (rules, codes, not_IsHexWord, bytes_eq-Decides)

pub returns-in-Ok-clause-value : goal.returns-in-Ok-clause-value
returns-in-Ok-clause-value c =
    word_of-decoded c.args.word.now c.in-Ok.bytes.items (c.is_digits.ensures.0 c.if-not-is_digits.false) c.in-Ok.ensures.ok

pub returns-in-Ok-clause-found : goal.returns-in-Ok-clause-found
returns-in-Ok-clause-found c =
    (λ h. IsHexWord-digits c.args.word.now (c.is_digits.ensures.0 c.if-not-is_digits.false), λ h. refl)

pub returns-in-Ok-clause-none : goal.returns-in-Ok-clause-none
returns-in-Ok-clause-none c = λ no. absurd (no (IsHexWord-digits c.args.word.now (c.is_digits.ensures.0 c.if-not-is_digits.false)))

pub returns-in-Err-clause-none : goal.returns-in-Err-clause-none
returns-in-Err-clause-none c = λ no. absurd (no (IsHexWord-digits c.args.word.now (c.is_digits.ensures.0 c.if-not-is_digits.false)))
