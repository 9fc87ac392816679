use Rattle.std.proofs.Common.{◌≡◌, ◌∙◌, inl, inr, sym, codes}
use Rattle.noise_vectors.proofs.Common.{bytes_eq-Decides}
use Rattle.noise_vectors.proofs.HexWordLemmas.{IsHexWord-cases, few-digits, short-hex_word}
use Rattle.noise_vectors.proofs.hex_words.is_hex_word.Goals as goal

pub returns-then-word-most : goal.returns-then-word-most
returns-then-word-most c = (λ bad. absurd (cc (bad)), λ h. absurd (short-hex_word c.args.word.now h.0 c.args.most h.1 h.2 c.if-word-most.true))

pub returns : goal.returns
returns c =
    let hyphen : c.as_slice.result.now ≡ codes "-" = c.as_slice.ensures in (
      λ yes. few-digits c.args.word.now c.args.most (c.is_digits.ensures.0 yes) c.if-word-most.false,
      λ h. elim (IsHexWord-cases c.args.word.now (h.0, h.1.1, h.2)) [
        | inl e ↦ let yes = (bytes_eq-Decides c.args.word.now c.as_slice.result.now).1 (e ∙ sym hyphen) in absurd (cc (c.eq.ensures, yes))
        | inr d ↦ c.is_digits.ensures.1 d
      ],
    )
