use Rattle.std.proofs.Common.{arith, ◌≡◌, false, true, codes, inl, inr, nat_eq}
use Rattle.std.specs.Char.{is_ascii_digit}
use Rattle.std.specs.List.{list_all, starts_with}
use Rattle.noise_explain.proofs.WordFaultLemmas.{greater, more-zeros, one-fails}
use Rattle.noise_explain.proofs.word_faults.number_fault.Goals as goal

pub returns-then-starts_with-3 : goal.returns-then-starts_with-3
returns-then-starts_with-3 c = λ h.
    let value = rw c.as_slice-else-starts_with-2.ensures at c.starts_with-else-starts_with-2.ensures.value in
    let zeros : starts_with nat_eq c.args.word.now (codes "0") ≡ true = cc in
    (zeros, more-zeros c.args.word.now c.args.most zeros h.wrong)

pub returns-then-not-are_digits : goal.returns-then-not-are_digits
returns-then-not-are_digits c = λ h.
    let some : list_all is_ascii_digit c.args.word.now ≡ false = cc in
    one-fails is_ascii_digit c.args.word.now some

pub returns-then-most-gt4294967295 : goal.returns-then-most-gt4294967295
returns-then-most-gt4294967295 c = λ h.
    let value = rw c.as_slice-else-starts_with-2.ensures at c.starts_with-else-starts_with-2.ensures.value in
    let none : starts_with nat_eq c.args.word.now (codes "0") ≡ false = cc in
    let digits : list_all is_ascii_digit c.args.word.now ≡ true = cc in
    let more = greater c.args.word.now c.args.most (omega arith) h.some none digits h.wrong in
    let most : c.args.most ≡ 18446744073709551615 = elim h.listed [ inl e ↦ absurd (omega arith) | inr e ↦ e ] in
    (most, digits, omega arith)

pub returns-else-most-gt4294967295 : goal.returns-else-most-gt4294967295
returns-else-most-gt4294967295 c = λ h.
    let value = rw c.as_slice-else-starts_with-2.ensures at c.starts_with-else-starts_with-2.ensures.value in
    let none : starts_with nat_eq c.args.word.now (codes "0") ≡ false = cc in
    let digits : list_all is_ascii_digit c.args.word.now ≡ true = cc in
    let more = greater c.args.word.now c.args.most (omega arith) h.some none digits h.wrong in
    let most : c.args.most ≡ 4294967295 = elim h.listed [ inl e ↦ e | inr e ↦ absurd (omega arith) ] in
    (most, digits, omega arith)
