use Rattle.std.proofs.Common.{arith, ◌≡◌, inl, inr}
use Rattle.noise_explain.proofs.WordFaultLemmas.{more-digits}
use Rattle.noise_explain.proofs.word_faults.hex_fault.Goals as goal

pub returns-in-Count-2 : goal.returns-in-Count-2
returns-in-Count-2 c = λ h.
    let more = more-digits c.args.word.now c.args.most h.some c.in-Count-2.ensures c.if-word-eq1.false h.wrong in
    let most : c.args.most ≡ 131072 = elim h.listed [ inl e ↦ absurd (omega arith) | inr e ↦ e ] in
    (most, c.in-Count-2.ensures, omega arith)

pub returns-in-Count-3 : goal.returns-in-Count-3
returns-in-Count-3 c = λ h.
    let more = more-digits c.args.word.now c.args.most h.some c.in-Count-3.ensures c.if-word-eq1.false h.wrong in
    let most : c.args.most ≡ 65535 = elim h.listed [ inl e ↦ e | inr e ↦ absurd (omega arith) ] in
    (most, c.in-Count-3.ensures, omega arith)
