use Rattle.std.proofs.Common.{◌≡◌, ℕ, List, length, take, drop, ap, sym, ◌∙◌, Ok}
use Rattle.noise_names.proofs.Common.{err_from_is_err_and, Section, is_base_byte, base_front, after_base}
use Rattle.noise_names.proofs.Sections.{take-front, section_ok, section_err}
use Rattle.noise_names.proofs.section.parse_section.Goals as goal

base_is : (section base : List ℕ) (n : ℕ) → n ≡ length (base_front section) → base ≡ take n section → base ≡ base_front section
base_is section base n e f = f ∙ ap (λ (k : ℕ). take k section) e ∙ take-front is_base_byte section

modifiers_are : (section modifiers : List ℕ) (n : ℕ) → n ≡ length (base_front section) → modifiers ≡ drop n section → modifiers ≡ after_base section
modifiers_are section modifiers n e f = f ∙ ap (λ (k : ℕ). drop k section) e

pub returns-in_err-places : goal.returns-in_err-places
returns-in_err-places c =
    let p = err_from_is_err_and c.from_residual.result c.from_residual.ensures.1 in
    rw (p.1, p.2)
    (sym (section_err c.args.section.now c.split_at.result.0.now c.split_at.result.1.now c.in_err-places.field-0.0
    (base_is c.args.section.now c.split_at.result.0.now c.base_len.result c.base_len.ensures c.split_at.ensures.front)
    (modifiers_are c.args.section.now c.split_at.result.1.now c.base_len.result c.base_len.ensures c.split_at.ensures.back)
    (sym c.if-not-is_base.ensures) (sym c.in_err-places.ensures)))

pub returns : goal.returns
returns c =
    ap (λ (s : Section). Ok s) c.of.ensures.value
    ∙ sym (section_ok c.args.section.now c.split_at.result.0.now c.split_at.result.1.now c.in_ok-places.places
    (base_is c.args.section.now c.split_at.result.0.now c.base_len.result c.base_len.ensures c.split_at.ensures.front)
    (modifiers_are c.args.section.now c.split_at.result.1.now c.base_len.result c.base_len.ensures c.split_at.ensures.back)
    (sym c.if-not-is_base.ensures) (sym c.in_ok-places.ensures))
