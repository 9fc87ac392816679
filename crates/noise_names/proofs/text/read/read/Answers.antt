use Rattle.std.proofs.Common.{◌≡◌, ◌∷◌, sym, ◌∙◌, ap}
use Rattle.std.specs.Prelude.{Some}
use Rattle.noise_names.proofs.Common.{codes, Decides-eqb, slice_eq-Decides, Plan, Section, text_of, body_of}
use Rattle.noise_names.proofs.Reading.{line-after, stripped, not-stripped, placed-same, within-places, spelled-parts, pattern-section, none-not-some, true-not-false}
use Rattle.std.proofs.lemmas.Option.{same_Some}
use Rattle.noise_names.proofs.text.read.read.Goals as goal

pub returns-in_err-name-clause-every : goal.returns-in_err-name-clause-every
returns-in_err-name-clause-every c = λ p h.
    let part = c.in_err-name.ensures.every (record { base = p.base; places = p.places }) (10 ∷ body_of p) (pattern-section p h.is_pattern)
    (spelled-parts c.args.text.now p h) in
    absurd (part tt)

pub returns-in_err-lines-clause-every : goal.returns-in_err-lines-clause-every
returns-in_err-lines-clause-every c = λ p h.
    let part = c.in_ok-name.ensures.every (record { base = p.base; places = p.places }) (10 ∷ body_of p) (pattern-section p h.is_pattern)
    (spelled-parts c.args.text.now p h) in
    absurd (not-stripped _ (codes "\n") c.in_err-lines.ensures.cases (body_of p) part.1)

pub returns-in_err-plain-clause-every : goal.returns-in_err-plain-clause-every
returns-in_err-plain-clause-every c = λ p h.
    let part = c.in_ok-name.ensures.every (record { base = p.base; places = p.places }) (10 ∷ body_of p) (pattern-section p h.is_pattern)
    (spelled-parts c.args.text.now p h) in
    let lines = line-after _ _ _ part.1 (stripped _ (codes "\n") c.in_ok-lines.lines c.in_ok-lines.ensures.cases) in
    let plain = c.in_err-plain.ensures.every p h.is_pattern (sym (c.base.ensures.value ∙ ap (λ (s : Section). s.base) part.0)) lines in
    absurd (none-not-some _ plain)

pub returns-in-Err-clause-every : goal.returns-in-Err-clause-every
returns-in-Err-clause-every c = λ p h.
    let part = c.in_ok-name.ensures.every (record { base = p.base; places = p.places }) (10 ∷ body_of p) (pattern-section p h.is_pattern)
    (spelled-parts c.args.text.now p h) in
    let lines = line-after _ _ _ part.1 (stripped _ (codes "\n") c.in_ok-lines.lines c.in_ok-lines.ensures.cases) in
    let plain = c.in_ok-plain.ensures.every p h.is_pattern (sym (c.base.ensures.value ∙ ap (λ (s : Section). s.base) part.0)) lines in
    absurd (within-places p c.in_ok-plain.plain c.places.result.now c.in-Err.field-0.place h.is_pattern (same_Some _ _ plain) (c.places.ensures
    ∙ ap (λ (s : Section). s.places) part.0) c.in-Err.ensures.fault)

pub returns-then-eq-clause-every : goal.returns-then-eq-clause-every
returns-then-eq-clause-every c = λ p h.
    let part = c.in_ok-name.ensures.every (record { base = p.base; places = p.places }) (10 ∷ body_of p) (pattern-section p h.is_pattern)
    (spelled-parts c.args.text.now p h) in
    let lines = line-after _ _ _ part.1 (stripped _ (codes "\n") c.in_ok-lines.lines c.in_ok-lines.ensures.cases) in
    let plain = c.in_ok-plain.ensures.every p h.is_pattern (sym (c.base.ensures.value ∙ ap (λ (s : Section). s.base) part.0)) lines in
    ap (λ (q : Plan). Some q) (placed-same p c.in-Ok.pattern c.in_ok-plain.plain c.places.result.now h.is_pattern (same_Some _ _ plain) (c.places.ensures
    ∙ ap (λ (s : Section). s.places) part.0) c.in-Ok.ensures.placed)

pub returns-else-eq-clause-every : goal.returns-else-eq-clause-every
returns-else-eq-clause-every c = λ p h.
    let part = c.in_ok-name.ensures.every (record { base = p.base; places = p.places }) (10 ∷ body_of p) (pattern-section p h.is_pattern)
    (spelled-parts c.args.text.now p h) in
    let lines = line-after _ _ _ part.1 (stripped _ (codes "\n") c.in_ok-lines.lines c.in_ok-lines.ensures.cases) in
    let plain = c.in_ok-plain.ensures.every p h.is_pattern (sym (c.base.ensures.value ∙ ap (λ (s : Section). s.base) part.0)) lines in
    let same : c.in-Ok.pattern ≡ p =
    placed-same p c.in-Ok.pattern c.in_ok-plain.plain c.places.result.now h.is_pattern (same_Some _ _ plain) (c.places.ensures
    ∙ ap (λ (s : Section). s.places) part.0) c.in-Ok.ensures.placed in
    let decides = slice_eq-Decides Decides-eqb _ _ _ c.eq.ensures in
    absurd (true-not-false _ (decides.1 (c.as_slice.ensures.value ∙ c.text.ensures.written ∙ ap text_of same ∙ sym h.spelled)) c.if-eq.false)
