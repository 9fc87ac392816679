use Rattle.std.proofs.Common.{◌≤◌, ◌+◌, ℕ, List, length, sym, subst, ◌∙◌, arith}
use Rattle.noise_c.proofs.Toying.{read-fits}
use Rattle.noise_c.proofs.Sides.{whole}
use Rattle.noise_c.proofs.two_runs.read.Goals as goal

pub overflow_add-results : goal.overflow_add-results
overflow_add-results c =
    let r = c.read_by-code in
    let fits = read-fits _ _ _ _ _ _ _ _ r.ensures.outcome c.if-code-eq-OK.true in
    omega (arith, fits, r.auto.message, c.deref_mut.ensures.len, c.in_ok-came.came.small)

pub slice_bounds-from_slice-end : goal.slice_bounds-from_slice-end
slice_bounds-from_slice-end c =
    let r = c.read_by-code in
    let fits = read-fits _ _ _ _ _ _ _ _ r.ensures.outcome c.if-code-eq-OK.true in
    let same = c.deref-then-code-eq-OK.ensures.value ∙ whole c.in_ok-came.came.len r.new.message _ (omega (arith, r.auto.message, c.deref_mut.ensures.len)) in
    subst (λ (z : List ℕ). r.new.results.from + r.new.results.len ≤ length z) (sym same) fits
