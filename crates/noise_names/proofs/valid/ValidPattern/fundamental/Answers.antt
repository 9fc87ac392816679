use Rattle.std.proofs.Common.{sym, ◌∙◌}
use Rattle.noise_names.proofs.Fundamentals.{known_is_valid, known_is_placed, no_more_fundamentals}
use Rattle.noise_names.proofs.valid.ValidPattern.fundamental.Goals as goal

pub invariant_of-result : goal.invariant_of-result
invariant_of-result c = known_is_valid c.args.base.now c.row.result (sym c.in_ok-place.ensures ∙ c.row.ensures.value)

pub returns-then-place-lt15-clause-valid : goal.returns-then-place-lt15-clause-valid
returns-then-place-lt15-clause-valid c = known_is_valid c.args.base.now c.row.result (sym c.in_ok-place.ensures ∙ c.row.ensures.value)

pub returns-then-place-lt15-clause-placed : goal.returns-then-place-lt15-clause-placed
returns-then-place-lt15-clause-placed c = known_is_placed c.args.base.now c.row.result (sym c.in_ok-place.ensures ∙ c.row.ensures.value)

pub returns-else-place-lt15-clause-value : goal.returns-else-place-lt15-clause-value
returns-else-place-lt15-clause-value c = sym (no_more_fundamentals c.in_ok-place.place c.if-place-lt15.false) ∙ c.in_ok-place.ensures
