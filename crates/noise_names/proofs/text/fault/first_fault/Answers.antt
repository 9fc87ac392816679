use Rattle.std.proofs.Common.{sym, ◌∙◌}
use Rattle.noise_names.proofs.Common.{codes}
use Rattle.noise_names.proofs.FirstFaults.{no-heading, wrong-heading, after-heading}
use Rattle.noise_names.proofs.Reading.{differ_from_test, stripped, not-stripped}
use Rattle.noise_names.proofs.text.fault.first_fault.Goals as goal

pub returns-in_default : goal.returns-in_default
returns-in_default c = no-heading c.args.text.now c.fault.result (λ s rest h e. c.in_default.ensures.every s rest h e tt) c.fault.ensures

pub returns-in-Some-strip_prefix : goal.returns-in-Some-strip_prefix
returns-in-Some-strip_prefix c =
    after-heading c.args.text.now c.in-Some.name c.in-Some.after.now c.in-Some-strip_prefix.lines.now c.fault_of_lines.result c.in-Some.ensures.some
    (stripped _ (codes "\n") c.in-Some-strip_prefix.lines c.in-Some-strip_prefix.ensures.cases)
    (c.fault_of_lines.ensures.fault c.in-Some.name c.in-Some.ensures.valid (sym (c.numbers.ensures.value ∙ c.places.ensures)))

pub returns-else-is_empty : goal.returns-else-is_empty
returns-else-is_empty c =
    wrong-heading c.args.text.now c.in-Some.name c.in-Some.after.now c.fault-else-is_empty.result c.in-Some.ensures.every
    (differ_from_test _ _ 0 c.is_empty.ensures c.if-is_empty.false) (not-stripped _ (codes "\n") c.in-None.ensures.cases) c.fault-else-is_empty.ensures
