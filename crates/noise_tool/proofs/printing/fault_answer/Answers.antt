use Rattle.std.proofs.Common.{◌≡◌, ◌∙◌, ap, arith}
use Rattle.noise_tool.proofs.Common.{status_of}
use Rattle.noise_tool.proofs.AnswerLemmas.{status-bounds, told-other, told-rule}
use Rattle.noise_tool.proofs.printing.fault_answer.Goals as goal

pub output-requires : goal.output-requires
output-requires c = omega (arith, c.status.ensures, status-bounds c.args.fault)

pub refusal-requires : goal.refusal-requires
refusal-requires c = record {
  some = omega (arith, c.status-in_default.ensures, status-bounds c.args.fault);
  few = omega (arith, c.status-in_default.ensures, status-bounds c.args.fault);
}

pub returns-in-Rule : goal.returns-in-Rule
returns-in-Rule c = rw c.in-Rule.is (told-rule c.in-Rule.field-0 _ c.output.result (rw c.in-Rule.is at c.in_ok-line.ensures) c.output.ensures.out c.output.ensures.err
    (c.output.ensures.status ∙ c.status.ensures ∙ ap status_of c.in-Rule.is))

pub returns-in_default : goal.returns-in_default
returns-in_default c = told-other c.args.fault _ c.refusal.result (λ f is. c.in_default.not-Rule f is) c.in_ok-line.ensures c.refusal.ensures.out c.refusal.ensures.err
    (c.refusal.ensures.status ∙ c.status-in_default.ensures)
