use Rattle.std.proofs.Common.{◌≡◌, refl, inl, inr, []}
use Rattle.noise_lines.specs.declared.faults.Fault.TheVariants.{Memory}
use Rattle.noise_tool.proofs.Common.{Appends-nil}
use Rattle.noise_tool.proofs.AnswerLemmas.{whole-prefix}
use Rattle.noise_tool.specs.Answers.{answer_value, fault_value}
use Rattle.noise_tool.proofs.printing.print.Goals as goal

pub returns-in-Ok-clause-told : goal.returns-in-Ok-clause-told
returns-in-Ok-clause-told g c = (answer_value c.in-Ok.answer, rw c.in-Ok.is refl, c.print_answer.ensures.printed)

pub returns-in-Ok-fault_answer-clause-told : goal.returns-in-Ok-fault_answer-clause-told
returns-in-Ok-fault_answer-clause-told g c =
    (answer_value c.in-Ok-fault_answer.answer, rw c.in-Err.is (inl c.in-Ok-fault_answer.ensures), c.print_answer-in-Ok-fault_answer.ensures.printed)

pub returns-in-Err-fault_answer-clause-told : goal.returns-in-Err-fault_answer-clause-told
returns-in-Err-fault_answer-clause-told g c = (
  fault_value Memory,
  rw c.in-Err.is (inr refl),
  record {
    prefix = whole-prefix _ _ [] (Appends-nil _);
    unwritten = λ none. refl;
    ends = inl (refl, Appends-nil _, rw c.as_slice.ensures at c.write.ensures.prefix, λ none. absurd (cc none));
  },
)
