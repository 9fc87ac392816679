use Rattle.noise_names.proofs.Judging.{arrow-line, judged-line}
use Rattle.noise_names.proofs.text.fault.Judged.judge.Goals as goal

pub returns-then-self : goal.returns-then-self
returns-then-self c = λ s dotted st p.
    let read = c.in-Some-read.ensures.some in
    judged-line _ dotted s _ _ _ (arrow-line _ _ _ read.0 c.in-Some.ensures.front read.2)
    (c.judge_pre_message.ensures.next _ s dotted read.0 st p read.1)

pub returns-else-self : goal.returns-else-self
returns-else-self c = λ s dotted st p.
    let read = c.in-Some-read.ensures.some in
    judged-line _ dotted s _ _ _ (arrow-line _ _ _ read.0 c.in-Some.ensures.front read.2)
    (c.judge_message.ensures.next s dotted read.0 st p read.1)
