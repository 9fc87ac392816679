use Rattle.noise_names.proofs.Judging.{next-dots}
use Rattle.noise_names.proofs.text.fault.Judged.judge_dots.Goals as goal

pub returns-then-has_begun : goal.returns-then-has_begun
returns-then-has_begun c = λ places s dotted st p.
    next-dots places s dotted c.args.self c.if-self.true (c.has_begun.ensures.0 c.if-has_begun.true) st p
