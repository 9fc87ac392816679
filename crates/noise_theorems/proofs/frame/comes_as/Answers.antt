use Rattle.noise_theorems.proofs.Common.{step_value}
use Rattle.noise_theorems.proofs.Framed.{judged}
use Rattle.noise_theorems.proofs.frame.comes_as.Goals as goal

pub returns-clause-exactly : goal.returns-clause-exactly
returns-clause-exactly g c v message matches listens is short =
    let t = c.take.follows.holds-at-none v matches in
    let all = c.reported_exactly.ensures v t.0 message (step_value c.take.result.1)
    (judged v t.0 c.args.bytes.now message c.take.result.0 (step_value c.take.result.1) t.1 listens is short) in
    let here = all.payload c.args.payload.now in
    (λ e. here.0 (c.is_payload.ensures.0 e), λ e. c.is_payload.ensures.1 (here.1 e))
