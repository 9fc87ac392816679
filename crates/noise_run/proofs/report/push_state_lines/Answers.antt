use Rattle.noise_run.proofs.PrintedLemmas.{expected-push}
use Rattle.noise_run.proofs.report.push_state_lines.Goals as goal

pub returns-clause-printed : goal.returns-clause-printed
returns-clause-printed c = λ before.
    expected-push _ _ _ c.in_ok-push-2.ensures.items c.into_bytes-2.ensures.printed
    (expected-push _ _ _ c.in_ok-push.ensures.items c.into_bytes.ensures.printed before)
