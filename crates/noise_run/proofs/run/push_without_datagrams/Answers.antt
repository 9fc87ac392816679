use Rattle.std.proofs.Common.{◌∙◌, ◌++◌, ◌∷◌, [], ap, ℕ, List}
use Rattle.noise_run.proofs.Common.{bytes_of}
use Rattle.noise_run.proofs.PrintedLemmas.{bytes-push, expected-push}
use Rattle.noise_run.proofs.RunningLemmas.{after-word}
use Rattle.noise_run.proofs.run.push_without_datagrams.Goals as goal

pub returns-clause-after : goal.returns-clause-after
returns-clause-after c = λ d matches.
    after-word d c.push_state_lines.result (bytes_of c.args.lines.now.items) _ _
    (ap bytes_of c.in_ok-push.ensures.items ∙ bytes-push c.args.lines.now.items c.into_bytes.result
    ∙ ap (λ (t : List ℕ). bytes_of c.args.lines.now.items ++ t ∷ []) (c.into_bytes.ensures.text ∙ c.in_ok-new.ensures.text))
    (c.push_state_lines.ensures.lines d matches)

pub returns-clause-printed : goal.returns-clause-printed
returns-clause-printed c = λ before.
    c.push_state_lines.ensures.printed (expected-push _ _ _ c.in_ok-push.ensures.items c.into_bytes.ensures.printed before)
