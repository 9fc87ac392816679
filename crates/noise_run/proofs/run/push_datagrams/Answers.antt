use Rattle.noise_run.proofs.RunningLemmas.{after-window}
use Rattle.noise_run.proofs.run.push_datagrams.Goals as goal

pub returns-clause-after : goal.returns-clause-after
returns-clause-after c = λ v w matches.
    let ran = c.in_ok-duel.ensures.reports v w matches in
    after-window c.args.datagrams.now v w _ ran.last c.push_datagram_states.result _ _ _ _ (rw (← c.deref.ensures.value) ran.run) c.in_ok-push_window.ensures.lines
    c.in_ok-push_datagram_lines.ensures.lines (c.push_datagram_states.ensures.lines ran.last ran.matches)

pub returns-clause-printed : goal.returns-clause-printed
returns-clause-printed c = λ before.
    c.push_datagram_states.ensures.printed (c.in_ok-push_datagram_lines.ensures.printed (c.in_ok-push_window.ensures.printed before))
