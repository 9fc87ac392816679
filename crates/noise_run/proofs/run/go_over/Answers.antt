use Rattle.std.proofs.Common.{rules, ◌≡◌, true, Some, None}
use Rattle.noise_run.proofs.Common.{bytes_of}
use Rattle.noise_session.specs.EndDatagrams.{is_datagram_ready}
use Rattle.noise_run.proofs.RunningLemmas.{after-ready, after-unready, after-without, both-ready, not-ready}
use Rattle.noise_run.proofs.run.go_over.Goals as goal

pub returns-in_default-clause-after : goal.returns-in_default-clause-after
returns-in_default-clause-after c = λ d matches.
    let none : c.args.datagrams ≡ None = search rules in
    after-without c.args.datagrams d c.push_state_lines.result (bytes_of c.args.lines.now.items) _ none (c.push_state_lines.ensures.lines d matches)

pub returns-in-Ok-clause-after : goal.returns-in-Ok-clause-after
returns-in-Ok-clause-after c = λ d matches.
    let some : c.args.datagrams ≡ Some c.in-Some.datagrams = search rules in
    let both : (is_datagram_ready c.args.duel.initiator ≡ true) × (is_datagram_ready c.args.duel.responder ≡ true) = search rules in
    let yes = both-ready c.args.duel d (c.end_is_reported.ensures c.args.duel.initiator d.initiator.state matches.initiator)
    (c.end_is_reported.ensures c.args.duel.responder d.responder.state matches.responder) both in
    let begun = c.in-Ok.ensures.matches d.initiator.state d.responder.state (record { initiator = matches.initiator; responder = matches.responder }) in
    after-ready c.args.datagrams c.in-Some.datagrams d c.push_datagrams.result (bytes_of c.args.lines.now.items) _ some yes
    (c.push_datagrams.ensures.after _ _ begun)

pub returns-clause-after : goal.returns-clause-after
returns-clause-after c = λ d matches.
    let some : c.args.datagrams ≡ Some c.in-Some.datagrams = search rules in
    let not_both : ¬ ((is_datagram_ready c.args.duel.initiator ≡ true) × (is_datagram_ready c.args.duel.responder ≡ true)) = λ both. search rules in
    let no = not-ready c.args.duel d (c.end_is_reported.ensures c.args.duel.initiator d.initiator.state matches.initiator)
    (c.end_is_reported.ensures c.args.duel.responder d.responder.state matches.responder) not_both in
    let same : c.in-Err.duel ≡ c.args.duel = search rules in
    after-unready c.args.datagrams c.in-Some.datagrams d c.push_without_datagrams.result (bytes_of c.args.lines.now.items) _ some no
    (c.push_without_datagrams.ensures.after d (rw same matches))
