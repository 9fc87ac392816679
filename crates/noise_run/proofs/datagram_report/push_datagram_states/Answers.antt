use Rattle.std.proofs.Common.{rules, ◌∙◌, subst, sym}
use Rattle.noise_session.specs.Datagrams.{DatagramsValue, DatagramsMatch}
use Rattle.noise_run.proofs.PrintedLemmas.{two-pushed, expected-push}
use Rattle.noise_run.proofs.datagram_report.push_datagram_states.Goals as goal

pub returns-clause-lines : goal.returns-clause-lines
returns-clause-lines c = λ d matches.
    let first = subst (λ (h : DatagramsValue). DatagramsMatch h d.initiator.state) (sym c.initiator.ensures) matches.initiator in
    let second = subst (λ (h : DatagramsValue). DatagramsMatch h d.responder.state) (sym c.responder.ensures) matches.responder in
    two-pushed c.args.lines.now.items c.push.new.self.items c.push-2.new.self.items c.into_bytes.result c.into_bytes-2.result _ _ (search rules)
    (search rules) (c.into_bytes.ensures.text ∙ c.in_ok-first.ensures d.initiator.state first)
    (c.into_bytes-2.ensures.text ∙ c.in_ok-second.ensures d.responder.state second)

pub returns-clause-printed : goal.returns-clause-printed
returns-clause-printed c = λ before.
    expected-push _ _ _ c.in_ok-push-2.ensures.items c.into_bytes-2.ensures.printed
    (expected-push _ _ _ c.in_ok-push.ensures.items c.into_bytes.ensures.printed before)
