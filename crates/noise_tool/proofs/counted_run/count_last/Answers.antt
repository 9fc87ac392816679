use Rattle.std.proofs.Common.{rules, ◌≡◌, true, Some, None, Option, codes, ◌∷◌, [], subst, sym}
use Rattle.noise_tool.proofs.Common.{AreLast, FileDatagrams, datagrams_of_version, state_lines}
use Rattle.noise_session.specs.EndDatagrams.{is_datagram_ready}
use Rattle.noise_run.specs.Running.{datagram_run_lines, ready, unready, without}
use Rattle.noise_tool.specs.Counting as counting
use Rattle.noise_tool.specs.Counting.{AreDatagramNotes}
use Rattle.std.proofs.lemmas.List.{append-nil}
use Rattle.noise_tool.proofs.RunningLemmas.{both-ready, not-ready, on_ok}
use Rattle.noise_tool.proofs.counted_run.count_last.Goals as goal

pub returns-in_default-clause-run : goal.returns-in_default-clause-run
returns-in_default-clause-run c = λ d matches.
    let none : datagrams_of_version c.args.version ≡ None = search rules in
    (state_lines d, subst (λ (o : Option FileDatagrams). AreLast o d (state_lines d)) (sym none) (without d))

pub returns-in-Ok-clause-run : goal.returns-in-Ok-clause-run
returns-in-Ok-clause-run c = λ d matches.
    let some : datagrams_of_version c.args.version ≡ Some c.in-Some.datagrams = search rules in
    let both : (is_datagram_ready c.args.duel.initiator ≡ true) × (is_datagram_ready c.args.duel.responder ≡ true) = search rules in
    let yes = both-ready c.args.duel d (c.end_is_reported.ensures c.args.duel.initiator d.initiator.state matches.initiator)
    (c.end_is_reported.ensures c.args.duel.responder d.responder.state matches.responder) both in
    let begun = c.in-Ok.ensures.matches d.initiator.state d.responder.state (record { initiator = matches.initiator; responder = matches.responder }) in
    on_ok c.count_datagrams.result _ _ (λ x. (
      datagram_run_lines c.in-Some.datagrams.window x.0 x.1,
      subst (λ (o : Option FileDatagrams). AreLast o d (datagram_run_lines c.in-Some.datagrams.window x.0 x.1)) (sym some)
          (ready c.in-Some.datagrams d x.0 x.1 yes x.2),
    )) (c.count_datagrams.ensures.run _ _ begun)

pub returns-clause-run : goal.returns-clause-run
returns-clause-run c = λ d matches.
    let some : datagrams_of_version c.args.version ≡ Some c.in-Some.datagrams = search rules in
    let not_both : ¬ ((is_datagram_ready c.args.duel.initiator ≡ true) × (is_datagram_ready c.args.duel.responder ≡ true)) = λ both. search rules in
    let no = not-ready c.args.duel d (c.end_is_reported.ensures c.args.duel.initiator d.initiator.state matches.initiator)
    (c.end_is_reported.ensures c.args.duel.responder d.responder.state matches.responder) not_both in (
      codes "no-datagrams" ∷ state_lines d,
      subst (λ (o : Option FileDatagrams). AreLast o d (codes "no-datagrams" ∷ state_lines d)) (sym some)
          (unready c.in-Some.datagrams d no),
    )

-- no datagrams are counted
pub returns-in_default-clause-counted : goal.returns-in_default-clause-counted
returns-in_default-clause-counted c = λ d messages acts matches few h.
    let none : datagrams_of_version c.args.version ≡ None = search rules in (
      [],
      subst (λ (o : Option FileDatagrams). AreDatagramNotes o d []) (sym none) (counting.without d),
      rw (append-nil acts) (c.count_ends.ensures.counted messages acts h),
    )

pub returns-in-Ok-clause-counted : goal.returns-in-Ok-clause-counted
returns-in-Ok-clause-counted c = λ d messages acts matches few h.
    let some : datagrams_of_version c.args.version ≡ Some c.in-Some.datagrams = search rules in
    let both : (is_datagram_ready c.args.duel.initiator ≡ true) × (is_datagram_ready c.args.duel.responder ≡ true) = search rules in
    let yes = both-ready c.args.duel d (c.end_is_reported.ensures c.args.duel.initiator d.initiator.state matches.initiator)
    (c.end_is_reported.ensures c.args.duel.responder d.responder.state matches.responder) both in
    let begun = c.in-Ok.ensures.matches d.initiator.state d.responder.state (record { initiator = matches.initiator; responder = matches.responder }) in
    on_ok c.count_datagrams.result _ _ (λ x. (
      x.0,
      subst (λ (o : Option FileDatagrams). AreDatagramNotes o d x.0) (sym some) (counting.ready c.in-Some.datagrams d x.0 x.1 yes x.2),
      x.3,
    )) (c.count_datagrams.ensures.counted _ _ messages acts begun few h)

pub returns-clause-counted : goal.returns-clause-counted
returns-clause-counted c = λ d messages acts matches few h.
    let some : datagrams_of_version c.args.version ≡ Some c.in-Some.datagrams = search rules in
    let not_both : ¬ ((is_datagram_ready c.args.duel.initiator ≡ true) × (is_datagram_ready c.args.duel.responder ≡ true)) = λ both. search rules in
    let no = not-ready c.args.duel d (c.end_is_reported.ensures c.args.duel.initiator d.initiator.state matches.initiator)
    (c.end_is_reported.ensures c.args.duel.responder d.responder.state matches.responder) not_both in (
      [],
      subst (λ (o : Option FileDatagrams). AreDatagramNotes o d []) (sym some) (counting.unready c.in-Some.datagrams d no),
      rw (append-nil acts) (c.count_ends-in-Err.ensures.counted messages acts h),
    )
