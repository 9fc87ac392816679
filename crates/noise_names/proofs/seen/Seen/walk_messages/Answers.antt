use Rattle.std.proofs.Common.{rules, ◌≡◌, List, ◌++◌, ◌+◌, sym, ap, ◌∙◌, subst, append_assoc, append-nil, drop, arith, Ok, Err}
use Rattle.noise_names.proofs.Common.{drop_all, err_from_is_err_and, Initiator, other, Place, message_places, Walks}
use Rattle.noise_names.proofs.Checking.{walks_on, walks_fault_before, whole_message, message_places-at}
use Rattle.noise_names.proofs.seen.Seen.walk_messages.Goals as goal

pub returns-in_err-walk_message : goal.returns-in_err-walk_message
returns-in_err-walk_message c = record {
  walks =
      let here : List Place = whole_message c.loop-message.party c.loop-message.number c.message-item.result in
      let rest : List Place = message_places (other c.loop-message.party) (c.loop-message.number + 1)
      (drop (c.loop-message.message-index + 1) c.args.messages.now) in
      let joined : (c.loop-message.invariant.1 ++ here) ++ rest ≡ message_places Initiator 1 c.args.messages.now =
      search (rules, append_assoc, message_places-at) in
      let p = err_from_is_err_and c.from_residual.result c.from_residual.ensures.1 in
      rw (p.1, p.2)
      (subst (λ (ps : List Place). Walks c.args.self.now c.walk_message.new.self ps (Err c.in_err-walk_message.field-0.0)) joined
      (walks_fault_before c.args.self.now c.walk_message.new.self (c.loop-message.invariant.1 ++ here) rest c.in_err-walk_message.field-0.0
      (walks_on c.args.self.now c.loop-message.self c.walk_message.new.self c.loop-message.invariant.1 here (Err c.in_err-walk_message.field-0.0)
      c.loop-message.invariant.2 c.in_err-walk_message.ensures)));
}

pub loop-message-preserved : goal.loop-message-preserved
loop-message-preserved c =
    let here : List Place = whole_message c.loop-message.party c.loop-message.number c.message-item.result in
    let rest : List Place = message_places (other c.loop-message.party) (c.loop-message.number + 1)
    (drop (c.loop-message.message-index + 1) c.args.messages.now) in
    let joined : (c.loop-message.invariant.1 ++ here) ++ rest ≡ message_places Initiator 1 c.args.messages.now =
    append_assoc c.loop-message.invariant.1 here rest
    ∙ ap (λ (ps : List Place). c.loop-message.invariant.1 ++ ps)
    (sym (message_places-at c.loop-message.party c.loop-message.number c.args.messages.now c.loop-message.message-index c.message-item.result
    c.loop-message-test.true c.message-item.is))
    ∙ c.loop-message.invariant.3 in (
      omega arith,
      c.loop-message.invariant.1 ++ here,
      walks_on c.args.self.now c.loop-message.self c.walk_message.new.self c.loop-message.invariant.1 here (Ok tt) c.loop-message.invariant.2
          c.in_ok-walk_message.ensures,
      rw c.other-party.ensures joined,
    )

pub returns : goal.returns
returns c = record {
  walks =
      let e : c.loop-message.invariant.1 ≡ message_places Initiator 1 c.args.messages.now = search (rules, append-nil, drop_all) in
      subst (λ (ps : List Place). Walks c.args.self.now c.loop-message.self ps (Ok tt)) e c.loop-message.invariant.2;
}
