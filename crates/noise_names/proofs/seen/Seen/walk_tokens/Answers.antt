use Rattle.std.proofs.Common.{rules, ◌≡◌, List, ◌∷◌, ◌++◌, [], ◌+◌, sym, ap, ◌∙◌, subst, append_assoc, append-nil, drop, get_or, arith, Ok, Err}
use Rattle.noise_names.proofs.Common.{err_from_is_err_and, drop_all, E, Place, place, does, token_places, Walks}
use Rattle.noise_names.proofs.Checking.{walks_on, walks_fault_before, token_places-at}
use Rattle.noise_names.proofs.seen.Seen.walk_tokens.Goals as goal

pub returns-in_err-walk_token : goal.returns-in_err-walk_token
returns-in_err-walk_token c = record {
  walks =
      let q : Place = place c.args.party (does (get_or c.args.tokens.now c.loop-token.token-index E)) c.args.message c.loop-token.index in
      let rest : List Place = token_places c.args.party c.args.message (c.loop-token.index + 1) (drop (c.loop-token.token-index + 1) c.args.tokens.now) in
      let joined : (c.loop-token.invariant.1 ++ q ∷ []) ++ rest ≡ token_places c.args.party c.args.message 0 c.args.tokens.now =
      search (rules, append_assoc, token_places-at) in
      let p = err_from_is_err_and c.from_residual.result c.from_residual.ensures.1 in
      rw (p.1, p.2)
      (subst (λ (ps : List Place). Walks c.args.self.now c.walk_token.new.self ps (Err c.in_err-walk_token.field-0.0)) joined
      (walks_fault_before c.args.self.now c.walk_token.new.self (c.loop-token.invariant.1 ++ q ∷ []) rest c.in_err-walk_token.field-0.0
      (walks_on c.args.self.now c.loop-token.self c.walk_token.new.self c.loop-token.invariant.1 (q ∷ []) (Err c.in_err-walk_token.field-0.0)
      c.loop-token.invariant.2 c.in_err-walk_token.ensures)));
}

pub loop-token-preserved : goal.loop-token-preserved
loop-token-preserved c =
    let q : Place = place c.args.party (does (get_or c.args.tokens.now c.loop-token.token-index E)) c.args.message c.loop-token.index in
    let rest : List Place = token_places c.args.party c.args.message (c.loop-token.index + 1) (drop (c.loop-token.token-index + 1) c.args.tokens.now) in (
      omega arith,
      c.loop-token.invariant.1 ++ q ∷ [],
      walks_on c.args.self.now c.loop-token.self c.walk_token.new.self c.loop-token.invariant.1 (q ∷ []) (Ok tt) c.loop-token.invariant.2
          c.in_ok-walk_token.ensures,
      append_assoc c.loop-token.invariant.1 (q ∷ []) rest
          ∙ ap (λ (ps : List Place). c.loop-token.invariant.1 ++ ps)
          (sym (token_places-at c.args.party c.args.message c.loop-token.index c.args.tokens.now c.loop-token.token-index E c.loop-token-test.true))
          ∙ c.loop-token.invariant.3,
    )

pub returns : goal.returns
returns c = record {
  walks =
      let e : c.loop-token.invariant.1 ≡ token_places c.args.party c.args.message 0 c.args.tokens.now = search (rules, append-nil, drop_all) in
      subst (λ (ps : List Place). Walks c.args.self.now c.loop-token.self ps (Ok tt)) e c.loop-token.invariant.2;
}
