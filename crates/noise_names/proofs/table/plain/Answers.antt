use Rattle.std.proofs.Common.{rules, ◌≡◌, ◌≤◌, ◌++◌, ◌∷◌, List, [], map, length, get_or, sym, ap, ◌∙◌, subst, arith, take}
use Rattle.noise_names.proofs.Common.{length-map, get_or-map, take_all, map_more, Token, Plan}
use Rattle.noise_names.specs.Fundamental.{plain}
use Rattle.noise_names.proofs.Fundamentals.{known_is_pattern, known_is_short, known_is_few}
use Rattle.noise_names.proofs.table.plain.Goals as goal

pub of-requires : goal.of-requires
of-requires c = record {
  few =
      let plan : Plan = plain c.args.base.now c.args.initiator.now c.args.responder.now (map (λ m. m.now) c.args.messages.now) in
      let short : length (get_or plan.messages c.loop-tokens.tokens-index []) ≤ 10 = known_is_short c.args.base.now plan c.loop-tokens.tokens-index c.requires.known in
      subst (λ (ts : List Token). length ts ≤ 10) (get_or-map (λ m. m.now) c.args.messages.now c.loop-tokens.tokens-index _ [] c.loop-tokens-test.true) short;
}

pub push-requires : goal.push-requires
push-requires c =
    let plan : Plan = plain c.args.base.now c.args.initiator.now c.args.responder.now (map (λ m. m.now) c.args.messages.now) in
    let few : length plan.messages ≤ 8 = known_is_few c.args.base.now plan c.requires.known in
    (omega arith, omega (arith, few, length-map c.args.messages.now (λ m. m.now)))

pub loop-tokens-preserved : goal.loop-tokens-preserved
loop-tokens-preserved c = (
  c.push.ensures.items ∙ ap (λ (ms : List (List Token)). ms ++ c.of.result ∷ []) c.loop-tokens.invariant.0
      ∙ ap (λ (m : List Token). map (λ r. r.now) (take c.loop-tokens.tokens-index c.args.messages.now) ++ m ∷ []) c.of.ensures.value
      ∙ sym (map_more (λ r. r.now) c.args.messages.now c.loop-tokens.tokens-index _ c.loop-tokens-test.true),
  omega arith,
)

pub of-requires-2 : goal.of-requires-2
of-requires-2 c = record {
  within =
      let plan : Plan = plain c.args.base.now c.args.initiator.now c.args.responder.now (map (λ m. m.now) c.args.messages.now) in
      let all : c.loop-tokens.list.items ≡ plan.messages = c.loop-tokens.invariant.0
      ∙ ap (λ ms. map (λ m. m.now) ms) (take_all c.loop-tokens.tokens-index c.args.messages.now c.loop-tokens-test.false) in
      rw (c.none.ensures, all) (known_is_pattern c.args.base.now plan c.requires.known);
}

pub returns : goal.returns
returns c = record {
  value =
      search (rules, take_all);
}
