use Rattle.std.proofs.Common.{rules, ◌≡◌, None, length, ltb, sym, subst}
use Rattle.noise_names.proofs.Common.{find, Plan, Placed}
use Rattle.noise_names.proofs.PskTokens.{few_plain, with_psks, psks_placed, psks_pattern}
use Rattle.noise_names.proofs.pattern.Pattern.with_psks.Goals as goal

pub with_psks-messages-requires-clause-short : goal.with_psks-messages-requires-clause-short
with_psks-messages-requires-clause-short c =
    λ i. rw c.messages-messages.ensures.value (few_plain c.args.base.now.messages i c.requires.plain c.messages-messages.ensures.limits.sizes)

pub of-requires : goal.of-requires
of-requires c = record {
  within =
      let range : find (λ n. ltb (length c.args.base.now.messages) n) c.args.places.now ≡ None =
      rw (← c.messages-messages.ensures.value, ← c.numbers-numbers.ensures.value) (sym c.in_default.ensures) in
      rw (
        c.base.ensures.value,
        c.copy-places.ensures,
        c.pre-initiator.ensures.value,
        c.pre-responder.ensures.value,
        c.with_psks-messages.ensures.value,
        c.numbers-numbers.ensures.value,
        c.messages-messages.ensures.value,
      )
      (psks_pattern c.args.base.now c.args.places.now c.requires.plain c.messages-messages.ensures.limits c.numbers-numbers.ensures.rising range);
}

pub returns-clause-placed : goal.returns-clause-placed
returns-clause-placed c =
    let range : find (λ n. ltb (length c.args.base.now.messages) n) c.args.places.now ≡ None =
    rw (← c.messages-messages.ensures.value, ← c.numbers-numbers.ensures.value) (sym c.in_default.ensures) in
    let same : c.of.result ≡ with_psks c.args.base.now c.args.places.now = search rules in
    subst (λ (p : Plan). Placed c.args.base.now c.args.places.now p) (sym same)
    (psks_placed c.args.base.now c.args.places.now c.requires.plain c.messages-messages.ensures.limits range)
