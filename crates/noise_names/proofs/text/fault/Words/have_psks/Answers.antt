use Rattle.std.proofs.Common.{sym, ap, ◌∙◌, ◌≡◌, arith, length, List, ◌≤◌}
use Rattle.noise_names.proofs.Common.{Token, with_psk_tokens, own_tokens}
use Rattle.noise_names.proofs.WordLists.{kept-same, same-kept, own-kept}
use Rattle.noise_names.proofs.text.fault.Words.have_psks.Goals as goal

pub returns : goal.returns
returns c = record {
  psks =
      λ tokens h.
      let own : c.deref.result.now ≡ own_tokens tokens = c.deref.ensures.0 ∙ own-kept _ tokens h c.requires.few in
      let message : c.tokens.result.now ≡ with_psk_tokens c.args.places.now c.args.number (own_tokens tokens) =
      c.tokens.ensures.value ∙ c.message_with_psks.ensures.value ∙ ap (λ (ts : List Token). with_psk_tokens c.args.places.now c.args.number ts) own in
      let few : length c.tokens.result.now ≤ 10 = omega (arith, ap length c.tokens.ensures.value, c.tokens.ensures.few) in (
        λ t. kept-same _ tokens _ h few (c.are_same.ensures.0 t ∙ c.deref-2.ensures.0) ∙ message,
        λ e. c.are_same.ensures.1 (same-kept _ tokens _ h few (e ∙ sym message) ∙ sym c.deref-2.ensures.0),
      );
}
