use Rattle.std.proofs.Common.{◌≡◌, ◌∙◌, ◌++◌, ℕ, List, [], ap, refl, subst, sym}
use Rattle.noise_compare.specs.Advice.{HasBytesAlone}
use Rattle.noise_compare.specs.Situations.{secrets_of}
use Rattle.noise_compare.proofs.SituationLemmas.{same-text}
use Rattle.noise_compare.proofs.sentences.of_end.Goals as goal

said : (start new text : List ℕ) → start ≡ [] → new ≡ start ++ text → new ≡ text
said start new text s e = rw (e, s) refl

pub returns : goal.returns
returns c = record {
  at = c.situation-at.result;
  step = record {
    kind = c.situation-at.ensures.kind ∙ c.in_ok-parts.ensures.kind;
    before = c.situation-at.ensures.before ∙ c.in_ok-parts.ensures.before;
    agreed = c.situation-at.ensures.agreed ∙ c.in_ok-parts.ensures.agreed;
    after = c.situation-at.ensures.right ∙ c.in_ok-parts.ensures.right;
    bytes = c.situation-at.ensures.bytes ∙ c.in_ok-parts.ensures.bytes;
    data_is = c.situation-at.ensures.data_is ∙ c.in_ok-parts.ensures.data_is;
    text = same-text _ _ _ _ c.situation-at.ensures.text_is c.in_ok-parts.ensures.text;
    secret = c.situation-at.ensures.secret ∙ c.in_ok-parts.ensures.secret;
    secrets = c.situation-at.ensures.secrets ∙ ap (secrets_of c.args.facts.now) c.in_ok-parts.ensures.kind;
    name = c.situation-at.ensures.name;
    publics = c.situation-at.ensures.publics;
    hashes = c.situation-at.ensures.hashes ∙ c.in_ok-parts.ensures.hashes;
    keys = c.situation-at.ensures.keys ∙ c.in_ok-parts.ensures.keys;
  };
  logged = c.in_ok-values.values;
  bytes = subst (λ (b : List ℕ). HasBytesAlone b c.in_ok-values.values) (c.deref.ensures.value ∙ sym c.situation-at.ensures.bytes) c.in_ok-values.ensures;
  text_is = said c.new-text.result.items c.push_end.new.text.items _ c.new-text.ensures.items c.in_ok-push_end.ensures;
}
