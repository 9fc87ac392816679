use Rattle.std.proofs.Common.{◌≡◌, ◌∙◌, ◌++◌, ℕ, Bool, List, [], ap, append_assoc}
use Rattle.noise_compare.specs.Advice.{dropped_advice}
use Rattle.noise_compare.specs.Situations.{secrets_of}
use Rattle.noise_compare.proofs.SituationLemmas.{same-text}
use Rattle.noise_compare.proofs.sentences.of_dropped.Goals as goal

said : (start first second new a b : List ℕ) (text : Bool → List ℕ) (gap is : Bool) → start ≡ [] → first ≡ start ++ a → second ≡ first ++ b → new ≡ second ++ text gap
    → gap ≡ is → new ≡ a ++ (b ++ text is)
said start first second new a b text gap is s e f g h = rw (g, f, e, s, h) (append_assoc a b (text is))

pub returns : goal.returns
returns c = record {
  text = record {
    at = c.situation-at.result;
    step = record {
      kind = c.situation-at.ensures.kind ∙ c.in_ok-parts.ensures.kind;
      before = c.situation-at.ensures.before ∙ c.in_ok-parts.ensures.before;
      agreed = c.situation-at.ensures.agreed ∙ c.in_ok-parts.ensures.agreed;
      after = c.situation-at.ensures.right ∙ c.in_ok-parts.ensures.right;
      bytes = c.situation-at.ensures.bytes ∙ c.in_ok-parts.ensures.bytes;
      data_is = c.situation-at.ensures.data_is ∙ c.in_ok-parts.ensures.data_is;
      text = same-text _ _ _ _ c.situation-at.ensures.text_is c.in_ok-parts.ensures.text;
      secret = c.situation-at.ensures.secret ∙ c.in_ok-parts.ensures.secret;
      secrets = c.situation-at.ensures.secrets ∙ ap (secrets_of c.args.facts.now) c.in_ok-parts.ensures.kind;
      name = c.situation-at.ensures.name;
      publics = c.situation-at.ensures.publics;
      hashes = c.situation-at.ensures.hashes ∙ c.in_ok-parts.ensures.hashes;
      keys = c.situation-at.ensures.keys ∙ c.in_ok-parts.ensures.keys;
    };
    values = c.in_ok-values.values;
    values_are = c.in_ok-values.ensures;
    text_is = said c.new-text.result.items c.push_value.new.text.items c.push_value-2.new.text.items c.push_dropped.new.text.items _ _
        (λ gap. dropped_advice gap c.situation-at.result c.in_ok-values.values c.args.logged.now c.args.next.now)
        c.has_gap-gap.result _ c.new-text.ensures.items c.in_ok-push_value.ensures c.in_ok-push_value-2.ensures c.in_ok-push_dropped.ensures c.has_gap-gap.ensures.value;
  };
}
