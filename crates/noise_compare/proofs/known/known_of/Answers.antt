use Rattle.std.proofs.Common.{◌∙◌, ap}
use Rattle.noise_compare.specs.Situations.{secrets_of}
use Rattle.noise_compare.proofs.SituationLemmas.{same-text}
use Rattle.noise_compare.proofs.known.known_of.Goals as goal

pub returns : goal.returns
returns c = (
  c.situation-at.result,
  record {
    kind = c.situation-at.ensures.kind ∙ c.in_ok-parts.ensures.kind;
    before = c.situation-at.ensures.before ∙ c.in_ok-parts.ensures.before;
    agreed = c.situation-at.ensures.agreed ∙ c.in_ok-parts.ensures.agreed;
    after = c.situation-at.ensures.right ∙ c.in_ok-parts.ensures.right;
    bytes = c.situation-at.ensures.bytes ∙ c.in_ok-parts.ensures.bytes;
    data_is = c.situation-at.ensures.data_is ∙ c.in_ok-parts.ensures.data_is;
    text = same-text _ _ _ _ c.situation-at.ensures.text_is c.in_ok-parts.ensures.text;
    secret = c.situation-at.ensures.secret ∙ c.in_ok-parts.ensures.secret;
    secrets = c.situation-at.ensures.secrets ∙ ap (secrets_of c.args.facts.now) c.in_ok-parts.ensures.kind;
    name = c.situation-at.ensures.name;
    publics = c.situation-at.ensures.publics;
    hashes = c.situation-at.ensures.hashes ∙ c.in_ok-parts.ensures.hashes;
    keys = c.situation-at.ensures.keys ∙ c.in_ok-parts.ensures.keys;
  },
  c.in_ok-text.ensures,
)
