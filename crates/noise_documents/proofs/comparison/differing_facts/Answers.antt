use Rattle.std.specs.Prelude.{option_copied}
use Rattle.std.proofs.lemmas.Result.{IfOk-weaker}
use Rattle.noise_documents.proofs.comparison.differing_facts.Goals as goal

pub returns : goal.returns
returns c = IfOk-weaker c.differs_facts.result _ _ (λ facts is. (
  c.index-log-found.result,
  option_copied c.args.found.now.right,
  record {
    index = c.args.found.now.index;
    left = c.args.found.now.left;
    first = c.requires.first;
    line_is = c.index-log-found.is;
  },
  is,
)) c.differs_facts.ensures
