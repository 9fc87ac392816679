use Rattle.std.proofs.Common.{option_copied}
use Rattle.noise_compare.proofs.comparison.differing.Goals as goal

pub returns : goal.returns
returns c = record {
  first = λ first. (
    c.args.found.index,
    c.args.found.left,
    option_copied c.args.found.right,
    first,
    c.index-log-found.result,
    c.index-log-found.is,
    c.deref.result.now,
    rw c.deref.ensures.value c.in_ok-advice.ensures.text,
    c.in_ok-difference_text.ensures,
  );
}
