use Rattle.std.proofs.Common.{inr}
use Rattle.noise_tool.proofs.Common.{err_from_is_err_and}
use Rattle.noise_tool.proofs.PerformingLemmas.{unread}
use Rattle.noise_tool.proofs.performing.vector_of.Goals as goal

pub returns-clause-read : goal.returns-clause-read
returns-clause-read c = record {
  right = c.in_ok-read_vector.ensures.right;
  is_allowed = c.in_ok-read_vector.ensures.allowed;
  text_is = c.in_ok-read_vector.ensures.text;
}

pub returns-in_err-read_vector-clause-fault : goal.returns-in_err-read_vector-clause-fault
returns-in_err-read_vector-clause-fault c =
    let p = err_from_is_err_and c.from_residual.result c.from_residual.ensures.1 in
    rw (p.1, p.2) (inr (unread c.args.allowed c.args.text.now c.in_err-read_vector.field-0.0
    c.in_err-read_vector.ensures.every c.in_err-read_vector.ensures.reported))
