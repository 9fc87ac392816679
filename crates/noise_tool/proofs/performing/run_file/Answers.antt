use Rattle.std.proofs.Common.{◌≡◌, inr}
use Rattle.noise_tool.proofs.Common.{err_from_is_err_and, IsPlain}
use Rattle.noise_tool.proofs.PerformingLemmas.{gives-run}
use Rattle.noise_tool.proofs.performing.run_file.Goals as goal

pub returns-in_err-traced-clause-fault : goal.returns-in_err-traced-clause-fault
returns-in_err-traced-clause-fault c =
    let p = err_from_is_err_and c.from_residual-in_err-traced.result c.from_residual-in_err-traced.ensures.1 in
    let read = c.in_ok-vector.ensures.read in
    rw (p.1, p.2) (inr (inr (inr (c.in_ok-vector.vector, read.right, read.text_is, c.in_err-traced.ensures.fault))))

pub returns-clause-made : goal.returns-clause-made
returns-clause-made c =
    let traced = c.in_ok-traced.traced in
    gives-run c.in_ok-vector.ensures.read IsPlain traced (c.in_ok-traced.ensures.lines, c.in_ok-traced.ensures.plain) c.in_ok-traced.ensures.expected _
    c.in_ok-run_answer.ensures.made
