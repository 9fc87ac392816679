use Rattle.std.proofs.Common.{arith, ◌≡◌}
use Rattle.noise_tool.proofs.Common.{err_from_is_err_and}
use Rattle.noise_tool.proofs.AskedLemmas.{answer-asked, fault-asked, not-read}
use Rattle.noise_tool.proofs.performing.command_answer.Goals as goal

pub returns-in_err-text-clause-fault : goal.returns-in_err-text-clause-fault
returns-in_err-text-clause-fault g c =
    let p = err_from_is_err_and c.from_residual.result c.from_residual.ensures.1 in
    rw (p.1, p.2) (not-read _ _ c.args.chosen.now _ c.in_err-text.ensures.fault)

pub returns-clause-made : goal.returns-clause-made
returns-clause-made g c =
    let text = c.in_ok-text.text in
    answer-asked _ _ c.args.chosen.now text.items (omega (arith, text.ok.0, c.in_ok-text.ensures.bound)) c.in_ok-text.ensures.text c.answer_on.result
    (rw c.deref.ensures.value at c.answer_on.ensures.made)

pub returns-clause-fault : goal.returns-clause-fault
returns-clause-fault g c =
    let text = c.in_ok-text.text in
    fault-asked _ _ c.args.chosen.now text.items (omega (arith, text.ok.0, c.in_ok-text.ensures.bound)) c.in_ok-text.ensures.text c.answer_on.result
    (rw c.deref.ensures.value at c.answer_on.ensures.fault)
