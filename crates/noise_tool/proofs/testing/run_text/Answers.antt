use Rattle.std.proofs.Common.{inr}
use Rattle.noise_tool.proofs.TestingLemmas.{start-unread}
use Rattle.noise_tool.proofs.testing.run_text.Goals as goal

pub returns-clause-pattern : goal.returns-clause-pattern
returns-clause-pattern c = (c.in_ok-vector.vector, c.in_ok-vector.ensures.right, c.in_ok-vector.ensures.text, c.in-Ok.ensures.pattern)

pub returns-clause-facts : goal.returns-clause-facts
returns-clause-facts c = (c.in_ok-vector.vector, c.in_ok-vector.ensures.right, c.in_ok-vector.ensures.text, c.in_ok-facts.ensures)

pub returns-in-Err-clause-read : goal.returns-in-Err-clause-read
returns-in-Err-clause-read c = start-unread c.in_ok-vector.vector c.in-Err.fault c.in-Err.ensures.fault

pub returns-in-Err-clause-fault : goal.returns-in-Err-clause-fault
returns-in-Err-clause-fault c = inr (inr (inr (c.in_ok-vector.vector, c.in_ok-vector.ensures.right, c.in_ok-vector.ensures.text, c.in-Err.ensures.fault)))
