use Rattle.std.proofs.Common.{◌≡◌}
use Rattle.noise_tool.proofs.AnswerLemmas.{after-prefix, more-prefix}
use Rattle.noise_tool.proofs.printing.write_text.Goals as goal

pub returns-in_err-write-clause-prefix : goal.returns-in_err-write-clause-prefix
returns-in_err-write-clause-prefix g c = more-prefix _ _ _ _ (rw c.deref.ensures.value at c.write.ensures.prefix)

pub returns-clause-prefix : goal.returns-clause-prefix
returns-clause-prefix g c =
    after-prefix _ _ _ _ _ (rw c.deref.ensures.value at c.in_ok-write.ensures.written)
    (rw (c.deref-2.ensures.value, c.deref-3.ensures.value, c.deref-4.ensures.value) at c.write_traced.ensures.prefix)
