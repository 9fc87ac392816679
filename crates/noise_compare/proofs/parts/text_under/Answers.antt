use Rattle.std.proofs.Common.{arith, inl, inr}
use Rattle.noise_compare.proofs.parts.text_under.Goals as goal

pub returns-then-len-gt65535 : goal.returns-then-len-gt65535
returns-then-len-gt65535 c = inr (c.in_ok-whole.ensures.items, λ fits. absurd (omega arith))

pub returns-in-Some : goal.returns-in-Some
returns-in-Some c = inl (rw c.in-Some.is at c.in_ok-found.ensures.opened)

pub returns-in-None : goal.returns-in-None
returns-in-None c = inr (c.in_ok-whole.ensures.items, λ fits. rw c.in-None.is at c.in_ok-found.ensures.none)
