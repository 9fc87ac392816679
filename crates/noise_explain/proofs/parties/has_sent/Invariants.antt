use Rattle.std.proofs.Common.{◌≡◌}
use Rattle.noise_explain.specs.Parties.{has_sent}
use Rattle.noise_explain.proofs.parties.has_sent.Given as goal

-- the messages so far
abbrev pub invariant-loop-index : goal.invariant-loop-index
invariant-loop-index l = l.has ≡ has_sent l.pattern l.fn.party l.fn.key l.index
