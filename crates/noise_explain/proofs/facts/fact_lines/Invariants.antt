use Rattle.std.proofs.Common.{◌≡◌}
use Rattle.noise_explain.specs.Facts.{messages_text}
use Rattle.noise_explain.proofs.facts.fact_lines.Given as goal

-- the messages so far
abbrev pub invariant-loop-index : goal.invariant-loop-index
invariant-loop-index l = l.text.items ≡ messages_text l.pattern l.index
