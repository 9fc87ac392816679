use Rattle.std.proofs.Common.{◌≡◌, ◌++◌}
use Rattle.noise_explain.specs.Facts.{tokens_text}
use Rattle.noise_explain.proofs.facts.push_tokens.Given as goal

-- the tokens so far
abbrev pub invariant-loop-index : goal.invariant-loop-index
invariant-loop-index l = l.text.items ≡ l.initial.text.items ++ tokens_text l.pattern l.message l.index
