use Rattle.std.proofs.Common.{◌≡◌, ◌++◌, map, take}
use Rattle.noise_compare.specs.Advice.{sentences}
use Rattle.noise_compare.specs.Finding.{said}
use Rattle.noise_compare.proofs.advice.push_sentences.Given as goal

-- the sentences of those so far
abbrev pub invariant-loop-row : goal.invariant-loop-row
invariant-loop-row l = l.text.items ≡ l.initial.text.items ++ sentences (map said (take l.row-index l.rows))
