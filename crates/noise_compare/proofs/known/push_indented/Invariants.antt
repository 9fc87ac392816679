use Rattle.std.proofs.Common.{◌≡◌, ◌++◌, map, take}
use Rattle.noise_compare.specs.Known.{indented_sentences}
use Rattle.noise_compare.specs.Finding.{said}
use Rattle.noise_compare.proofs.known.push_indented.Given as goal

-- the lines of those so far
abbrev pub invariant-loop-row : goal.invariant-loop-row
invariant-loop-row l = l.text.items ≡ l.initial.text.items ++ indented_sentences (map said (take l.row-index l.rows))
