use Rattle.std.proofs.Common.{◌≡◌, ◌++◌, take}
use Rattle.std.specs.List.{flat_map}
use Rattle.noise_explain.specs.Shown.{sentence_line}
use Rattle.noise_explain.proofs.excerpt.push_sentences.Given as goal

-- the sentences so far
abbrev pub invariant-loop-sentence : goal.invariant-loop-sentence
invariant-loop-sentence l = l.text.items ≡ l.initial.text.items ++ flat_map (λ s. sentence_line s.now) (take l.sentence-index l.sentences)
