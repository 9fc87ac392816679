use Rattle.std.proofs.Common.{◌≡◌, [], drop}
use Rattle.std.specs.Prelude.{fold}
use Rattle.noise_explain.specs.FactWords.{add_word}
use Rattle.noise_explain.proofs.fact_words.listed.Given as goal

-- the words that are still to come make the list whole
abbrev pub invariant-loop-is_meant : goal.invariant-loop-is_meant
invariant-loop-is_meant l = fold (λ list w. add_word l.between w.0 w.1.now list) l.list.items (drop l.is_meant-index l.words)
    ≡ fold (λ list w. add_word l.between w.0 w.1.now list) [] l.words
