use Rattle.std.proofs.Common.{◌≡◌, [], drop, codes}
use Rattle.std.specs.Prelude.{fold}
use Rattle.noise_explain.specs.MixedKeys.{are_least}
use Rattle.noise_explain.specs.FactWords.{add_word}
use Rattle.noise_explain.proofs.fact_words.ways_among.Given as goal

-- the rows that are still to come make the list whole
abbrev pub invariant-loop-keys : goal.invariant-loop-keys
invariant-loop-keys l = fold (λ list w. add_word (codes ", or ") (are_least l.m w.0) w.1.now list) l.list.items (drop l.keys-index l.ways)
    ≡ fold (λ list w. add_word (codes ", or ") (are_least l.m w.0) w.1.now list) [] l.ways
