use Rattle.std.proofs.Common.{◌≡◌, [], drop, map}
use Rattle.std.specs.Prelude.{fold}
use Rattle.noise_compare.specs.Plain.{add_word}
use Rattle.noise_compare.proofs.plain.plain_words.Given as goal

-- the words that are still to come make the line whole
abbrev pub invariant-loop-word : goal.invariant-loop-word
invariant-loop-word l = fold add_word l.line.items (map (λ w. w.now) (drop l.word-index l.word-items))
    ≡ fold add_word [] (map (λ w. w.now) l.word-items)
