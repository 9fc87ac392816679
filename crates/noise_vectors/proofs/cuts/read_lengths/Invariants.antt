use Rattle.std.proofs.Common.{◌≡◌, ◌<◌, ◌++◌, ℕ, List, ◌∷◌, length}
use Rattle.noise_vectors.proofs.Common.{All, AreLengths, lengths_word}
use Rattle.noise_vectors.proofs.CutLemmas.{before, Left}
use Rattle.noise_vectors.proofs.cuts.read_lengths.Given as goal

abbrev pub invariant-loop-first : goal.invariant-loop-first
invariant-loop-first l =
    (l.fn.word ≡ before l.lengths.items ++ l.rest)
    × All (λ n. n < 65536) l.lengths.items
    × ((n : ℕ) (ns : List ℕ) → AreLengths (n ∷ ns) → l.fn.word ≡ lengths_word (n ∷ ns) → Left (n ∷ ns) l.lengths.items l.rest)

abbrev pub decreases-loop-first : goal.decreases-loop-first
decreases-loop-first l = length l.rest
