use Rattle.std.proofs.Common.{◌≡◌, ℕ, List, codes, length}
use Rattle.noise_vectors.proofs.Common.{All, last_number, IsInner, itself, line_then, lines_of}
use Rattle.noise_vectors.proofs.BlockLemmas.{Left, Read}
use Rattle.noise_vectors.proofs.LineLemmas.{Ends}
use Rattle.noise_vectors.proofs.block.take_block.Given as goal

abbrev pub invariant-loop-lines : goal.invariant-loop-lines
invariant-loop-lines l =
    Ends l.text l.lines.rest.now
    × ((before : List (List ℕ)) (rest : List ℕ) → All IsInner before → l.fn.lines.rest.now ≡ lines_of itself before (line_then (codes "end") rest)
    → Left rest l.lines.rest.now)
    × (last_number l.lines ≡ last_number l.fn.lines)
    × Read l.fn.lines.rest.now l.lines.rest.now

abbrev pub decreases-loop-lines : goal.decreases-loop-lines
decreases-loop-lines l = length l.lines.rest.now
