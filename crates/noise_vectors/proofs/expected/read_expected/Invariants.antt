use Rattle.std.proofs.Common.{◌≡◌, ℕ, Vec, length}
use Rattle.std.specs.Global.{Global}
use Rattle.noise_vectors.proofs.Common.{All, last_number, bytes_of, expect_kind, IsExpected, expect_words, lines_of}
use Rattle.noise_vectors.proofs.expected.read_expected.Given as goal

abbrev pub invariant-loop-alloc : goal.invariant-loop-alloc
invariant-loop-alloc l =
    (l.fn.lines.rest.now ≡ lines_of expect_words l.expected.items l.lines.rest.now)
    × All (λ (words : Vec ℕ Global). IsExpected words.items) l.expected.items
    × (l.kind ≡ expect_kind (bytes_of l.expected.items))
    × (last_number l.lines ≡ last_number l.fn.lines)

abbrev pub decreases-loop-alloc : goal.decreases-loop-alloc
decreases-loop-alloc l = length l.lines.rest.now
