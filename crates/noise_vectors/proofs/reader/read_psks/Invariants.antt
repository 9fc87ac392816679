use Rattle.std.proofs.Common.{◌≡◌, length}
use Rattle.noise_vectors.proofs.Common.{last_number, ArePsks, lines_of, psk_words}
use Rattle.noise_vectors.proofs.reader.read_psks.Given as goal

abbrev pub invariant-loop-lines : goal.invariant-loop-lines
invariant-loop-lines l =
    (l.fn.lines.rest.now ≡ lines_of psk_words l.psks.items l.lines.rest.now)
    × ArePsks l.psks.items
    × (last_number l.lines ≡ last_number l.fn.lines)

abbrev pub decreases-loop-lines : goal.decreases-loop-lines
decreases-loop-lines l = length l.lines.rest.now
