use Rattle.std.proofs.Common.{◌+◌, ◌-◌, ◌≤◌, length}
use Rattle.noise_duel.proofs.Common.{EndMatches, Side, HasReceivedSome}
use Rattle.noise_duel.proofs.delivery.receive_chunks.Given as goal

abbrev pub invariant-loop-rest : goal.invariant-loop-rest
invariant-loop-rest g l =
    record {
      most : length l.rest ≤ length l.bytes;
      index : l.index + length l.rest ≤ 8 + length l.bytes;
      some : (s : Side) → EndMatches g.K.Keys.pairs l.fn.end s.state
          → HasReceivedSome g.K.Keys.pairs s l.role l.bytes l.rest l.end l.fn.entries.items l.entries.items;
    }

abbrev pub decreases-loop-rest : goal.decreases-loop-rest
decreases-loop-rest g l = length l.rest + (8 - l.index)
