use Rattle.std.proofs.Common.{◌≤◌}
use Rattle.noise_explain.specs.FramePieces.{begin_of}
use Rattle.noise_explain.proofs.frame_piece.piece_at.Given as goal

-- the next token doesn't begin after the byte
abbrev pub invariant-loop-index : goal.invariant-loop-index
invariant-loop-index l = begin_of l.pattern l.message l.index ≤ l.at
