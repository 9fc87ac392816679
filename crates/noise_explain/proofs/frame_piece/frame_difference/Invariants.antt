use Rattle.std.proofs.Common.{◌≤◌, ℕ}
use Rattle.noise_explain.specs.FramePieces.{HasNoFrame}
use Rattle.noise_explain.proofs.frame_piece.frame_difference.Given as goal

-- of the messages so far none has both frames
abbrev pub invariant-loop-index : goal.invariant-loop-index
invariant-loop-index l = (n : ℕ) → 1 ≤ n → n ≤ l.index → HasNoFrame n l.expected l.printed
