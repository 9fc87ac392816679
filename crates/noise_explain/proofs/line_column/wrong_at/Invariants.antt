use Rattle.noise_explain.proofs.WalkLemmas.{Walked}
use Rattle.noise_explain.proofs.line_column.wrong_at.Given as goal

-- the words so far are of their shapes
abbrev pub invariant-loop-shape : goal.invariant-loop-shape
invariant-loop-shape l = Walked l.shapes l.line l.shape-index l.at
