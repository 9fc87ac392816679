use Rattle.std.proofs.Common.{◌≡◌, fold, take}
use Rattle.noise_compare.specs.Shown.{equation_text, shorter}
use Rattle.noise_compare.proofs.shown.shortest.Given as goal

-- the shortest so far
abbrev pub invariant-loop-equation : goal.invariant-loop-equation
invariant-loop-equation l = l.best.items
    ≡ fold (shorter l.kind) (equation_text l.kind l.fn.first) (take l.equation-index l.more)
