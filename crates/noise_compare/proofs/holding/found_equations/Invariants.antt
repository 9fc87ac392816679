use Rattle.std.proofs.Common.{◌≡◌, take}
use Rattle.std.specs.List.{filter}
use Rattle.noise_compare.specs.Holding.{holds}
use Rattle.noise_compare.proofs.holding.found_equations.Given as goal

-- those so far that hold
abbrev pub invariant-loop-equation : goal.invariant-loop-equation
invariant-loop-equation l = l.found.items
    ≡ filter (λ e. holds e l.at l.logged) (take l.equation-index l.equation-items)
