use Rattle.std.proofs.Common.{◌≡◌, ◌++◌, take}
use Rattle.noise_compare.specs.Equations.{pairs}
use Rattle.noise_compare.proofs.equation.push_pairs.Given as goal

-- the equations of the operations so far
abbrev pub invariant-loop-operation : goal.invariant-loop-operation
invariant-loop-operation l = l.equations.items
    ≡ l.initial.equations.items ++ pairs l.value (take l.operation-index l.operations) l.inputs
