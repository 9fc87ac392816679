use Rattle.std.proofs.Common.{◌≡◌, ◌++◌, map, take}
use Rattle.noise_compare.specs.Equations.{paired}
use Rattle.noise_compare.proofs.equation.push_paired.Given as goal

-- the equations of the inputs so far
abbrev pub invariant-loop-input : goal.invariant-loop-input
invariant-loop-input l = l.equations.items
    ≡ l.initial.equations.items ++ map (paired l.value l.operation) (take l.input-index l.inputs)
