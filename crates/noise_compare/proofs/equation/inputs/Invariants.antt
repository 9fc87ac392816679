use Rattle.std.proofs.Common.{◌≡◌, ◌++◌, take}
use Rattle.std.specs.List.{flat_map}
use Rattle.noise_compare.specs.Equations.{formed, plain_inputs}
use Rattle.noise_compare.proofs.equation.inputs.Given as goal

-- the plain ones, and the forms of the sources so far
abbrev pub invariant-loop-source : goal.invariant-loop-source
invariant-loop-source l = l.inputs.items
    ≡ plain_inputs l.fn.value ++ flat_map formed (take l.source-index l.source-items)
