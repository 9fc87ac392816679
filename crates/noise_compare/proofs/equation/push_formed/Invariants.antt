use Rattle.std.proofs.Common.{◌≡◌, ◌++◌, map, take}
use Rattle.noise_compare.specs.Equations.{formed_by}
use Rattle.noise_compare.proofs.equation.push_formed.Given as goal

-- the source in the forms so far
abbrev pub invariant-loop-form : goal.invariant-loop-form
invariant-loop-form l = l.inputs.items
    ≡ l.initial.inputs.items ++ map (formed_by l.source) (take l.form-index l.form-items)
