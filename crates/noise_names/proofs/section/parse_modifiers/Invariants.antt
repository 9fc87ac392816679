use Rattle.std.proofs.Common.{◌≡◌, ℕ, List, ◌++◌, true, length, take}
use Rattle.noise_names.proofs.Modifiers.{fronts, are_numbers}
use Rattle.noise_names.proofs.section.parse_modifiers.Given as goal

abbrev pub invariant-loop-number : goal.invariant-loop-number
invariant-loop-number l =
    (done : List ℕ) × (l.modifiers ≡ fronts done ++ l.rest) × (are_numbers done ≡ true)
    × (l.numbers.items ≡ take 10 done)

abbrev pub decreases-loop-number : goal.decreases-loop-number
decreases-loop-number l = length l.rest
