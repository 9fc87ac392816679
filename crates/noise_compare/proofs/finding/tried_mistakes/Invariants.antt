use Rattle.std.proofs.Common.{◌≡◌, map, take}
use Rattle.std.specs.Prelude.{not, ◌||◌}
use Rattle.std.specs.List.{filter}
use Rattle.noise_compare.specs.Finding.{is_of_steps, said}
use Rattle.noise_compare.proofs.finding.tried_mistakes.Given as goal

-- those so far that are tried
abbrev pub invariant-loop-row : goal.invariant-loop-row
invariant-loop-row l = map said l.tried.items
    ≡ filter (λ row. l.lacks || not (is_of_steps row.0)) (map said (take l.row-index l.row-items))
