use Rattle.std.proofs.Common.{◌≡◌, map, take}
use Rattle.std.specs.Prelude.{not}
use Rattle.std.specs.List.{filter}
use Rattle.noise_compare.specs.Finding.{explains, said}
use Rattle.noise_compare.proofs.finding.refusing_mistakes.Given as goal

-- those so far that don't give these values
abbrev pub invariant-loop-row : goal.invariant-loop-row
invariant-loop-row l = map said l.found.items
    ≡ filter (λ row. not (explains row.0 l.at l.logged)) (map said (take l.row-index l.row-items))
