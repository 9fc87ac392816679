use Rattle.std.proofs.Common.{◌≡◌, map, take}
use Rattle.std.specs.List.{filter}
use Rattle.noise_compare.specs.Finding.{gives, said}
use Rattle.noise_compare.proofs.finding.mistakes.Given as goal

-- those so far that give what was logged
abbrev pub invariant-loop-row : goal.invariant-loop-row
invariant-loop-row l = map said l.found.items
    ≡ filter (λ row. gives row.0 l.at l.logged) (map said (take l.row-index l.row-items))
