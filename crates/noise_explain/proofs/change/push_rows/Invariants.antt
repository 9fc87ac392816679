use Rattle.std.proofs.Common.{◌≡◌, ◌++◌, take}
use Rattle.std.specs.List.{flat_map}
use Rattle.noise_explain.specs.Corrections.{change_row}
use Rattle.noise_explain.proofs.change.push_rows.Given as goal

-- the rows so far
abbrev pub invariant-loop-change : goal.invariant-loop-change
invariant-loop-change l = l.text.items ≡ l.initial.text.items ++ flat_map change_row (take l.change-index l.changes)
