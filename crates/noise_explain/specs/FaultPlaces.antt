-- Where a fault stands in the text of a pattern.
use Rattle.std.specs.Prelude.{◌≡◌, ℕ, List}
use Rattle.noise_names.specs.Plan.{Plan}
use Rattle.noise_names.specs.Text.{Spells}
use Rattle.noise_lines.specs.declared.faults.Fault.{Fault}
use Rattle.noise_lines.specs.declared.faults.Fault.TheVariants.{Rule, Text}
use Rattle.noise_explain.specs.Positions.{IsColumn, line_at}
use Rattle.noise_explain.specs.RulePlaces.{IsRulePlace}
use Rattle.noise_explain.specs.declared.position.Position.{Position}

-- a fault of a pattern text stands at this position of it
abbrev pub IsAt : List ℕ → Fault → Position → Type 0
IsAt text (Text fault) position =
    (position.line ≡ fault.line) × IsColumn fault.kind fault.line (line_at text fault.line) position.column
IsAt text (Rule fault) position = (p : Plan) × Spells text p × IsRulePlace p fault position
IsAt text fault position = ⊥
