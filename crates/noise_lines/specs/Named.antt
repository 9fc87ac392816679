-- The pattern that a protocol name is of (Noise, 8), where its base is that of a fundamental pattern.
use Rattle.std.specs.Prelude.{◌≡◌, Some, None}
use Rattle.noise_names.specs.Names.{Section}
use Rattle.noise_names.specs.Plan.{Plan}
use Rattle.noise_names.specs.Fundamental.{fundamental_of}
use Rattle.noise_names.specs.Limits.{Placed, first_beyond}
use Rattle.noise_lines.specs.declared.faults.Fault.{Fault}
use Rattle.noise_lines.specs.declared.faults.Fault.TheVariants.{Place, UnknownPattern}

-- the fundamental pattern of the name's base (7.4 and 7.5), with psk tokens at its places (9.4)
pub record IsNamed (name : Section) (pattern : Plan) : Type 0 where
  pub plain : Plan
  pub known : fundamental_of name.base ≡ Some plain
  pub placed : Placed plain name.places pattern

-- Why a name is of no pattern: no fundamental pattern has its base, or a place is beyond the messages. The first such
-- place is reported.
abbrev pub IsUnnamed : Section → Fault → Type 0
IsUnnamed name UnknownPattern = fundamental_of name.base ≡ None
IsUnnamed name (Place fault) =
    (plain : Plan) × (fundamental_of name.base ≡ Some plain) × (first_beyond plain name.places ≡ Some fault.place)
IsUnnamed name fault = ⊥
