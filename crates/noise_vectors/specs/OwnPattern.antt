-- The pattern that a vector file spells itself.
use Rattle.std.specs.Prelude.{◌≡◌}
use Rattle.noise_names.specs.Names.{Section}
use Rattle.noise_names.specs.Plan.{Plan}

-- the pattern's base and psk places are those of the protocol's name
abbrev pub HasName : Plan → Section → Type 0
HasName pattern name = (pattern.base ≡ name.base) × (pattern.places ≡ name.places)
