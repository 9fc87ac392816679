-- The places of a pattern that have passed.
use Rattle.std.specs.Prelude.{ℕ, List}
use Rattle.noise_names.specs.Plan.{Plan, Place, first_places}

-- the places of a pattern before the message after so many: those of its pre-messages and of these messages
abbrev pub passed_places : Plan → ℕ → List Place
passed_places p passed = first_places p passed
