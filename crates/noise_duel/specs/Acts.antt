-- The lines of a conversation, without the buffers that code has them in.
use Rattle.std.specs.Prelude.{ℕ, List, Vec, map}
use Rattle.std.specs.Global.{Global}
use Rattle.noise_names.specs.declared.token.Role.{Role}

-- the roles and payloads of lines
abbrev pub roles_and_payloads : List (Role × Vec ℕ Global × List ℕ) → List (Role × List ℕ)
roles_and_payloads lines = map (λ l. (l.0, l.1.items)) lines
