-- What a fault of a write leaves.
use Rattle.std.specs.Prelude.{Bool, true, false}
use Rattle.noise_session.specs.declared.faults.SendFault.{SendFault}
use Rattle.noise_session.specs.declared.faults.SendFault.TheVariants.{Agreement, Exhausted, Output}

-- whether it ends the session
abbrev pub ends : SendFault → Bool
ends (Agreement token) = true
ends Exhausted = true
ends (Output written) = true
ends _ = false
