-- A step by the places of its payload in the message of the last frame.
use Rattle.std.specs.Prelude.{⊤, ℕ, ◌≤◌, List, length, Option, Some, None, Result, Ok, Err, slice_range}
use Rattle.noise_session.specs.declared.faults.ReceiveFault.{ReceiveFault}
use Rattle.noise_session.specs.declared.step.Step.{Step}
use Rattle.noise_session.specs.Steps.{StepValue, step_value}
use Rattle.noise_session.specs.Steps.StepValue.{Payload}

-- the step, with the payload's bytes from the message
abbrev pub reported_in : List ℕ → Result (ℕ × ℕ) Step → StepValue
reported_in message (Ok place) = Payload (slice_range message place.0 place.1)
reported_in message (Err step) = step_value step

-- a payload's places stand in the message
abbrev pub MatchesIn : List ℕ → Result (ℕ × ℕ) Step → Type 0
MatchesIn message (Ok place) = (place.0 ≤ place.1) × (place.1 ≤ length message)
MatchesIn message (Err step) = ⊤

-- what a reader's bytes came to
abbrev pub received_in : List ℕ → Result (Option (Result (ℕ × ℕ) Step)) ReceiveFault
    → Result (Option StepValue) ReceiveFault
received_in message (Ok None) = Ok None
received_in message (Ok (Some outcome)) = Ok (Some (reported_in message outcome))
received_in message (Err fault) = Err fault
