-- What a step reports.
use Rattle.std.specs.Prelude.{ℕ, List, Option, Some, None, Result, Ok, Err}
use Rattle.noise_session.specs.declared.faults.ReceiveFault.{ReceiveFault}
use Rattle.noise_handshake.specs.declared.faults.Cause.{Cause}
use Rattle.noise_session.specs.declared.step.Step.{Step}
use Rattle.noise_session.specs.declared.step.Step.TheVariants as step

-- a step with the bytes of its payload
pub data StepValue : Type 0 where
  Ended : StepValue
  YourTurn : StepValue
  Silent : StepValue
  More : StepValue
  Payload : List ℕ → StepValue
  Dropped : Cause → StepValue
  Refused : ℕ → Cause → StepValue
  Exhausted : StepValue

abbrev pub step_value : Step → StepValue
step_value step.Ended = Ended
step_value step.YourTurn = YourTurn
step_value step.Silent = Silent
step_value step.More = More
step_value (step.Payload bytes) = Payload bytes.now
step_value (step.Dropped cause) = Dropped cause
step_value (step.Refused token cause) = Refused token cause
step_value step.Exhausted = Exhausted

-- what a reader's bytes came to
abbrev pub step_value_of : Result (Option Step) ReceiveFault → Result (Option StepValue) ReceiveFault
step_value_of (Ok None) = Ok None
step_value_of (Ok (Some x)) = Ok (Some (step_value x))
step_value_of (Err fault) = Err fault
