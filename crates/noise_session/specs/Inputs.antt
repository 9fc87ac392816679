-- What an end makes of the bytes of a reader.
use Rattle.std.specs.Prelude.{◌≡◌, ◌≢◌, ℕ, List, [], ◌++◌, length, Bool, true, false, Option, Some, None, Result, Ok, Err}
use Rattle.std.specs.Io.KnownBytes.{Consumes}
use Rattle.noise_session.specs.declared.faults.ReceiveFault.{ReceiveFault}
use Rattle.noise_session.specs.declared.faults.ReceiveFault.TheVariants.{Input, CutShort}
use Rattle.noise_session.specs.Counting.{one_more}
use Rattle.noise_session.specs.Frames.{IsPartial}
use Rattle.noise_session.specs.Steps.{StepValue}
use Rattle.noise_session.specs.Steps.StepValue.{More}
use Rattle.noise_session.specs.Progress.{idle_step}
use Rattle.noise_session.specs.Ends.{EndValue, EndState, EndMatches, progress_of}
use Rattle.noise_session.specs.Taking.{Takes}
use Rattle.noise_keys.specs.Keys.{KeyPairs}

-- An end reads these bytes: none where it doesn't listen, else the missing ones of one frame. Where the input ends, or
-- a read fails, it keeps those that came; an end of the input between frames is none of a frame.
pub data Receives : EndState → List ℕ → Result (Option StepValue) ReceiveFault → EndState → Type 0 where
  takes : (v next : EndState) (bytes : List ℕ) (step : StepValue) → step ≢ More → Takes v bytes (length bytes) step next
      → Receives v bytes (Ok (Some step)) next
  pauses : (v : EndState) → idle_step (progress_of v) ≡ None → v.partial ≡ [] → Receives v [] (Ok None) v
  is_cut : (v : EndState) (bytes : List ℕ) → idle_step (progress_of v) ≡ None → IsPartial (v.partial ++ bytes)
      → v.partial ++ bytes ≢ []
      → Receives v bytes (Err CutShort) (record v { partial = v.partial ++ bytes })
  fails : (v : EndState) (bytes : List ℕ) → idle_step (progress_of v) ≡ None → IsPartial (v.partial ++ bytes)
      → Receives v bytes (Err Input) (record v { partial = v.partial ++ bytes })

-- whether a read met the end of the input
abbrev pub is_end : {T : Type 0} → Result (Option T) ReceiveFault → Bool
is_end (Ok None) = true
is_end (Ok (Some x)) = false
is_end (Err CutShort) = true
is_end (Err Input) = false

-- how many calls of the reader have failed then
abbrev pub after_receiving : {T : Type 0} → ℕ → Result T ReceiveFault → ℕ
after_receiving failures (Ok x) = failures
after_receiving failures (Err CutShort) = failures
after_receiving failures (Err Input) = one_more failures

module _ {K : Type 0} (pairs : K → KeyPairs) where
  -- An end reads bytes of a reader, with what the reader has left before and after: as every state receives them that
  -- the end matches, and then it matches the state after them.
  abbrev pub EndReceives : EndValue K → Option (List ℕ) → Result (Option StepValue) ReceiveFault → Option (List ℕ)
      → EndValue K → Type 0
  EndReceives old before result after new = (v : EndState) → EndMatches pairs old v
      → (bytes : List ℕ) × (next : EndState) × Receives v bytes result next × Consumes before after bytes
      × EndMatches pairs new next
