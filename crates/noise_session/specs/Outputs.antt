-- What an end puts out to a writer.
use Rattle.std.specs.Prelude.{ℕ, ◌<◌, List, [], length, take, Option, Result, Ok, Err}
use Rattle.std.specs.Io.KnownBytes.{Appends}
use Rattle.noise_session.specs.declared.faults.SendFault.{SendFault}
use Rattle.noise_session.specs.declared.faults.SendFault.TheVariants as fault
use Rattle.noise_session.specs.Counting.{one_more}
use Rattle.noise_session.specs.Ends.{EndValue, EndState, EndMatches, ended_session}
use Rattle.noise_session.specs.Sending.{Sends}
use Rattle.noise_keys.specs.Keys.{KeyPairs}

-- The bytes that a writer takes of a payload: its whole frame, or the first bytes of it where a write fails, which ends
-- the session; none where the payload isn't written.
pub data Puts : EndState → List ℕ → Result ℕ SendFault → List ℕ → EndState → Type 0 where
  whole : (v next : EndState) (payload frame : List ℕ) → Sends v payload (Ok frame) next
      → Puts v payload (Ok (length frame)) frame next
  broken : (v next : EndState) (payload frame : List ℕ) (written : ℕ) → Sends v payload (Ok frame) next
      → written < length frame
      → Puts v payload (Err (fault.Output written)) (take written frame) (ended_session next)
  refused : (v next : EndState) (payload : List ℕ) (why : SendFault) → Sends v payload (Err why) next
      → Puts v payload (Err why) [] next

-- how many calls of the writer have failed then
abbrev pub after_output : ℕ → Result ℕ SendFault → ℕ
after_output failures (Err (fault.Output written)) = one_more failures
after_output failures _ = failures

module _ {K : Type 0} (pairs : K → KeyPairs) where
  -- An end puts out a payload to a writer, with what the writer has before and after: as every state does that the end
  -- matches, and then it matches the state after it.
  abbrev pub EndPuts : EndValue K → List ℕ → Option (List ℕ) → Result ℕ SendFault → Option (List ℕ) → EndValue K
      → Type 0
  EndPuts old payload before result after new = (v : EndState) → EndMatches pairs old v
      → (bytes : List ℕ) × (next : EndState) × Puts v payload result bytes next × Appends before after bytes
      × EndMatches pairs new next
