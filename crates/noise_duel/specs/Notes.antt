-- What is noted of what happens between two ends.
use Rattle.std.specs.Prelude.{ℕ, zero, suc, List, [], ◌∷◌, map}
use Rattle.noise_names.specs.declared.token.Role.{Role}
use Rattle.noise_session.specs.declared.faults.SendFault.{SendFault}
use Rattle.noise_session.specs.Steps.{StepValue}

pub data Note : Type 0 where
  Wrote : ℕ → Note  -- the frame's number
  WriteFault : SendFault → Note
  Judged : StepValue → Note  -- a payload, or a refused frame
  Left : StepValue → ℕ → Note  -- so many bytes come to an end that doesn't listen, and are lost
  Missing : ℕ → Note  -- no frame of this number was written
  Held : ℕ → Note  -- so many bytes of an unfinished frame

-- what is noted of bytes that are lost, and of bytes that are held; nothing where there are none
abbrev pub left_note : StepValue → ℕ → List Note
left_note step zero = []
left_note step (suc n) = Left step (suc n) ∷ []

abbrev pub held_note : ℕ → List Note
held_note zero = []
held_note (suc n) = Held (suc n) ∷ []

abbrev pub noted_by : Role → List Note → List (Role × Note)
noted_by role notes = map (λ note. (role, note)) notes
