-- What bytes have come to so far, in code that hands them over to an end.
use Rattle.std.specs.Prelude.{◌≡◌, ℕ, ◌<◌, List, [], ◌∷◌, ◌++◌, Option, Some, None, length}
use Rattle.noise_names.specs.declared.token.Role.{Role}
use Rattle.noise_keys.specs.declared.keys.Own.{Own}
use Rattle.noise_session.specs.Steps.{StepValue}
use Rattle.noise_session.specs.Steps.StepValue.{Ended, YourTurn, Silent, Payload, Dropped, Refused, Exhausted}
use Rattle.noise_session.specs.Progress.{idle_step}
use Rattle.noise_session.specs.Ends.{EndValue, EndMatches, progress_of}
use Rattle.noise_duel.specs.declared.entry.Entry.{Entry}
use Rattle.noise_duel.specs.declared.entry.Idle.{Idle}
use Rattle.noise_duel.specs.declared.entry.Idle.TheVariants as idle
use Rattle.noise_duel.specs.Entries.{notes_of, step_of}
use Rattle.noise_duel.specs.Notes.{Note, Judged, Left, noted_by}
use Rattle.noise_duel.specs.Sides.{Side}
use Rattle.noise_duel.specs.Runs.{SideReceives}
use Rattle.noise_keys.specs.Keys.{KeyPairs}

-- what is noted of a step: a payload, or a refused frame
abbrev pub step_note : StepValue → List Note
step_note (Payload bytes) = Judged (Payload bytes) ∷ []
step_note (Dropped cause) = Judged (Dropped cause) ∷ []
step_note (Refused token cause) = Judged (Refused token cause) ∷ []
step_note Exhausted = Judged Exhausted ∷ []
step_note _ = []

-- why an end takes no bytes, and how many are left then; none where it takes some
abbrev pub left_of : StepValue → ℕ → Option (Idle × ℕ)
left_of Ended n = Some (idle.Ended, n)
left_of YourTurn n = Some (idle.YourTurn, n)
left_of Silent n = Some (idle.Silent, n)
left_of _ n = None

-- what is noted of so many bytes that are left, and why they are
abbrev pub note_of_left : Option (Idle × ℕ) → List Note
note_of_left None = []
note_of_left (Some left) = Left (step_of left.0) left.1 ∷ []

-- No bytes are left, or so many and not 0, which the side doesn't listen to.
abbrev pub AreLeft : Side → List ℕ → Option (Idle × ℕ) → Type 0
AreLeft s rest None = rest ≡ []
AreLeft s rest (Some left) =
    (idle_step (progress_of s.state) ≡ Some (step_of left.0)) × (0 < left.1) × (length rest ≡ left.1)

module _ {K : Type 0} (pairs : K → KeyPairs) where
  -- Of bytes that come to this side all but the rest were handed over, and the entries report them: whatever comes of
  -- the rest, with any bytes after it, comes of all of them after the notes so far.
  pub record HasReceivedSome (s : Side) (role : Role) (bytes rest : List ℕ) (end : EndValue K)
      (before after : List (Role × Entry)) : Type 0 where
    pub next : Side
    pub notes : List Note
    pub goes_on : (beyond : List ℕ) (more : List Note) (last : Side) → SideReceives next (rest ++ beyond) more last
        → SideReceives s (bytes ++ beyond) (notes ++ more) last
    pub matches : EndMatches pairs end next.state
    pub frames : next.frames ≡ s.frames
    pub reported : notes_of after ≡ notes_of before ++ noted_by role notes

  -- They were handed over until they ended or the end took none of the rest.
  pub record HasStopped (s : Side) (role : Role) (bytes : List ℕ) (left : Option (Idle × ℕ)) (end : EndValue K)
      (before after : List (Role × Entry)) : Type 0 where
    pub rest : List ℕ
    pub some : HasReceivedSome s role bytes rest end before after
    pub rest_is : AreLeft some.next rest left
