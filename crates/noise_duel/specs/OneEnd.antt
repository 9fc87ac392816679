-- What comes of one end's part of an event, in code: an end, its frames, and the entries.
use Rattle.std.specs.Prelude.{◌≡◌, ℕ, List, ◌++◌, Option, Vec, Result, length}
use Rattle.std.specs.Global.{Global}
use Rattle.noise_names.specs.declared.token.Role.{Role}
use Rattle.noise_keys.specs.declared.keys.Own.{Own}
use Rattle.noise_session.specs.declared.faults.SendFault.{SendFault}
use Rattle.noise_session.specs.Ends.{EndValue, EndMatches}
use Rattle.noise_duel.specs.declared.entry.Entry.{Entry}
use Rattle.noise_names.specs.Lists.{bytes_of}
use Rattle.noise_duel.specs.Entries.{notes_of, written_note}
use Rattle.noise_duel.specs.Notes.{Note, held_note, noted_by}
use Rattle.noise_duel.specs.Sides.{Side}
use Rattle.noise_duel.specs.Runs.{SideWrites, SideReceives}
use Rattle.noise_keys.specs.Keys.{KeyPairs}

module _ {K : Type 0} (pairs : K → KeyPairs) where
  -- After a write at this side the end and the frames are those of another one.
  pub record HasWritten (s : Side) (payload : List ℕ) (reported : Result ℕ SendFault) (end : EndValue K)
      (frames : List (Vec ℕ Global)) : Type 0 where
    pub next : Side
    pub writes : SideWrites s payload (written_note reported) next
    pub matches : EndMatches pairs end next.state
    pub frames_are : bytes_of frames ≡ next.frames

  -- After bytes that came to this side the end is that of another one, and the entries report them.
  pub record HasReceived (s : Side) (role : Role) (bytes : List ℕ) (end : EndValue K)
      (before after : List (Role × Entry)) : Type 0 where
    pub next : Side
    pub notes : List Note
    pub receives : SideReceives s bytes notes next
    pub matches : EndMatches pairs end next.state
    pub frames : next.frames ≡ s.frames
    pub reported : notes_of after ≡ notes_of before ++ noted_by role (notes ++ held_note (length next.state.partial))
