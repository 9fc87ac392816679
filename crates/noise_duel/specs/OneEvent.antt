-- What comes of one event, in code: two ends and a report.
use Rattle.std.specs.Prelude.{◌≡◌, ℕ, List, [], ◌∷◌, ◌++◌, Option, Some, None, Result, IfOk, OnOk}
use Rattle.std.specs.Result.{result_ok}
use Rattle.noise_names.specs.declared.token.Role.{Role}
use Rattle.noise_keys.specs.declared.keys.Own.{Own}
use Rattle.noise_session.specs.declared.faults.SendFault.{SendFault}
use Rattle.noise_session.specs.Ends.{EndValue, EndMatches}
use Rattle.noise_duel.specs.declared.entry.Entry.{Entry}
use Rattle.noise_duel.specs.declared.report.Report.{Report}
use Rattle.noise_duel.specs.Entries.{notes_of, written_note}
use Rattle.noise_events.specs.Events.{Event}
use Rattle.noise_duel.specs.Notes.{Note, Missing}
use Rattle.noise_duel.specs.DuelValue.{DuelValue, DuelMatches, HasFrames}
use Rattle.noise_duel.specs.OneEnd.{HasReceived}
use Rattle.noise_duel.specs.Runs.{SideWrites, Happens, Run}
use Rattle.noise_duel.specs.Sides.{Side, Sides, side, with_side}
use Rattle.noise_keys.specs.Keys.{KeyPairs}

module _ {K : Type 0} (pairs : K → KeyPairs) where
  -- A frame comes to this side, or none of that number was written: then the end is as it was, and the entries are
  -- reported so.
  abbrev pub HasDelivered : Side → Role → ℕ → Option (List ℕ) → EndValue K → List (Role × Entry) → List (Role × Entry)
      → Type 0
  HasDelivered s role n (Some bytes) end before after = HasReceived pairs s role bytes end before after
  HasDelivered s role n None end before after =
      EndMatches pairs end s.state × (notes_of after ≡ notes_of before ++ (role, Missing n) ∷ [])

module _ {A B : Type 0} (pairs_a : A → KeyPairs)
    (pairs_b : B → KeyPairs) where
  -- This role wrote a payload, or was refused: the ends, the frames and the entries are those after that. The number is
  -- that of the frame, if there is one.
  pub record RoleWrote (d : Sides) (role : Role) (payload : List ℕ) (number : Option ℕ) (duel : DuelValue A B)
      (before after : Report) : Type 0 where
    pub reported : Result ℕ SendFault
    pub number_is : number ≡ result_ok reported
    pub next : Side
    pub writes : SideWrites (side d role) payload (written_note reported) next
    pub matches : DuelMatches pairs_a pairs_b duel (with_side d role next)
    pub frames : HasFrames after (with_side d role next)
    pub entries : notes_of after.entries.items ≡ notes_of before.entries.items ++ (role, written_note reported) ∷ []

  -- Where the ends and the frames were those of some sides, this role wrote, or was refused, unless memory ran out.
  abbrev pub RoleWrites : {E : Type 0} → Role → List ℕ → DuelValue A B → DuelValue A B → Report → Report
      → Result (Option ℕ) E → Type 0
  RoleWrites role payload old new before after result = (d : Sides)
      → DuelMatches pairs_a pairs_b old d → HasFrames before d
      → IfOk result (λ number. RoleWrote d role payload number new before after)

  -- An event happened: the ends, the frames and the entries are those after it.
  pub record HasHappened (d : Sides) (event : Event) (duel : DuelValue A B) (before after : Report) : Type 0 where
    pub next : Sides
    pub notes : List (Role × Note)
    pub happens : Happens d event notes next
    pub matches : DuelMatches pairs_a pairs_b duel next
    pub frames : HasFrames after next
    pub entries : notes_of after.entries.items ≡ notes_of before.entries.items ++ notes

  -- Where the ends and the frames were those of some sides, the event happened to these, unless memory ran out.
  abbrev pub Applies : {T E : Type 0} → Event → DuelValue A B → DuelValue A B → Report → Report → Result T E → Type 0
  Applies event old new before after result = (d : Sides)
      → DuelMatches pairs_a pairs_b old d → HasFrames before d
      → OnOk result (HasHappened d event new before after)

  -- So far: whatever comes of the events that are left comes, after the notes so far, of all events.
  pub record HasComeTo (d : Sides) (events rest : List Event) (duel : DuelValue A B) (report : Report) : Type 0 where
    pub now : Sides
    pub goes_on : (notes : List (Role × Note)) (last : Sides) → Run now rest notes last
        → Run d events (notes_of report.entries.items ++ notes) last
    pub matches : DuelMatches pairs_a pairs_b duel now
    pub frames : HasFrames report now
