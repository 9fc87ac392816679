-- Frames that one party writes, joined and then cut anywhere, come to the other one (Noise 3 and 13).
use Rattle.std.specs.Prelude.{◌≡◌, ℕ, List, [], ◌∷◌, ◌++◌, length, drop, map, Bool, true, false, if◌then◌else◌, Option, Result, IfOk}
use Rattle.std.specs.List.{concat, flat_map}
use Rattle.noise_names.specs.declared.token.Role.{Role}
use Rattle.noise_names.specs.Validity.{IsValid}
use Rattle.noise_keys.specs.declared.keys.Own.{Own}
use Rattle.noise_session.specs.Counterparts.{EndCounterparts}
use Rattle.noise_session.specs.Ends.{EndState}
use Rattle.noise_session.specs.Steps.StepValue.{Payload}
use Rattle.noise_events.specs.Events.{Event, Raw}
use Rattle.noise_duel.specs.declared.report.Report.{Report}
use Rattle.noise_duel.specs.DuelValue.{DuelValue, DuelMatches, both_sides}
use Rattle.noise_duel.specs.Entries.{notes_of}
use Rattle.noise_duel.specs.Notes.{Note, Wrote, Judged, Held, noted_by}
use Rattle.noise_duel.specs.Reports.{Reports}
use Rattle.noise_duel.specs.Runs.{SideWrites, SideReceives}
use Rattle.noise_duel.specs.Sides.{Side, Sides, side}
use Rattle.noise_keys.specs.Keys.{KeyPairs}

-- A side writes payloads, one after another, each as a frame.
pub data WritesAll : Side → List (List ℕ) → Side → Type 0 where
  stops : (s : Side) → WritesAll s [] s
  goes_on : (s next last : Side) (payload : List ℕ) (number : ℕ) (payloads : List (List ℕ))
      → SideWrites s payload (Wrote number) next → WritesAll next payloads last → WritesAll s (payload ∷ payloads) last

-- Bytes come to a side in pieces, one after another, and this is noted of them.
pub data ReceivesAll : Side → List (List ℕ) → List Note → Side → Type 0 where
  stops : (s : Side) → ReceivesAll s [] [] s
  goes_on : (s next last : Side) (piece : List ℕ) (pieces : List (List ℕ)) (notes more : List Note)
      → SideReceives s piece notes next → ReceivesAll next pieces more last
      → ReceivesAll s (piece ∷ pieces) (notes ++ more) last

-- the bytes of the frames that a side has written since it was another one
abbrev pub bytes_since : Side → Side → List ℕ
bytes_since before s = concat (drop (length before.frames) s.frames)

-- what is noted of payloads that are accepted
abbrev pub accepted_notes : List (List ℕ) → List Note
accepted_notes payloads = map (λ p. Judged (Payload p)) payloads

-- Of two ends that have come equally far, in a valid pattern, one writes payloads. Of the bytes of its frames a first
-- part has come to the other, in any pieces: the first payloads are accepted, in order, and nothing is refused or left.
abbrev pub JoinedFramesCome : Type 0
JoinedFramesCome = (s t last reader : Side) (payloads pieces : List (List ℕ)) (later : List ℕ) (notes : List Note)
    → IsValid s.state.party.pattern → EndCounterparts s.state t.state → WritesAll s payloads last
    → ReceivesAll t pieces notes reader → concat pieces ++ later ≡ bytes_since s last
    → (came : List (List ℕ)) × (more : List (List ℕ)) × (payloads ≡ came ++ more) × (notes ≡ accepted_notes came)

-- All of them have come, in any pieces: all payloads are accepted, and the two have come equally far again.
abbrev pub JoinedFramesComeWhole : Type 0
JoinedFramesComeWhole = (s t last reader : Side) (payloads pieces : List (List ℕ)) (notes : List Note)
    → IsValid s.state.party.pattern → EndCounterparts s.state t.state → WritesAll s payloads last
    → ReceivesAll t pieces notes reader → concat pieces ≡ bytes_since s last
    → (notes ≡ accepted_notes payloads) × EndCounterparts last.state reader.state

-- Bytes that come in such pieces come to something.
abbrev pub JoinedFramesCanCome : Type 0
JoinedFramesCanCome = (s t last : Side) (payloads pieces : List (List ℕ)) (later : List ℕ)
    → IsValid s.state.party.pattern → EndCounterparts s.state t.state → WritesAll s payloads last
    → concat pieces ++ later ≡ bytes_since s last
    → (notes : List Note) × (reader : Side) × ReceivesAll t pieces notes reader

-- ---- in the report of a run

-- bytes come to a role in these pieces
abbrev pub raw_events : Role → List (List ℕ) → List Event
raw_events role pieces = map (λ piece. Raw role piece) pieces

-- what is noted, but for bytes that are held of an unfinished frame
abbrev pub is_held : Note → Bool
is_held (Held n) = true
is_held _ = false

abbrev pub without_held : List (Role × Note) → List (Role × Note)
without_held notes = flat_map (λ n. if is_held n.1 then [] else n ∷ []) notes

module _ {A B : Type 0} (pairs_a : A → KeyPairs)
    (pairs_b : B → KeyPairs) where
  -- The report is the run's. Bytes that are held aside, it says that these payloads were accepted, in order, and no
  -- more; and the role's end has come as far as the writer.
  pub record HaveArrived (d : Sides) (events : List Event) (role : Role) (payloads : List (List ℕ)) (writer : Side)
      (duel : DuelValue A B) (report : Report) : Type 0 where
    pub reports : Reports pairs_a pairs_b d events duel report
    pub accepted : without_held (notes_of report.entries.items) ≡ noted_by role (accepted_notes payloads)
    pub ends : EndCounterparts writer.state (side reports.last role).state

  -- So it is where the pieces that come to a role are the frames of a side that it was equally far with, joined.
  abbrev pub ChunksArrive : {E : Type 0} → List Event → DuelValue A B → Result (DuelValue A B × Report) E → Type 0
  ChunksArrive events duel result = (v w : EndState) (role : Role) (s last : Side) (payloads pieces : List (List ℕ))
      → DuelMatches pairs_a pairs_b duel (both_sides v w) → events ≡ raw_events role pieces
      → IsValid s.state.party.pattern → EndCounterparts s.state (side (both_sides v w) role).state
      → WritesAll s payloads last → concat pieces ≡ bytes_since s last
      → IfOk result (λ r. HaveArrived (both_sides v w) events role payloads last r.0 r.1)
