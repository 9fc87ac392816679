-- Pieces that come to one role in a run.
use Rattle.std.proofs.Common.{◌≡◌, ℕ, zero, suc, List, [], ◌∷◌, ◌++◌, length, refl, ap, sym, subst, ◌∙◌, append_assoc, append-nil}
use Rattle.noise_theorems.proofs.Common.{map-append, if◌then◌else◌, Role, Initiator, Responder, StepValue, Note, Judged, left_note, held_note, noted_by, Side, Sides}
use Rattle.noise_duel.specs.Runs.{Run, SideReceives}
use Rattle.noise_duel.specs.Runs.Run.{ends, begins}
use Rattle.noise_duel.specs.Runs.Happens.{injects}
use Rattle.noise_duel.specs.Runs.SideReceives.{is_idle, waits, reads_frame}
use Rattle.noise_duel.specs.Sides.{side, with_side}
use Rattle.noise_theorems.specs.Joined.{ReceivesAll, is_held, raw_events, without_held}
use Rattle.noise_theorems.specs.Joined.ReceivesAll.{stops, goes_on}

side-with : (d : Sides) (role : Role) (s : Side) → side (with_side d role s) role ≡ s
side-with d Initiator s = refl
side-with d Responder s = refl

without-append : (xs ys : List (Role × Note)) → without_held (xs ++ ys) ≡ without_held xs ++ without_held ys
without-append [] ys = refl
without-append (x ∷ xs) ys =
    ap (λ (zs : List (Role × Note)). (if is_held x.1 then [] else x ∷ []) ++ zs) (without-append xs ys)
    ∙ sym (append_assoc (if is_held x.1 then [] else x ∷ []) (without_held xs) (without_held ys))

held-left_out : (role : Role) (n : ℕ) → without_held (noted_by role (held_note n)) ≡ []
held-left_out role zero = refl
held-left_out role (suc n) = refl

left-kept : (role : Role) (step : StepValue) (n : ℕ) → without_held (noted_by role (left_note step n)) ≡ noted_by role (left_note step n)
left-kept role step zero = refl
left-kept role step (suc n) = refl

-- what a piece comes to is noted without bytes that are held
kept : (role : Role) (t r : Side) (piece : List ℕ) (notes : List Note) → SideReceives t piece notes r → without_held (noted_by role notes) ≡ noted_by role notes
kept role t r piece notes (is_idle _ _ step e) = left-kept role step (length piece)
kept role t r piece notes (waits _ _ e part) = refl
kept role t r piece notes (reads_frame _ mid _ _ message rest step more e is small reads on) =
    ap (λ (ns : List (Role × Note)). (role, Judged step) ∷ ns) (kept role mid r rest more on)

pub record HasReceivedAll (role : Role) (t r : Side) (pieces : List (List ℕ)) (notes : List (Role × Note)) : Type 0 where
  pub noted : List Note
  pub receives : ReceivesAll t pieces noted r
  pub notes_are : without_held notes ≡ noted_by role noted

pub raw-run : (role : Role) (d last : Sides) (pieces : List (List ℕ)) (notes : List (Role × Note)) → Run d (raw_events role pieces) notes last
    → HasReceivedAll role (side d role) (side last role) pieces notes
raw-run role d last [] notes (ends _) = record { noted = []; receives = stops (side d role); notes_are = refl }
raw-run role d last (piece ∷ pieces) notes (begins _ _ _ _ _ _ more (injects _ _ _ ns reader here) on) =
    let h = raw-run role (with_side d role reader) last pieces more on in
    let held : List Note = held_note (length reader.state.partial) in
    let rest : ReceivesAll reader pieces h.noted (side last role) =
    subst (λ (s : Side). ReceivesAll s pieces h.noted (side last role)) (side-with d role reader) h.receives in
    let first : without_held (noted_by role (ns ++ held)) ≡ noted_by role ns =
    ap without_held (map-append (λ (n : Note). (role, n)) ns held) ∙ without-append (noted_by role ns) (noted_by role held)
    ∙ ap (λ (zs : List (Role × Note)). without_held (noted_by role ns) ++ zs) (held-left_out role (length reader.state.partial))
    ∙ append-nil (without_held (noted_by role ns)) ∙ kept role (side d role) reader piece ns here in
    record {
      noted = ns ++ h.noted;
      receives = goes_on (side d role) reader (side last role) piece pieces ns h.noted here rest;
      notes_are = without-append (noted_by role (ns ++ held)) more ∙ ap (λ (zs : List (Role × Note)). zs ++ without_held more) first
          ∙ ap (λ (zs : List (Role × Note)). noted_by role ns ++ zs) h.notes_are ∙ sym (map-append (λ (n : Note). (role, n)) ns h.noted);
    }
