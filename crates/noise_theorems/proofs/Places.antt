-- The place of a payload among all entries of a report.
use Rattle.std.proofs.Common.{◌≡◌, ℕ, zero, suc, List, ◌∷◌, ◌++◌, length, take, refl, ap, sym, ◌∙◌, inl, inr, ◌⊎◌, Some, []}
use Rattle.std.proofs.lemmas.Grind.{flat_map-append}
use Rattle.std.specs.List.{flat_map}
use Rattle.std.specs.Prelude.{slice_get}
use Rattle.noise_theorems.proofs.Common.{if◌then◌else◌, Role, Initiator, Responder, same_role, StepValue, Note, Wrote, WriteFault, Judged, Left, Held, notes_about, payload_reported, reported_to, same_Some}
use Rattle.noise_session.specs.Steps.StepValue.{Payload}
use Rattle.noise_duel.specs.Notes.{Missing}
use Rattle.noise_theorems.specs.Entries.{IsPayloadAt}

-- what one note reports a role
abbrev reported_by : Role → Role × Note → List (List ℕ)
reported_by role n = flat_map payload_reported (if same_role n.0 role then n.1 ∷ [] else [])

reported-more : (role : Role) (n : Role × Note) (notes : List (Role × Note)) → reported_to role (n ∷ notes) ≡ reported_by role n ++ reported_to role notes
reported-more role n notes = flat_map-append payload_reported (if same_role n.0 role then n.1 ∷ [] else []) (notes_about role notes)

-- it is no payload, or one
abbrev OneOrNone : Role → Role × Note → Type 0
OneOrNone role n = (reported_by role n ≡ []) ⊎ ((payload : List ℕ) × (n ≡ (role, Judged (Payload payload))) × (reported_by role n ≡ payload ∷ []))

own-step : (role : Role) (step : StepValue) → OneOrNone role (role, Judged step)
own-step Initiator (Payload payload) = inr (payload, refl, refl)
own-step Responder (Payload payload) = inr (payload, refl, refl)
own-step _ _ = inl refl

own-note : (role : Role) (note : Note) → OneOrNone role (role, note)
own-note role (Judged step) = own-step role step
own-note Initiator (Wrote n) = inl refl
own-note Initiator (WriteFault why) = inl refl
own-note Initiator (Left step n) = inl refl
own-note Initiator (Missing n) = inl refl
own-note Initiator (Held n) = inl refl
own-note Responder (Wrote n) = inl refl
own-note Responder (WriteFault why) = inl refl
own-note Responder (Left step n) = inl refl
own-note Responder (Missing n) = inl refl
own-note Responder (Held n) = inl refl

one-or-none : (role writer : Role) (note : Note) → OneOrNone role (writer, note)
one-or-none Initiator Initiator note = own-note Initiator note
one-or-none Responder Responder note = own-note Responder note
one-or-none _ _ note = inl refl

-- past a note that is no payload
past : (role : Role) (n : Role × Note) (notes : List (Role × Note)) (i : ℕ) (payload : List ℕ) → reported_by role n ≡ []
    → ((place : ℕ) × IsPayloadAt role notes i place payload) → (place : ℕ) × IsPayloadAt role (n ∷ notes) i place payload
past role n notes i payload none p =
    let later : reported_to role (n ∷ take p.0 notes) ≡ reported_to role (take p.0 notes) =
    reported-more role n (take p.0 notes) ∙ ap (λ (z : List (List ℕ)). z ++ reported_to role (take p.0 notes)) none in
    (suc p.0, record { entry = p.1.entry; before = ap length later ∙ p.1.before })

reported-one : (role : Role) (n : Role × Note) (notes : List (Role × Note)) (first : List ℕ) → reported_by role n ≡ first ∷ []
    → reported_to role (n ∷ notes) ≡ first ∷ reported_to role notes
reported-one role n notes first one = reported-more role n notes ∙ ap (λ (z : List (List ℕ)). z ++ reported_to role notes) one

-- past one
past-one : (role : Role) (n : Role × Note) (notes : List (Role × Note)) (i : ℕ) (payload first : List ℕ) → reported_by role n ≡ first ∷ []
    → ((place : ℕ) × IsPayloadAt role notes i place payload) → (place : ℕ) × IsPayloadAt role (n ∷ notes) (suc i) place payload
past-one role n notes i payload first one p =
    (suc p.0, record { entry = p.1.entry; before = ap length (reported-one role n (take p.0 notes) first one) ∙ ap suc p.1.before })

-- the place of the payload of this number
pub placed : (role : Role) (notes : List (Role × Note)) (i : ℕ) (payload : List ℕ) → slice_get (reported_to role notes) i ≡ Some payload
    → (place : ℕ) × IsPayloadAt role notes i place payload
placed role [] i payload e = cc
placed role (n ∷ notes) zero payload e = elim (one-or-none role n.0 n.1) [
  | inl none ↦ past role n notes zero payload none (placed role notes zero payload
      (sym (ap (λ (z : List (List ℕ)). slice_get z zero) (reported-more role n notes ∙ ap (λ (z : List (List ℕ)). z ++ reported_to role notes) none)) ∙ e))
  | inr one ↦ (
    zero,
    record {
      entry = ap Some one.1 ∙ ap (λ (z : List ℕ). Some (role, Judged (Payload z)))
          (same_Some one.0 payload (sym (ap (λ (z : List (List ℕ)). slice_get z zero) (reported-one role n notes one.0 one.2)) ∙ e));
      before = refl;
    },
  )
]
placed role (n ∷ notes) (suc i) payload e = elim (one-or-none role n.0 n.1) [
  | inl none ↦ past role n notes (suc i) payload none (placed role notes (suc i) payload
      (sym (ap (λ (z : List (List ℕ)). slice_get z (suc i)) (reported-more role n notes ∙ ap (λ (z : List (List ℕ)). z ++ reported_to role notes) none)) ∙ e))
  | inr one ↦ past-one role n notes i payload one.0 one.2 (placed role notes i payload
      (sym (ap (λ (z : List (List ℕ)). slice_get z (suc i)) (reported-one role n notes one.0 one.2)) ∙ e))
]
