-- Changes that correct a text.
use Rattle.std.proofs.Common.{◌≡◌, ◌∙◌, ◌≤◌, ◌<◌, ◌-◌, ◌++◌, ◌⊎◌, ap, inl, inr, length, subst, sym, take, ℕ, List}
use Rattle.std.specs.Prelude.{IfSome, None, Option, Some}
use Rattle.noise_lines.specs.Faults.{status_of}
use Rattle.noise_lines.specs.declared.faults.Fault.{Fault}
use Rattle.noise_explain.specs.Corrections.{Holds, IsBehind, IsFirst, IsLater, IsRight, corrected, left_from}
use Rattle.noise_explain.specs.declared.change.Change.{Change}
use Rattle.noise_explain.specs.declared.position.Position.{Position}

-- what is left is the end of what was left
moved_by : (text other had has : List ℕ) (position other_position : Position) → had ≡ left_from position text → has ≡ left_from other_position other
    → IsBehind other_position position ⊎ (had ≡ take (length had - length has) had ++ has)
    → IsBehind other_position position ⊎ ((passed : List ℕ) × (left_from position text ≡ passed ++ left_from other_position other))
moved_by text other had has position other_position had_is has_is (inl behind) = inl behind
moved_by text other had has position other_position had_is has_is (inr ends) =
    let front : List ℕ = take (length had - length has) had in
    inr (front, sym had_is ∙ ends ∙ ap (λ (t : List ℕ). front ++ t) has_is)

-- less is left from the other text's first fault on, which stands farther on, or behind which stands the end of what was left
pub later-first : (text other had has : List ℕ) (fault other_fault : Fault) (position other_position : Position) → IsFirst text fault position
    → IsFirst other other_fault other_position → status_of other_fault ≤ status_of fault → had ≡ left_from position text
    → has ≡ left_from other_position other → length has < length had
    → IsBehind other_position position ⊎ (had ≡ take (length had - length has) had ++ has) → IsLater text other
later-first text other had has fault other_fault position other_position first other_first status had_is has_is short moved = record {
  fault = fault;
  position = position;
  first = first;
  other_fault = other_fault;
  other_position = other_position;
  other_first = other_first;
  status = status;
  less = subst (λ (t : List ℕ). length t < length (left_from position text)) has_is (subst (λ (t : List ℕ). length has < length t) had_is short);
  moved = moved_by text other had has position other_position had_is has_is moved;
}

-- the text that the changes made
pub right-holds : (text made : List ℕ) (changes : List Change) → made ≡ corrected changes text → IsRight made → Holds text changes
right-holds text made changes same right = inl (subst IsRight same right)

pub later-holds : (text made : List ℕ) (changes : List Change) (r : Option ℕ) → made ≡ corrected changes text → IfSome r (λ _. IsLater text made)
    → IfSome r (λ _. Holds text changes)
later-holds text made changes None same later = tt
later-holds text made changes (Some left) same later = inr (subst (IsLater text) same later)
