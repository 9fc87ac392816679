-- Corrections one after another.
use Rattle.std.proofs.Common.{◌≡◌, ◌∙◌, ◌≤◌, ◌++◌, ap, arith, refl, subst, ℕ, List, [], ◌∷◌}
use Rattle.noise_lines.specs.Faults.{status_of}
use Rattle.noise_lines.specs.declared.faults.Fault.{Fault}
use Rattle.noise_lines.specs.declared.faults.Fault.TheVariants as fault
use Rattle.noise_explain.specs.Corrections.{Holds, IsFirst, corrected}
use Rattle.noise_explain.specs.FaultPlaces.{IsAt}
use Rattle.noise_explain.specs.Fixed.{AllHold, IsFixedText, all_corrected}
use Rattle.noise_explain.specs.declared.change.Change.{Change}
use Rattle.noise_explain.specs.declared.position.Position.{Position}

-- one correction more
one_more : (all : List (List Change)) (text : List ℕ) (changes : List Change)
    → corrected changes (all_corrected all text) ≡ all_corrected (all ++ changes ∷ []) text
one_more [] text changes = refl
one_more (first ∷ later) text changes = one_more later (corrected first text) changes

all_hold : (all : List (List Change)) (text : List ℕ) (changes : List Change) → AllHold text all → Holds (all_corrected all text) changes
    → AllHold text (all ++ changes ∷ [])
all_hold [] text changes hold this = (this, tt)
all_hold (first ∷ later) text changes hold this = (hold.0, all_hold later (corrected first text) changes hold.1 this)

fixed_more : (text made next : List ℕ) → IsFixedText text made → (changes : List Change) → Holds made changes → next ≡ corrected changes made
    → IsFixedText text next
fixed_more text made next before changes hold is =
    let made_is : made ≡ all_corrected before.0 text = before.2 in (
      before.0 ++ changes ∷ [],
      all_hold before.0 text changes before.1 (subst (λ (t : List ℕ). Holds t changes) made_is hold),
      is ∙ ap (corrected changes) made_is ∙ one_more before.0 text changes,
    )

pub fixed-step : (text made seen next : List ℕ) → IsFixedText text made → seen ≡ made
    → (changes : List Change) × Holds seen changes × (next ≡ corrected changes seen) → IsFixedText text next
fixed-step text made seen next before same step =
    fixed_more text made next before step.0 (subst (λ (t : List ℕ). Holds t step.0) same step.1) (step.2 ∙ ap (corrected step.0) same)

-- a text is this one without a correction
pub fixed-none : (text made : List ℕ) → made ≡ text → IsFixedText text made
fixed-none text made is = ([], tt, is)

-- the status of a fault of a text
few-at : (text : List ℕ) (f : Fault) (position : Position) → IsAt text f position → status_of f ≤ 2
few-at text (fault.Text f) position at = omega arith
few-at text (fault.Rule f) position at = omega arith
few-at text _ position at = absurd at

pub first-few : (text : List ℕ) (f : Fault) (position : Position) (status : ℕ) → IsFirst text f position → status ≡ status_of f → status ≤ 2
first-few text f position status first is = let few = few-at text f position first.at in omega (arith, few, is)
