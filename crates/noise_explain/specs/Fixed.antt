-- The text of a pattern with all changes that correct it.
use Rattle.std.specs.Prelude.{⊤, ◌≡◌, ◌⊎◌, ℕ, List, [], ◌∷◌}
use Rattle.noise_lines.specs.Faults.{status_of}
use Rattle.noise_lines.specs.Output.{IsCheckFault}
use Rattle.noise_lines.specs.declared.faults.Fault.{Fault}
use Rattle.noise_explain.specs.Corrections.{Holds, IsRight, corrected}
use Rattle.noise_explain.specs.declared.change.Change.{Change}
use Rattle.noise_explain.specs.declared.explanation.Explained.{Explained}

-- the text after several corrections, each a list of changes
abbrev pub all_corrected : List (List Change) → List ℕ → List ℕ
all_corrected [] text = text
all_corrected (changes ∷ later) text = all_corrected later (corrected changes text)

-- each of them corrects the text that the ones before it give
abbrev pub AllHold : List ℕ → List (List Change) → Type 0
AllHold text [] = ⊤
AllHold text (changes ∷ later) = Holds text changes × AllHold (corrected changes text) later

-- a text is this one after some corrections
abbrev pub IsFixedText : List ℕ → List ℕ → Type 0
IsFixedText text made = (all : List (List Change)) × AllHold text all × (made ≡ all_corrected all text)

-- the status is 0 of a valid text, and else that of the fault that `check` reports
abbrev pub HasStatus : List ℕ → ℕ → Type 0
HasStatus text status =
    (IsRight text × (status ≡ 0)) ⊎ ((fault : Fault) × IsCheckFault text fault × (status ≡ status_of fault))

-- what is printed in place of an explanation
abbrev pub IsFixed : List ℕ → Explained → Type 0
IsFixed text e = IsFixedText text e.text.items × HasStatus e.text.items e.status
