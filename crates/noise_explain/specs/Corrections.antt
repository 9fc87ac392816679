-- Corrections of a pattern text: changes of its lines, after which it is valid, or its first fault comes later.
use Rattle.std.specs.Prelude.{◌≡◌, ◌≤◌, ◌<◌, ◌⊎◌, ℕ, ◌-◌, List, [], ◌∷◌, ◌++◌, codes, decimal, drop, flat_map, length, nat_eq, nat_lt, take, if◌then◌else◌}
use Rattle.noise_names.specs.Plan.{Plan}
use Rattle.noise_names.specs.Text.{Spells}
use Rattle.noise_names.specs.Validity.{IsValid}
use Rattle.noise_lines.specs.Faults.{status_of}
use Rattle.noise_lines.specs.Output.{IsCheckFault}
use Rattle.noise_lines.specs.Shown.{shown_text}
use Rattle.noise_lines.specs.declared.faults.Fault.{Fault}
use Rattle.noise_explain.specs.FaultPlaces.{IsAt}
use Rattle.noise_explain.specs.Positions.{after_line, from_line}
use Rattle.noise_explain.specs.declared.change.Change.{Change}
use Rattle.noise_explain.specs.declared.change.TheConstants.{ORDER}
use Rattle.noise_explain.specs.declared.change.Change.TheVariants.{Write, Put, Out, LineFeed, NoReturns}
use Rattle.noise_explain.specs.declared.position.Position.{Position}

-- ---- changes

-- the text before the line of this number
abbrev pub before_line : ℕ → List ℕ → List ℕ
before_line number text = take (length text - length (from_line number text)) text

-- the text without this byte
abbrev pub without_byte : ℕ → List ℕ → List ℕ
without_byte byte text = flat_map (λ b. if nat_eq b byte then [] else b ∷ []) text

-- the text after a change
unfoldable pub changed : Change → List ℕ → List ℕ
changed (Write number line) text =
    before_line number text ++ line.items ++ 10 ∷ after_line (from_line number text)
changed (Put number line) text = before_line number text ++ line.items ++ 10 ∷ from_line number text
changed (Out number) text = before_line number text ++ after_line (from_line number text)
changed LineFeed text = text ++ 10 ∷ []
changed NoReturns text = without_byte 13 text

-- the text after some changes, one after another
abbrev pub corrected : List Change → List ℕ → List ℕ
corrected [] text = text
corrected (change ∷ later) text = corrected later (changed change text)

-- ---- which ones hold

abbrev pub IsRight : List ℕ → Type 0
IsRight text = (p : Plan) × Spells text p × IsValid p

-- the first fault of a text, which `check` reports, stands at this position
pub record IsFirst (text : List ℕ) (fault : Fault) (position : Position) : Type 0 where
  pub wrong : IsCheckFault text fault
  pub at : IsAt text fault position

-- what is left of a text from a position on
abbrev pub left_from : Position → List ℕ → List ℕ
left_from position text = drop (position.column - 1) (from_line position.line text)

-- a position in a later line, or farther on in the line
abbrev pub IsBehind : Position → Position → Type 0
IsBehind later position = (position.line < later.line) ⊎ ((later.line ≡ position.line) × (position.column < later.column))

-- The first fault of the other text comes later than that of this one: less is left from it on, and it stands at a later
-- position, or what is left is the end of what was left before. A text that is read goes on being read.
pub record IsLater (text other : List ℕ) : Type 0 where
  pub fault : Fault
  pub position : Position
  pub first : IsFirst text fault position
  pub other_fault : Fault
  pub other_position : Position
  pub other_first : IsFirst other other_fault other_position
  pub status : status_of other_fault ≤ status_of fault
  pub less : length (left_from other_position other) < length (left_from position text)
  pub moved : IsBehind other_position position
      ⊎ ((passed : List ℕ) × (left_from position text ≡ passed ++ left_from other_position other))

-- the changes correct a text: it is valid then, or its first fault comes later
abbrev pub Holds : List ℕ → List Change → Type 0
Holds text changes = IsRight (corrected changes text) ⊎ IsLater text (corrected changes text)

-- ---- how they are told

abbrev pub change_row : Change → List ℕ
change_row (Write number line) =
    codes "  Write line " ++ decimal number ++ codes " so: \"" ++ shown_text line.items ++ codes "\".\n"
change_row (Put number line) =
    codes "  Put in as line " ++ decimal number ++ codes ": \"" ++ shown_text line.items ++ codes "\".\n"
change_row (Out number) = codes "  Leave line " ++ decimal number ++ codes " out.\n"
change_row LineFeed = codes "  End the last line with a line feed.\n"
change_row NoReturns = codes "  End each line with a line feed alone.\n"

-- each of several changes is one of the text that the one before gives
abbrev pub change_rows : List Change → List ℕ
change_rows changes = (if nat_lt 1 (length changes) then ORDER.now else []) ++ flat_map change_row changes

-- these rows are those of changes that correct the text; or there is none
abbrev pub AreCorrection : List ℕ → List ℕ → Type 0
AreCorrection text rows =
    (rows ≡ []) ⊎ ((changes : List Change) × Holds text changes × (rows ≡ change_rows changes))
