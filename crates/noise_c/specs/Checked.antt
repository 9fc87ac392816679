-- What a check of a pattern text reports.
use Rattle.std.specs.Prelude.{◌≡◌, ◌↔◌, ◌⊎◌, ◌≤◌, ℕ, List, Some, length}
use Rattle.noise_names.specs.declared.faults.TextFaultKind.{TextFaultKind}
use Rattle.noise_names.specs.Plan.{Plan}
use Rattle.noise_names.specs.Text.{Spells}
use Rattle.noise_names.specs.Validity.{IsValid, first_fault}
use Rattle.noise_names.specs.WrongText.{IsTextFaultAt}
use Rattle.noise_c.specs.Codes.{text_code}
use Rattle.noise_c.specs.declared.structs.NoisePatternResult.{NoisePatternResult}
use Rattle.noise_c.specs.declared.codes.numbers.TheConstants.{ENDING, HEADING, OK, RULE}

-- the text of a valid pattern
pub record IsValidText (text : List ℕ) : Type 0 where
  pub pattern : Plan
  pub spelled : Spells text pattern
  pub valid : IsValid pattern

-- the text of a pattern that isn't valid
pub record IsBrokenText (text : List ℕ) : Type 0 where
  pub pattern : Plan
  pub spelled : Spells text pattern
  pub broken : IsValid pattern → ⊥

-- a number of a text that no pattern has
abbrev pub IsTextCode : ℕ → Type 0
IsTextCode n = (HEADING ≤ n) × (n ≤ ENDING)

-- The code and the line are those that are reported of a text that no pattern has.
abbrev pub ReportsText : List ℕ → ℕ → ℕ → Type 0
ReportsText text code number = (kind : TextFaultKind) × (code ≡ text_code kind) × IsTextFaultAt text number kind

-- The number of messages was reported, and nothing else.
abbrev pub ReportsMessages : Plan → NoisePatternResult → NoisePatternResult → Type 0
ReportsMessages p old new = new ≡ record old { messages = length p.messages }

-- The pattern's first fault was reported, and nothing else.
pub record ReportsRuleFault (p : Plan) (old new : NoisePatternResult) : Type 0 where
  pub fault : first_fault p ≡ Some (record { rule = new.rule; message = new.message; token = new.token })
  pub rest : new ≡ record old { rule = new.rule; message = new.message; token = new.token }

-- A text is checked: the number of messages of a valid pattern's is reported, the first fault of another pattern's, or
-- the line of a text that no pattern has.
pub record ChecksPattern (text : List ℕ) (old new : NoisePatternResult) (code : ℕ) : Type 0 where
  pub valid : code ≡ OK ↔ IsValidText text
  pub messages : code ≡ OK → (p : Plan) → Spells text p → ReportsMessages p old new
  pub broken : code ≡ RULE ↔ IsBrokenText text
  pub rule : code ≡ RULE → (p : Plan) → Spells text p → ReportsRuleFault p old new
  pub none : IsTextCode code → (p : Plan) → Spells text p → ⊥
  pub line : IsTextCode code → new ≡ record old { line = new.line }
  pub reported : IsTextCode code → ReportsText text code new.line
  pub codes : (code ≡ OK) ⊎ (code ≡ RULE) ⊎ IsTextCode code
