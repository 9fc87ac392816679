-- The verdict on a vector file that is tested, and its text.
use Rattle.std.specs.Prelude.{◌≡◌, ◌≢◌, ◌⊎◌, ◌-◌, ℕ, Bool, true, false, List, [], ◌∷◌, ◌++◌, Option, Some, None, Vec, codes, decimal, option_map, slice_get}
use Rattle.std.specs.Global.{Global}
use Rattle.noise_names.specs.Text.{line}
use Rattle.noise_vectors.specs.Expectations.{IsFirstUnmet}
use Rattle.noise_lines.specs.Shown.{shown_text}
use Rattle.noise_lines.specs.Reported.{fault_line}
use Rattle.noise_lines.specs.declared.faults.Fault.{Fault}
use Rattle.noise_lines.specs.declared.faults.Fault.TheVariants.{Unmet}
use Rattle.noise_lines.specs.declared.verdict.Verdict.{Verdict}
use Rattle.noise_lines.specs.declared.verdict.Verdict.TheVariants.{Met, Differs, CannotRun, ExpectsNothing, NamedTwice}

-- the bytes of a line, where there is one
abbrev pub bytes_in : Option (Vec ℕ Global) → Option (List ℕ)
bytes_in = option_map (λ l. l.items)

-- what the lines of a run come to, by those that are expected
abbrev pub IsJudged : List (List ℕ) → List (List ℕ) → Verdict → Type 0
IsJudged lines expected Met = (expected ≢ []) × (lines ≡ expected)
IsJudged lines expected (Differs d) = (expected ≢ []) × IsFirstUnmet lines expected d.number
    × (bytes_in d.expected ≡ slice_get expected (d.number - 1)) × (bytes_in d.printed ≡ slice_get lines (d.number - 1))
IsJudged lines expected ExpectsNothing = expected ≡ []
IsJudged lines expected (CannotRun why) = ⊥
IsJudged lines expected NamedTwice = ⊥

-- nothing is expected, or these lines
abbrev pub IsMet : List (List ℕ) → List (List ℕ) → Type 0
IsMet expected lines = (expected ≡ []) ⊎ (lines ≡ expected)

-- lines are expected, and this reports the first one that the run's differ in
abbrev pub ReportsUnmet : List (List ℕ) → List (List ℕ) → Fault → Type 0
ReportsUnmet expected lines fault =
    (number : ℕ) × (fault ≡ Unmet number) × (expected ≢ []) × IsFirstUnmet lines expected number

abbrev pub is_met : Verdict → Bool
is_met Met = true
is_met _ = false

-- a line of a word, the name of a file, and the rest
abbrev pub named_line : List ℕ → List ℕ → List ℕ → List ℕ
named_line word name rest = line (word ++ 32 ∷ (shown_text name ++ rest))

-- the line of what is wrong with a file
abbrev pub named_fault : List ℕ → List ℕ → List ℕ
named_fault name why = named_line (codes "fault") name (codes ": " ++ why)

-- a line of a word, and one of the two lines that differ, if there is one
abbrev pub shown_line : List ℕ → Option (List ℕ) → List ℕ
shown_line word None = line word
shown_line word (Some bytes) = line (word ++ 32 ∷ bytes)

abbrev pub verdict_text : List ℕ → Verdict → List ℕ
verdict_text name Met = named_line (codes "ok") name []
verdict_text name (Differs d) = named_line (codes "differs") name (codes " at " ++ decimal d.number)
    ++ (shown_line (codes "expected") (bytes_in d.expected) ++ shown_line (codes "printed") (bytes_in d.printed))
verdict_text name (CannotRun why) = named_fault name (fault_line why)
verdict_text name ExpectsNothing = named_fault name (codes "no expect lines")
verdict_text name NamedTwice = named_fault name (codes "standard input is named twice")
