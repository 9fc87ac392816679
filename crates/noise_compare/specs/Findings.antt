-- What is reported of a log, by the right lines.
use Rattle.std.specs.Prelude.{◌≡◌, ℕ, ◌-◌, List, Option, Some, None, length, option_and_then, slice_get, slice_index_or}
use Rattle.noise_compare.specs.Advice.{IsAdvice, IsEndAdvice, IsPlaceAdvice}
use Rattle.noise_compare.specs.Differences.{Agrees as AllAgree, IsFirstDifference, next_step}
use Rattle.noise_compare.specs.Report.{agreement_text, difference_text, ending_text}
use Rattle.noise_compare.specs.declared.comparison.Finding.{Finding}
use Rattle.noise_compare.specs.declared.comparison.Finding.TheVariants.{Agrees, Ends, Differs}
use Rattle.noise_compare.specs.declared.facts.Facts.{Facts}
use Rattle.noise_compare.specs.declared.line.Line.{Line}

-- the next step of the handshake after the last line of a log
abbrev pub step_after : List Line → List Line → Option Line
step_after right log = option_and_then (next_step right) (slice_get log (length log - 1))

-- what is said of a line that differs, beside a right one or none
abbrev pub IsSaid : Facts → List Line → List Line → ℕ → ℕ → Line → Option Line → List ℕ → Type 0
IsSaid facts right log index left line None text = IsPlaceAdvice facts right log index left line text
IsSaid facts right log index left line (Some found) text = IsAdvice facts right log index left line found text

-- The lines agree, or this is the first that doesn't; where they agree, the log may end before a step of the handshake.
-- The facts are those of the run.
abbrev pub IsReport : Facts → List Line → List Line → Finding → List ℕ → Type 0
IsReport facts right log Agrees text = AllAgree right log × (step_after right log ≡ None)
    × (text ≡ agreement_text log)
IsReport facts right log Ends text = AllAgree right log × (next : Line) × (step_after right log ≡ Some next)
    × (advice : List ℕ) × IsEndAdvice facts right next advice × (text ≡ ending_text next advice)
IsReport facts right log Differs text = (index : ℕ) × (left : ℕ) × (expected : Option Line)
    × IsFirstDifference right log index left expected × (line : Line) × (line ≡ slice_index_or log index line)
    × (advice : List ℕ) × IsSaid facts right log index left line expected advice
    × (text ≡ difference_text line expected advice)
