-- The mistakes that are known at the step where a log differs.
use Rattle.std.specs.Prelude.{◌≡◌, ◌⊎◌, ℕ, List, [], ◌++◌, Option, Some, None, codes, flat_map}
use Rattle.noise_compare.specs.Differences.{Agrees, IsFirstDifference}
use Rattle.noise_compare.specs.Finding.{Row, tried_mistakes}
use Rattle.noise_compare.specs.Report.{ended}
use Rattle.noise_compare.specs.Situations.{IsSituation}
use Rattle.noise_compare.specs.declared.facts.Facts.{Facts}
use Rattle.noise_compare.specs.declared.line.Line.{Line}
use Rattle.noise_compare.specs.declared.state.Situation.{Situation}

-- the sentence of a mistake, after four spaces
abbrev pub indented : Row → List ℕ
indented row = codes "    " ++ ended row.1

unfoldable pub indented_sentences : List Row → List ℕ
indented_sentences rows = flat_map indented rows

-- those that are tried at a step
abbrev pub known_text : Situation → List ℕ
known_text at = ended (codes "mistakes known at this step:") ++ indented_sentences (tried_mistakes at)

-- those of the step of a right line, if there is one
abbrev pub AreKnownAt : Facts → List Line → ℕ → Option Line → List ℕ → Type 0
AreKnownAt facts right left None text = text ≡ []
AreKnownAt facts right left (Some line) text = (at : Situation) × IsSituation facts right left line at
    × (text ≡ known_text at)

-- those of the first difference, and none where all lines agree
abbrev pub AreKnown : Facts → List Line → List Line → List ℕ → Type 0
AreKnown facts right log text = (Agrees right log × (text ≡ []))
    ⊎ ((index : ℕ) × (left : ℕ) × (expected : Option Line) × IsFirstDifference right log index left expected
    × AreKnownAt facts right left expected text)
