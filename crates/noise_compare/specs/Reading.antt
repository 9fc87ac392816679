-- The lines of a key schedule in a text.
use Rattle.std.specs.Prelude.{⊤, ◌≡◌, ℕ, ◌+◌, ◌==◌, ◌&&◌, Bool, true, not, List, [], ◌∷◌, ◌++◌, Option, Some, None, length, map, if◌then◌else◌}
use Rattle.std.specs.List.{slice_split}
use Rattle.noise_compare.specs.Lines.{is_of_schedule, words_in, line_words}
use Rattle.noise_compare.specs.declared.line.Line.{Line}
use Rattle.noise_compare.specs.declared.log.LogFault.{LogFault}
use Rattle.noise_compare.specs.declared.log.LogFault.TheVariants.{Line as LineFault, Memory}

-- a line as its number in a text, from 1 on, and its words
abbrev pub Numbered : Type 0
Numbered = ℕ × List (List ℕ)

abbrev pub numbered : Line → Numbered
numbered line = (line.number, words_in line)

-- a line of a text, if it is one of a party's key schedule
abbrev pub schedule_line : ℕ → List ℕ → List Numbered
schedule_line number text = if is_of_schedule (line_words text) then (number, line_words text) ∷ [] else []

-- those of these lines, whose first has this number
abbrev pub lines_from : ℕ → List (List ℕ) → List Numbered
lines_from number [] = []
lines_from number (text ∷ more) = schedule_line number text ++ lines_from (number + 1) more

-- those of a text
abbrev pub schedule_lines : List ℕ → List Numbered
schedule_lines text = lines_from 1 (slice_split (λ b. b == 10) text)

-- lines that are held are these
abbrev pub views : List Line → List Numbered
views lines = map numbered lines

-- a line that begins as one of a key schedule, and has more or fewer than twelve words
abbrev pub is_wrong : List ℕ → Bool
is_wrong text = is_of_schedule (line_words text) && not (length (line_words text) == 12)

-- the number of the first such of these lines, whose first has this number
abbrev pub wrong_from : ℕ → List (List ℕ) → Option ℕ
wrong_from number [] = None
wrong_from number (text ∷ more) = if is_wrong text then Some number else wrong_from (number + 1) more

-- that of a text
abbrev pub first_wrong : List ℕ → Option ℕ
first_wrong text = wrong_from 1 (slice_split (λ b. b == 10) text)

-- why a log of this text isn't read
abbrev pub IsLogFault : List ℕ → LogFault → Type 0
IsLogFault text (LineFault number) = first_wrong text ≡ Some number
IsLogFault text Memory = ⊤

-- why the line of this number isn't
abbrev pub IsLineFault : ℕ → List ℕ → LogFault → Type 0
IsLineFault number text (LineFault n) = (n ≡ number) × (is_wrong text ≡ true)
IsLineFault number text Memory = ⊤
