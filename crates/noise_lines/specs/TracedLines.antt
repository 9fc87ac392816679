-- Lines, each with those that follow it: those of a run, with those of the key schedules.
use Rattle.std.specs.Prelude.{ℕ, List, [], ◌∷◌, ◌++◌, Vec, map, take}
use Rattle.std.specs.Global.{Global}
use Rattle.noise_names.specs.Lists.{bytes_of}

-- the lines after each note, as code holds them
abbrev pub traces_of : List (Vec (Vec ℕ Global) Global) → List (List (List ℕ))
traces_of traces = map (λ t. bytes_of t.items) traces

-- lines, and after each of them those that follow it
abbrev pub with_traces : List (List ℕ) → List (List (List ℕ)) → List (List ℕ)
with_traces [] traces = []
with_traces (line ∷ lines) [] = line ∷ lines
with_traces (line ∷ lines) (trace ∷ traces) = line ∷ (trace ++ with_traces lines traces)

-- The front of lines with those that follow each: up to the line of this number, from 1 on, and those that follow it.
-- Where there are fewer lines it is all.
abbrev pub with_traces_to : ℕ → List (List ℕ) → List (List (List ℕ)) → List (List ℕ)
with_traces_to number lines traces = with_traces (take number lines) (take number traces)
