-- The lines of a trace, by the value that the program has of it.
use Rattle.std.specs.Prelude.{◌≡◌, ◌⊎◌, ℕ, Bool, true, false, List, [], ◌∷◌, ◌++◌}
use Rattle.noise_lines.specs.Lines.{lines_text}
use Rattle.noise_lines.specs.Reported.{fault_line}
use Rattle.noise_lines.specs.Verdicts.{IsMet, ReportsUnmet}
use Rattle.noise_lines.specs.declared.faults.Fault.{Fault}
use Rattle.noise_tool.specs.Answers.{AnswerValue}
use Rattle.noise_names.specs.Lists.{bytes_of}
use Rattle.noise_lines.specs.TracedLines.{traces_of, with_traces, with_traces_to}
use Rattle.noise_run.specs.declared.tracing.Traced.{Traced}

-- all of its lines
abbrev pub trace_lines : Traced → List (List ℕ)
trace_lines t = bytes_of t.start.items ++ with_traces (bytes_of t.outcome.lines.items) (traces_of t.traces.items)

-- of the lines of a run, by those that are expected: no line and status 0, or that of the first that differs and 1
abbrev pub TellsUnmet : List (List ℕ) → List (List ℕ) → List ℕ → ℕ → Type 0
TellsUnmet expected lines line status =
    (IsMet expected lines × (line ≡ []) × (status ≡ 0))
    ⊎ ((fault : Fault) × ReportsUnmet expected lines fault × (line ≡ fault_line fault ++ 10 ∷ []) × (status ≡ 1))

-- all of its lines are printed, with that
abbrev pub IsOfTrace : Traced → AnswerValue → Type 0
IsOfTrace t told = (told.out ≡ lines_text (trace_lines t))
    × TellsUnmet (bytes_of t.outcome.expected.items) (bytes_of t.outcome.lines.items) told.err told.status

-- those up to the line of the run of this number, and what is shown there
abbrev pub front_lines : Traced → ℕ → List (List ℕ)
front_lines t number =
    bytes_of t.start.items ++ with_traces_to number (bytes_of t.outcome.lines.items) (traces_of t.traces.items)

-- and where traces are wanted
abbrev pub front_if : Bool → Traced → ℕ → List (List ℕ)
front_if true t number = front_lines t number
front_if false t number = []
