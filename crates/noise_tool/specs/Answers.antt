-- What a command answers: what it prints, and its exit status; and what comes of printing it.
use Rattle.std.specs.Prelude.{◌≡◌, ◌⊎◌, ℕ, List, [], ◌∷◌, ◌++◌, Option, Result, Ok, Err}
use Rattle.std.specs.Io.KnownBytes.{Appends}
use Rattle.noise_names.specs.Lists.{bytes_of}
use Rattle.noise_lines.specs.Faults.{status_of}
use Rattle.noise_lines.specs.Lines.{lines_text}
use Rattle.noise_lines.specs.Prefixes.{AppendsPrefix}
use Rattle.noise_lines.specs.Reported.{error_text, fault_line}
use Rattle.noise_lines.specs.TracedLines.{traces_of, with_traces}
use Rattle.noise_lines.specs.declared.faults.Fault.{Fault}
use Rattle.noise_lines.specs.declared.faults.Fault.TheVariants.{Memory, Rule, Unwritable}
use Rattle.noise_tool.specs.declared.answers.Answer.{Answer}
use Rattle.noise_tool.specs.declared.answers.Text.{Text}

-- what is printed to the output and to the error output, and the exit status
pub record AnswerValue : Type 0 where
  pub out : List ℕ
  pub err : List ℕ
  pub status : ℕ

abbrev pub printed_lines : Text → List (List ℕ)
printed_lines t = bytes_of t.start.items ++ with_traces (bytes_of t.lines.items) (traces_of t.traces.items)

abbrev pub printed_text : Text → List ℕ
printed_text t = t.head.items ++ lines_text (printed_lines t)

abbrev pub answer_value : Answer → AnswerValue
answer_value a = record { out = printed_text a.out; err = a.err.items; status = a.status }

-- at status 2 there is no text
abbrev pub IsSilent : Answer → Type 0
IsSilent a = a.status ≡ 2 → printed_text a.out ≡ []

-- ---- forms of answers

-- nothing comes to the error output
abbrev pub IsOutput : AnswerValue → ℕ → Type 0
IsOutput told status = (told.err ≡ []) × (told.status ≡ status)

-- nothing but this line comes to the error output
abbrev pub IsLine : AnswerValue → List ℕ → ℕ → Type 0
IsLine told line status = (told.out ≡ []) × (told.err ≡ line) × (told.status ≡ status)

-- a broken rule is told on the output, any other fault on the error output
abbrev pub output_text : Fault → List ℕ
output_text (Rule f) = fault_line (Rule f) ++ 10 ∷ []
output_text fault = []

abbrev pub fault_value : Fault → AnswerValue
fault_value fault = record { out = output_text fault; err = error_text fault; status = status_of fault }

-- such a fault is told
abbrev pub TellsFault : (Fault → Type 0) → AnswerValue → Type 0
TellsFault Is told = (fault : Fault) × Is fault × (told ≡ fault_value fault)

-- ---- printing

-- this is told of what comes of a command; where memory runs out for the text of a fault, that is
abbrev pub IsToldOf : Result Answer Fault → AnswerValue → Type 0
IsToldOf (Ok answer) told = told ≡ answer_value answer
IsToldOf (Err fault) told = (told ≡ fault_value fault) ⊎ (told ≡ fault_value Memory)

module _ {O E : Type 0} (printed : O → Option (List ℕ)) (reported : E → Option (List ℕ)) where
  -- The output grew by a prefix of the answer's text. It grew by all of it, and the error output by a prefix of the
  -- answer's line; or a write to the output was refused, which is told with status 3. Where there is no text or no line
  -- nothing is written.
  pub record IsPrinted (told : AnswerValue) (out out_after : O) (err err_after : E) (status : ℕ) : Type 0 where
    pub prefix : AppendsPrefix (printed out) (printed out_after) told.out
    pub unwritten : told.out ≡ [] → out_after ≡ out
    pub ends : ((status ≡ told.status) × Appends (printed out) (printed out_after) told.out
        × AppendsPrefix (reported err) (reported err_after) told.err × (told.err ≡ [] → err_after ≡ err))
        ⊎ ((status ≡ 3) × AppendsPrefix (reported err) (reported err_after) (error_text Unwritable))

  -- this holds of an answer, and it was printed
  pub record Outcome (Is : AnswerValue → Type 0) (out out_after : O) (err err_after : E) (status : ℕ) : Type 0 where
    pub told : AnswerValue
    pub is : Is told
    pub ends : IsPrinted told out out_after err err_after status
