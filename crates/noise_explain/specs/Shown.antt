-- How an explanation begins.
use Rattle.std.specs.Prelude.{ℕ, ◌-◌, List, [], ◌++◌, codes, decimal, drop, length, nat_lt, replicate, take, if◌then◌else◌}
use Rattle.noise_lines.specs.Shown.{shown_text}
use Rattle.noise_lines.specs.Reported.{fault_line}
use Rattle.noise_lines.specs.declared.faults.Fault.{Fault}
use Rattle.noise_names.specs.Names.{section_bytes}
use Rattle.noise_names.specs.Plan.{Plan}
use Rattle.noise_explain.specs.declared.position.Position.{Position}

-- the first line of what is said of a wrong file: its name, the position, and the line that the other commands print of
-- the fault
abbrev pub wrong_head : List ℕ → Position → Fault → List ℕ
wrong_head name position fault =
    shown_text name ++ codes ":" ++ decimal position.line ++ codes ":" ++ decimal position.column ++ codes ": "
    ++ fault_line fault
    ++ codes "\n"

-- the first line of what is said of a right pattern text: its name, and the pattern section
abbrev pub right_head : List ℕ → Plan → List ℕ
right_head name p = shown_text name ++ codes ": valid " ++ section_bytes p.base p.places ++ codes "\n"

-- the first line of what is said of a file that isn't read
abbrev pub unread_head : List ℕ → Fault → List ℕ
unread_head name fault = shown_text name ++ codes ": " ++ fault_line fault ++ codes "\n"

-- a line of a sentence
abbrev pub sentence_line : List ℕ → List ℕ
sentence_line sentence = codes "  " ++ sentence ++ codes "\n"

-- ---- a line of a text

-- what stands before a column, after two spaces: at most its last 64 bytes
abbrev pub shown_end : List ℕ → List ℕ
shown_end bytes =
    codes "  " ++ (if nat_lt 64 (length bytes) then codes "[..]" else []) ++ shown_text (drop (length bytes - 64) bytes)

-- what stands from a column on: at most its first 64 bytes
abbrev pub shown_start : List ℕ → List ℕ
shown_start bytes = shown_text (take 64 bytes) ++ (if nat_lt 64 (length bytes) then codes "[..]" else [])

-- a line, or the part of a long one round this column, and a caret below the column, which counts from 1
abbrev pub caret_text : List ℕ → ℕ → List ℕ
caret_text line column =
    shown_end (take (column - 1) line) ++ shown_start (drop (column - 1) line) ++ codes "\n"
    ++ replicate (length (shown_end (take (column - 1) line))) 32 ++ codes "^\n"
