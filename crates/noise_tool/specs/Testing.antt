-- What `test` prints of vector files, and its exit status.
use Rattle.std.specs.Prelude.{⊤, ◌≡◌, ◌⊎◌, ◌≤◌, ◌==◌, ◌&&◌, ◌||◌, if◌then◌else◌, ℕ, Bool, true, false, not, List, [], ◌∷◌, ◌++◌, Option, None, Some, IfSome, IsTrue}
use Rattle.std.specs.Prelude.{codes, count_by, decimal, flat_map, length, map, string_bytes}
use Rattle.std.specs.Bool.{nat_eq}
use Rattle.std.specs.List.{All, starts_with}
use Rattle.std.specs.Str.{bytes_eq}
use Rattle.std.specs.Io.KnownBytes.{Appends}
use Rattle.noise_explain.specs.StateParts.{HaveNoDifference, SaysDifference}
use Rattle.noise_names.specs.Plan.{Plan}
use Rattle.noise_names.specs.Text.{line}
use Rattle.noise_lines.specs.Faults.{status_of}
use Rattle.noise_lines.specs.Lines.{lines_text}
use Rattle.noise_lines.specs.Prefixes.{AppendsPrefix}
use Rattle.noise_lines.specs.declared.faults.Fault.{Fault}
use Rattle.noise_lines.specs.declared.faults.Fault.TheVariants.{Memory, Unreadable, Unwritable}
use Rattle.noise_names.specs.Lists.{bytes_of}
use Rattle.noise_vectors.specs.VectorFile.{IsVectorFile}
use Rattle.noise_vectors.specs.VectorText.{file_text}
use Rattle.noise_vectors.specs.declared.vector.AllowedEvents.TheVariants.{Any}
use Rattle.noise_vectors.specs.declared.vector.VectorFile.{VectorFile}
use Rattle.noise_lines.specs.TracedLines.{traces_of}
use Rattle.noise_run.specs.Ends.{IsFilePattern}
use Rattle.noise_run.specs.Selection.{all_lines}
use Rattle.noise_tool.specs.Performing.{IsRunFault}
use Rattle.noise_run.specs.Running.{IsRunOf, expected_in}
use Rattle.noise_run.specs.Tracing.{HasTraces, IsTraceTo}
use Rattle.noise_tool.specs.declared.testing.TestedRun.{TestedRun}
use Rattle.noise_run.specs.declared.tracing.Traced.{Traced}
use Rattle.noise_words.specs.declared.orders.Tested.{Tested}
use Rattle.noise_lines.specs.declared.verdict.Difference.{Difference}
use Rattle.noise_lines.specs.declared.verdict.Verdict.{Verdict}
use Rattle.noise_lines.specs.declared.verdict.Verdict.TheVariants.{Differs, CannotRun, NamedTwice}
use Rattle.noise_lines.specs.Verdicts.{IsJudged, bytes_in, is_met, verdict_text}

-- ---- standard input

-- `-` names standard input
abbrev pub is_input : List ℕ → Bool
is_input name = bytes_eq name (codes "-")

-- the name of a file, and whether it is standard input again
abbrev pub TestedName : Type 0
TestedName = List ℕ × Bool

-- those of these names, after standard input was named or not
abbrev pub tested_names_after : Bool → List (List ℕ) → List TestedName
tested_names_after named [] = []
tested_names_after named (name ∷ more) =
    (name, is_input name && named) ∷ tested_names_after (named || is_input name) more

abbrev pub tested_names : List (List ℕ) → List TestedName
tested_names names = tested_names_after false names

-- ---- the verdict on a file

-- a right vector file has this text, and this is its pattern
abbrev pub IsPatternOfText : List ℕ → Plan → Type 0
IsPatternOfText text plan =
    (file : VectorFile) × IsVectorFile file × (text ≡ file_text file) × IsFilePattern file.block file.protocol plan

-- A line of the run is printed where no more are expected. The states are the last lines, so all frames agree.
abbrev pub unexpected_lines : List ℕ → List (List ℕ)
unexpected_lines printed =
    if starts_with nat_eq printed (codes "state ")
    then codes "all frames agree: the file doesn't expect this state" ∷ []
    else []

-- of two lines that differ: where both are of the frame of one handshake message, a line of the first byte at which the
-- frames differ, and of the piece of the message that stands there; where both are of one party's state, a line of the
-- part in which the states differ
abbrev pub SayPiece : Plan → Option (List ℕ) → Option (List ℕ) → List (List ℕ) → Type 0
SayPiece plan (Some expected) (Some printed) lines =
    ((line : List ℕ) × (lines ≡ line ∷ []) × SaysDifference plan expected printed line)
    ⊎ ((lines ≡ []) × HaveNoDifference plan expected printed)
SayPiece plan None (Some printed) lines = lines ≡ unexpected_lines printed
SayPiece plan _ None lines = lines ≡ []

-- the line, if there is one
abbrev pub listed : Option (List ℕ) → List (List ℕ)
listed None = []
listed (Some line) = line ∷ []

abbrev pub IsPieceOf : Plan → Verdict → List (List ℕ) → Type 0
IsPieceOf plan (Differs d) lines = SayPiece plan (bytes_in d.expected) (bytes_in d.printed) lines
IsPieceOf plan verdict lines = ⊤

-- Where traces are wanted, this is the front of a trace of this run, of all parts and both roles: up to the line of
-- this number, and what is shown there.
abbrev pub IsTraceFront : Bool → VectorFile → List (List ℕ) → ℕ → List (List ℕ) → Type 0
IsTraceFront true file lines number front = IsTraceTo all_lines file lines number front
IsTraceFront false file lines number front = front ≡ []

-- these lines follow the two that differ: that of the piece, by the file's pattern, and the front of a trace
pub record FollowDifference (traces : Bool) (text : List ℕ) (file : VectorFile) (lines : List (List ℕ)) (d : Difference)
    (below : List (List ℕ)) : Type 0 where
  pub plan : Plan
  pub pattern : IsPatternOfText text plan
  pub piece : List (List ℕ)
  pub piece_is : IsPieceOf plan (Differs d) piece
  pub front : List (List ℕ)
  pub front_is : IsTraceFront traces file lines d.number front
  pub below_is : below ≡ piece ++ front

-- where the run differs
abbrev pub IsBelowVerdict : Bool → List ℕ → VectorFile → List (List ℕ) → Verdict → List (List ℕ) → Type 0
IsBelowVerdict traces text file lines (Differs d) below = FollowDifference traces text file lines d below
IsBelowVerdict traces text file lines verdict below = ⊤

-- a right vector file has this text, the verdict is on the lines of its run, and these lines follow it
pub record IsOfRun (traces : Bool) (text : List ℕ) (verdict : Verdict) (below : List (List ℕ)) : Type 0 where
  pub file : VectorFile
  pub right : IsVectorFile file
  pub text_is : text ≡ file_text file
  pub short : length text ≤ 4194304
  pub lines : List (List ℕ)
  pub run : IsRunOf file lines
  pub judged : IsJudged lines (expected_in file.version) verdict
  pub below_is : IsBelowVerdict traces text file lines verdict below

-- a right vector file has this text, and this came of its run, with a trace where one is wanted
pub record RunsTo (traces : Bool) (text : List ℕ) (traced : Traced) : Type 0 where
  pub file : VectorFile
  pub right : IsVectorFile file
  pub text_is : text ≡ file_text file
  pub short : length text ≤ 4194304
  pub run : IsRunOf file (bytes_of traced.outcome.lines.items)
  pub expected : bytes_of traced.outcome.expected.items ≡ expected_in file.version
  pub shown : traces ≡ true
      → HasTraces all_lines file (bytes_of traced.outcome.lines.items) (bytes_of traced.start.items)
      (traces_of traced.traces.items)

-- this came of the run of a right vector file of this text, where that is known, with a trace where one is wanted
abbrev pub ComesOf : Bool → Option (List ℕ) → TestedRun → Type 0
ComesOf traces known run =
    IfSome known (λ text. RunsTo traces text run.traced) × IfSome known (λ text. IsPatternOfText text run.pattern)

-- the verdict is why the file isn't run
abbrev pub IsOfFault : List ℕ → Verdict → Type 0
IsOfFault text (CannotRun why) = IsRunFault Any text why
IsOfFault text _ = ⊥

abbrev pub IsVerdict : Bool → List ℕ → Verdict → List (List ℕ) → Type 0
IsVerdict traces text verdict below = IsOfFault text verdict ⊎ IsOfRun traces text verdict below

-- ---- what is printed

-- a verdict, and where the run differs the lines that follow
abbrev pub tested_text : List ℕ → Verdict → List (List ℕ) → List ℕ
tested_text name (Differs d) below = verdict_text name (Differs d) ++ lines_text below
tested_text name verdict below = verdict_text name verdict

-- the name of a file, whether it is standard input again, the verdict on it, and the lines that follow
pub record Judged : Type 0 where
  pub name : List ℕ
  pub again : Bool
  pub verdict : Verdict
  pub below : List (List ℕ)

abbrev pub Verdicts : Type 0
Verdicts = List Judged

abbrev pub asked_in : Judged → TestedName
asked_in v = (v.name, v.again)

abbrev pub passed_in : Verdicts → ℕ
passed_in verdicts = count_by (λ v. is_met v.verdict) verdicts

abbrev pub failed_in : Verdicts → ℕ
failed_in verdicts = count_by (λ v. not (is_met v.verdict)) verdicts

abbrev pub verdicts_text : Verdicts → List ℕ
verdicts_text verdicts = flat_map (λ v. tested_text v.name v.verdict v.below) verdicts

-- the last line
abbrev pub tally_line : ℕ → ℕ → List ℕ
tally_line passed failed = line (decimal passed ++ (codes " passed, " ++ (decimal failed ++ codes " failed")))

-- what the file says is the reason, and nothing outside it: neither memory nor a read or a write that was refused
abbrev pub IsOfFile : Verdict → Type 0
IsOfFile (CannotRun why) = status_of why ≤ 2
IsOfFile NamedTwice = ⊥
IsOfFile verdict = ⊤

-- The verdict on a file, and the lines that follow. On standard input again: that it is named twice. On any other: that
-- it can't be read, where it may be that it can't; else one that is of the file and that its bytes have, where they are
-- known.
abbrev pub IsVerdictOn : Bool → Bool → Option (List ℕ) → Bool → Verdict → List (List ℕ) → Type 0
IsVerdictOn true traces known unreadable verdict below = verdict ≡ NamedTwice
IsVerdictOn false traces known unreadable verdict below =
    ((verdict ≡ CannotRun Unreadable) × IsTrue unreadable)
    ⊎ (IsOfFile verdict × IfSome known (λ text. IsVerdict traces text verdict below))

-- the text of the verdict on one file, with the lines that follow, and whether it passed
pub record IsTestedFile (again traces : Bool) (known : Option (List ℕ)) (unreadable : Bool) (name text : List ℕ)
    (met : Bool) : Type 0 where
  pub verdict : Verdict
  pub below : List (List ℕ)
  pub right : IsVerdictOn again traces known unreadable verdict below
  pub text_is : text ≡ tested_text name verdict below
  pub met_is : met ≡ is_met verdict

-- these files are tested, in order: the output grew by the texts of their verdicts
pub record HaveTested (traces : Bool) (bytes_at : List ℕ → Option (List ℕ)) (unreadable : List ℕ → Bool)
    (files : List TestedName) (before after : Option (List ℕ)) (passed failed : ℕ) : Type 0 where
  pub verdicts : Verdicts
  pub named : map asked_in verdicts ≡ files
  pub right : All (λ v. IsVerdictOn v.again traces (bytes_at v.name) (unreadable v.name) v.verdict v.below) verdicts
  pub printed : Appends before after (verdicts_text verdicts)
  pub passed_is : passed ≡ passed_in verdicts
  pub failed_is : failed ≡ failed_in verdicts

-- The same of the files of these names, and after it the output has the line of how many passed and failed. The status
-- is 0 if none failed, and else 1.
pub record IsTested (traces : Bool) (bytes_at : List ℕ → Option (List ℕ)) (unreadable : List ℕ → Bool)
    (names : List (List ℕ)) (before after : Option (List ℕ)) (status : ℕ) : Type 0 where
  pub verdicts : Verdicts
  pub named : map asked_in verdicts ≡ tested_names names
  pub right : All (λ v. IsVerdictOn v.again traces (bytes_at v.name) (unreadable v.name) v.verdict v.below) verdicts
  pub printed : Appends before after (verdicts_text verdicts ++ tally_line (passed_in verdicts) (failed_in verdicts))
  pub status_is : status ≡ (if failed_in verdicts == 0 then 0 else 1)

-- the same of the files that are tested_names for, and the error output is as it was
abbrev pub TestsFiles : {E : Type 0} → Tested → (List ℕ → Option (List ℕ)) → (List ℕ → Bool) → Option (List ℕ)
    → Option (List ℕ) → E → E → ℕ → Type 0
TestsFiles given bytes_at unreadable before after err err_after status =
    IsTested given.traces bytes_at unreadable (map string_bytes given.files.items) before after status
    × (err_after ≡ err)

-- ---- where the command ends before its work is done

-- memory ran out, or the output wasn't written
abbrev pub EndsTest : Fault → Type 0
EndsTest fault = (fault ≡ Memory) ⊎ (fault ≡ Unwritable)

-- The output grew by a prefix of what is printed of the files of these names: the texts of the verdicts on the first of
-- them, and after those of all files the last line.
pub record TestsPrefix (traces : Bool) (bytes_at : List ℕ → Option (List ℕ)) (unreadable : List ℕ → Bool)
    (names : List (List ℕ)) (before after : Option (List ℕ)) : Type 0 where
  pub verdicts : Verdicts
  pub others : List TestedName
  pub named : map asked_in verdicts ++ others ≡ tested_names names
  pub right : All (λ v. IsVerdictOn v.again traces (bytes_at v.name) (unreadable v.name) v.verdict v.below) verdicts
  pub last : List ℕ
  pub last_is : (last ≡ []) ⊎ ((others ≡ []) × (last ≡ tally_line (passed_in verdicts) (failed_in verdicts)))
  pub grown : AppendsPrefix before after (verdicts_text verdicts ++ last)
