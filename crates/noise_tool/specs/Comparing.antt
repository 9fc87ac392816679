-- What `compare` prints of a log and of a vector file, and its exit status.
use Rattle.std.specs.Prelude.{⊤, ◌≡◌, ◌⊎◌, ◌<◌, ◌≤◌, ℕ, ◌-◌, Bool, true, false, List, [], ◌++◌, Option, Some, IfSome, IsTrue, codes, decimal, flat_map, length, map, string_bytes}
use Rattle.noise_compare.specs.Cut.{cut_text, whole_lines}
use Rattle.noise_compare.specs.Findings.{IsReport}
use Rattle.noise_compare.specs.Known.{AreKnown}
use Rattle.noise_compare.specs.Lines.{words_in, line_words}
use Rattle.noise_compare.specs.Plain.{skipped_text, plain_text, written_lines}
use Rattle.noise_compare.specs.Reading.{first_wrong, schedule_lines, views}
use Rattle.noise_compare.specs.declared.comparison.Finding.{Finding}
use Rattle.noise_compare.specs.declared.comparison.Finding.TheVariants.{Agrees, Ends, Differs}
use Rattle.noise_compare.specs.declared.facts.Facts.{Facts}
use Rattle.noise_compare.specs.declared.line.Line.{Line}
use Rattle.noise_documents.specs.Comparison.{AreFactsOf}
use Rattle.noise_json.specs.Json.{members_in}
use Rattle.noise_json.specs.declared.object.Object.{Object}
use Rattle.noise_lines.specs.Faults.{status_of}
use Rattle.noise_lines.specs.Reported.{fault_line}
use Rattle.noise_lines.specs.Verdicts.{named_fault}
use Rattle.noise_lines.specs.declared.faults.Fault.TheVariants.{TooLong, Unreadable}
use Rattle.noise_vectors.specs.VectorFile.{IsVectorFile}
use Rattle.noise_vectors.specs.VectorText.{file_text}
use Rattle.noise_vectors.specs.declared.vector.AllowedEvents.TheVariants.{Any}
use Rattle.noise_vectors.specs.declared.vector.VectorFile.{VectorFile}
use Rattle.noise_words.specs.declared.orders.Compared.{Compared}
use Rattle.noise_tool.specs.Answers.{AnswerValue, IsLine, IsOutput, TellsFault}
use Rattle.noise_tool.specs.FileFacts.{AreFactsOfText}
use Rattle.noise_run.specs.Selection.{all_lines}
use Rattle.noise_tool.specs.Performing.{IsRunFault}
use Rattle.noise_tool.specs.Testing.{EndsTest, is_input}
use Rattle.noise_run.specs.Tracing.{HasTraces}
use Rattle.noise_tool.specs.declared.comparison.Comparison.{Comparison}
use Rattle.noise_tool.specs.declared.comparison.Comparison.TheVariants.{Made, Unread, Wrong}
use Rattle.noise_tool.specs.declared.comparison.ComparedFile.{ComparedFile}
use Rattle.noise_tool.specs.declared.comparison.ComparedFile.TheVariants.{Log, Vector}
use Rattle.noise_tool.specs.declared.comparison.Uncompared.{Uncompared}
use Rattle.noise_tool.specs.declared.comparison.Uncompared.TheVariants.{NamedTwice, LongLog, WrongFile, NoLine, WrongLine}
use Rattle.noise_compare.specs.declared.comparison.LogReport.{LogReport}

-- the lines of a key schedule: those of the start, and those that follow each line of the run
abbrev pub schedule_of : List (List ℕ) → List (List (List ℕ)) → List (List ℕ)
schedule_of start traces = start ++ flat_map (λ trace. trace) traces

-- A right vector file has this text, and these are the words of the lines of its key schedule, as `trace` prints
-- them.
pub record IsScheduleOf (text : List ℕ) (right : List Line) : Type 0 where
  pub file : VectorFile
  pub is_right : IsVectorFile file
  pub text_is : text ≡ file_text file
  pub lines : List (List ℕ)
  pub start : List (List ℕ)
  pub traces : List (List (List ℕ))
  pub shown : HasTraces all_lines file lines start traces
  pub words_are : map words_in right ≡ map line_words (schedule_of start traces)

abbrev pub finding_status : Finding → ℕ
finding_status Agrees = 0
finding_status Ends = 1
finding_status Differs = 1

-- where they are wanted, the mistakes that are known at the step of the first difference
abbrev pub IsListed : Bool → Facts → List Line → List Line → List ℕ → Type 0
IsListed true facts right logged text = AreKnown facts right logged text
IsListed false facts right logged text = text ≡ []

-- This is the report on the whole lines of the log of this text, by the key schedule of the file of this text and its
-- facts. Then it has the number of the log's lines that were passed over, that its last line is cut off, and the
-- mistakes that are known, if all are wanted.
pub record Compares (all : Bool) (log file : List ℕ) (report : LogReport) : Type 0 where
  pub logged : List Line
  pub logged_are : views logged ≡ schedule_lines (plain_text (whole_lines log))
  pub right : List Line
  pub right_are : IsScheduleOf file right
  pub facts : Facts
  pub facts_are : AreFactsOfText file facts
  pub compared : List ℕ
  pub reported : IsReport facts right logged report.finding compared
  pub known : List ℕ
  pub listed : IsListed all facts right logged known
  pub text_is : report.text.items
      ≡ ((compared ++ skipped_text (written_lines (whole_lines log) - length logged)) ++ cut_text log) ++ known

-- These facts say what was found of the log of this text, by the key schedule of the file of this text.
pub record HasFacts (log file : List ℕ) (report : LogReport) (facts : Object) : Type 0 where
  pub logged : List Line
  pub logged_are : views logged ≡ schedule_lines (plain_text (whole_lines log))
  pub right : List Line
  pub right_are : IsScheduleOf file right
  pub are_facts : AreFactsOf report.finding right logged (members_in facts)

abbrev pub IfMade : Comparison → (LogReport → Type 0) → Type 0
IfMade (Made report facts) P = P report
IfMade _ P = ⊤

abbrev pub IfFacts : Comparison → (LogReport → Object → Type 0) → Type 0
IfFacts (Made report facts) P = P report facts
IfFacts _ P = ⊤

abbrev pub IfWrong : Comparison → (Uncompared → Type 0) → Type 0
IfWrong (Wrong why) P = P why
IfWrong _ P = ⊤

abbrev pub IfUnread : Comparison → (ComparedFile → Type 0) → Type 0
IfUnread (Unread which) P = P which
IfUnread _ P = ⊤

-- ---- a log that isn't compared

-- the log and the file are both standard input, which is read once
abbrev pub NamesInputTwice : Compared → Type 0
NamesInputTwice names = (is_input (string_bytes names.log) ≡ true) × (is_input (string_bytes names.file) ≡ true)

-- why it isn't, by its text
abbrev pub IsWrongLog : List ℕ → Uncompared → Type 0
IsWrongLog log NoLine = schedule_lines (plain_text (whole_lines log)) ≡ []
IsWrongLog log (WrongLine number) = first_wrong (plain_text (whole_lines log)) ≡ Some number
IsWrongLog log LongLog = 4194304 < length log
IsWrongLog log _ = ⊥

-- why it isn't, by the names and by the texts of the log and the vector file, where these are known
abbrev pub IsUncompared : Compared → Option (List ℕ) → Option (List ℕ) → Uncompared → Type 0
IsUncompared names log file NamedTwice = NamesInputTwice names
IsUncompared names log file (WrongFile fault) = (status_of fault ≤ 2) × IfSome file (λ f. IsRunFault Any f fault)
IsUncompared names log file why = IfSome log (λ l. IsWrongLog l why)

-- the line that says so
abbrev pub uncompared_line : Compared → Uncompared → List ℕ
uncompared_line names NamedTwice = named_fault (codes "-") (codes "standard input is named twice")
uncompared_line names LongLog = named_fault (string_bytes names.log) (fault_line TooLong)
uncompared_line names (WrongFile fault) = named_fault (string_bytes names.file) (fault_line fault)
uncompared_line names NoLine = named_fault (string_bytes names.log) (codes "no line of a key schedule")
uncompared_line names (WrongLine number) =
    named_fault (string_bytes names.log) (codes "line " ++ (decimal number ++ codes " trace"))

-- ---- a file that can't be read

abbrev pub compared_name : Compared → ComparedFile → List ℕ
compared_name names Log = string_bytes names.log
compared_name names Vector = string_bytes names.file

-- ---- the answer

-- the log and the file are compared, where their texts are known
pub record IsCompared (all : Bool) (log file : Option (List ℕ)) (told : AnswerValue) : Type 0 where
  pub report : LogReport
  pub compares : IfSome log (λ l. IfSome file (λ f. Compares all l f report))
  pub out : told.out ≡ report.text.items
  pub alone : IsOutput told (finding_status report.finding)

-- the log or the file is wrong
abbrev pub IsNotCompared : Compared → Option (List ℕ) → Option (List ℕ) → AnswerValue → Type 0
IsNotCompared names log file told =
    (why : Uncompared) × IsUncompared names log file why × IsLine told (uncompared_line names why) 2

-- memory runs out, or one of the files can't be read, where it may be that it can't, and the line has its name
abbrev pub StopsComparing : Compared → (List ℕ → Bool) → AnswerValue → Type 0
StopsComparing names unreadable told =
    TellsFault EndsTest told
    ⊎ ((which : ComparedFile) × IsTrue (unreadable (compared_name names which))
    × IsLine told (named_fault (compared_name names which) (fault_line Unreadable)) 3)

-- Where standard input is named twice nothing is compared, and the line says so, or memory runs out.
abbrev pub IsRefusedTwice : Compared → AnswerValue → Type 0
IsRefusedTwice names told =
    NamesInputTwice names → IsLine told (uncompared_line names NamedTwice) 2 ⊎ TellsFault EndsTest told

pub record IsCompareAnswer (names : Compared) (bytes_at : List ℕ → Option (List ℕ)) (unreadable : List ℕ → Bool)
    (told : AnswerValue) : Type 0 where
  pub compared : IsCompared names.all (bytes_at (string_bytes names.log)) (bytes_at (string_bytes names.file)) told
      ⊎ IsNotCompared names (bytes_at (string_bytes names.log)) (bytes_at (string_bytes names.file)) told
      ⊎ StopsComparing names unreadable told
  pub twice : IsRefusedTwice names told
