-- What a command on at most one file answers, and what the words of a command line ask for.
use Rattle.std.specs.Prelude.{⊤, ◌≡◌, ◌≢◌, ◌⊎◌, ◌<◌, ◌≤◌, ℕ, Bool, true, false, List, [], length, Option, None, Some, IfSome, IsTrue, option_and_then, string_bytes, if◌then◌else◌}
use Rattle.noise_names.specs.Plan.{Plan}
use Rattle.noise_names.specs.Text.{Spells}
use Rattle.noise_names.specs.Validity.{IsValid}
use Rattle.noise_lines.specs.Verdicts.{IsMet}
use Rattle.noise_run.specs.Conversion.{MeetsItself}
use Rattle.noise_run.specs.Ends.{IsStartFault}
use Rattle.noise_lines.specs.Faults.{of_vector, status_of}
use Rattle.noise_lines.specs.Output.{IsCheckFault, check_text, list_text}
use Rattle.noise_lines.specs.Lines.{lines_text}
use Rattle.noise_lines.specs.Reported.{error_text}
use Rattle.noise_tool.specs.Answers.{AnswerValue, IsOutput, TellsFault}
use Rattle.noise_tool.specs.PatternNames.{IsShownFault, IsShownText, NamesText}
use Rattle.noise_run.specs.Running.{IsRunOf, expected_in}
use Rattle.noise_tool.specs.Templating.{IsTemplateFault, IsTemplated, ReadsShortPattern}
use Rattle.noise_run.specs.Selection.{selection_of}
use Rattle.noise_run.specs.Tracing.{IsTraceOf}
use Rattle.noise_lines.specs.Converted.{converted_text}
use Rattle.noise_vectors.specs.Expectations.{IsFirstUnmet}
use Rattle.noise_vectors.specs.VectorFile.{IsAllowedFile, IsReadFault, IsVectorFile}
use Rattle.noise_vectors.specs.WrongLine.{IsReported}
use Rattle.noise_vectors.specs.VectorText.{file_text}
use Rattle.noise_explain.specs.Template.{names_protocol}
use Rattle.noise_lines.specs.declared.faults.Fault.{Fault}
use Rattle.noise_lines.specs.declared.faults.Fault.TheVariants.{TooLong, Unmet}
use Rattle.noise_words.specs.declared.orders.Chosen.{Chosen}
use Rattle.noise_words.specs.declared.orders.Chosen.TheVariants.{List as Listing, Show, Check, Template, Talk, Replay, Convert, Trace}
use Rattle.noise_words.specs.declared.orders.Order.{Order}
use Rattle.noise_words.specs.declared.orders.Order.TheVariants.{Command, Compare, Document, Explain, Fill, Test}
use Rattle.noise_words.specs.declared.orders.Compared.{Compared}
use Rattle.noise_words.specs.declared.orders.Documented.{Documented}
use Rattle.noise_words.specs.declared.orders.Explained.{Explained}
use Rattle.noise_words.specs.declared.orders.Filled.{Filled}
use Rattle.noise_words.specs.declared.orders.Tested.{Tested}
use Rattle.noise_vectors.specs.declared.faults.VectorFault.{VectorFault}
use Rattle.noise_vectors.specs.declared.vector.AllowedEvents.{AllowedEvents}
use Rattle.noise_vectors.specs.declared.vector.AllowedEvents.TheVariants.{SayOnly, Any, VersionOne}
use Rattle.noise_vectors.specs.declared.vector.Version.TheVariants.{One}
use Rattle.noise_vectors.specs.declared.vector.VectorFile.{VectorFile}

-- what is printed of a file and of the lines of its run
abbrev pub Printing : Type 1
Printing = VectorFile → List (List ℕ) → List (List ℕ) → Type 0

-- `talk` and `replay` print the lines of the run
abbrev pub IsPlain : VectorFile → List (List ℕ) → List (List ℕ) → Type 0
IsPlain file lines printed = IsRunOf file lines × (printed ≡ lines)

-- A right vector file has these bytes, this text is printed of its run, and the lines of the run come to this.
pub record IsRunText (Prints : Printing) (ComeTo : VectorFile → List (List ℕ) → Type 0) (bytes text : List ℕ) : Type 0
  where
    pub file : VectorFile
    pub right : IsVectorFile file
    pub bytes_are : bytes ≡ file_text file
    pub lines : List (List ℕ)
    pub printed : List (List ℕ)
    pub run : Prints file lines printed
    pub text_is : text ≡ lines_text printed
    pub come_to : ComeTo file lines

-- the lines are those that the file expects, if it expects any
abbrev pub AreMet : VectorFile → List (List ℕ) → Type 0
AreMet file lines = IsMet (expected_in file.version) lines

-- this is the first of the lines that differs from what the file expects
abbrev pub DifferAt : ℕ → VectorFile → List (List ℕ) → Type 0
DifferAt number file lines =
    (expected_in file.version ≢ []) × IsFirstUnmet lines (expected_in file.version) number

-- A right vector file of version 1 has this text, and this is the one of version 2 that expects the lines of its run,
-- and meets them.
pub record Converts (text converted : List ℕ) : Type 0 where
  pub file : VectorFile
  pub right : IsVectorFile file
  pub first : file.version ≡ One
  pub text_is : text ≡ file_text file
  pub lines : List (List ℕ)
  pub run : IsRunOf file lines
  pub meets : MeetsItself file lines
  pub short : length converted ≤ 4194304
  pub converted_is : converted ≡ converted_text file lines

-- what a command prints with status 0, by the bytes of its file, where they are known
abbrev pub IsDone : Chosen → Option (List ℕ) → List ℕ → Type 0
IsDone Listing file text = text ≡ list_text
IsDone (Show name) file text = IsShownText (string_bytes name) text
IsDone (Check path) file text = IfSome file (λ bytes. (p : Plan) × Spells bytes p × IsValid p × (text ≡ check_text p))
IsDone (Template word) file text = IsTemplated (string_bytes word) file text
IsDone (Talk path) file text = IfSome file (λ bytes. IsRunText IsPlain AreMet bytes text)
IsDone (Replay path) file text = IfSome file (λ bytes. IsRunText IsPlain AreMet bytes text)
IsDone (Convert path) file text = IfSome file (λ bytes. Converts bytes text)
IsDone (Trace traced) file text = IfSome file (λ bytes. IsRunText (IsTraceOf (selection_of traced)) AreMet bytes text)

-- and with status 1, where the line of this number isn't as expected
abbrev pub IsUnmet : Chosen → Option (List ℕ) → ℕ → List ℕ → Type 0
IsUnmet (Talk path) file number text = IfSome file (λ bytes. IsRunText IsPlain (DifferAt number) bytes text)
IsUnmet (Replay path) file number text = IfSome file (λ bytes. IsRunText IsPlain (DifferAt number) bytes text)
IsUnmet (Trace traced) file number text =
    IfSome file (λ bytes. IsRunText (IsTraceOf (selection_of traced)) (DifferAt number) bytes text)
IsUnmet _ file number text = ⊥

-- the bytes of a file, where they are known, are at most 4194304
abbrev pub IsShortFile : Option (List ℕ) → Type 0
IsShortFile file = IfSome file (λ text. length text ≤ 4194304)

-- this is the text of a right vector file of what is allowed
pub record IsReadVector (allowed : AllowedEvents) (text : List ℕ) (file : VectorFile) : Type 0 where
  pub right : IsVectorFile file
  pub is_allowed : IsAllowedFile allowed file
  pub text_is : text ≡ file_text file

-- such is the file that is read, if one is
abbrev pub ReadsShort : Chosen → Option (List ℕ) → Type 0
ReadsShort Listing file = ⊤
ReadsShort (Show name) file = ⊤
ReadsShort (Template word) file = ReadsShortPattern (string_bytes word) file
ReadsShort _ file = IsShortFile file

abbrev pub IsTooLong : List ℕ → Fault → Type 0
IsTooLong text fault = (fault ≡ TooLong) × (4194304 < length text)

-- a right vector file has this text, and its pattern or a setup has this fault
abbrev pub HasNoEnds : List ℕ → Fault → Type 0
HasNoEnds text fault = (file : VectorFile) × IsVectorFile file × (text ≡ file_text file) × IsStartFault file fault

-- why this text isn't read, and which of its lines is reported
abbrev pub IsUnread : AllowedEvents → List ℕ → Fault → Type 0
IsUnread allowed text fault =
    (why : VectorFault) × (fault ≡ of_vector why) × IsReadFault allowed text why × IsReported allowed text why

-- why this text of a vector file, of what is allowed, isn't run
abbrev pub IsRunFault : AllowedEvents → List ℕ → Fault → Type 0
IsRunFault allowed text fault = IsTooLong text fault ⊎ IsUnread allowed text fault ⊎ HasNoEnds text fault

-- the converted text of a right vector file of version 1 has too many bytes
abbrev pub IsTooLongConverted : List ℕ → Fault → Type 0
IsTooLongConverted text fault =
    (fault ≡ TooLong) × (file : VectorFile) × IsVectorFile file × (file.version ≡ One) × (text ≡ file_text file)
    × (lines : List (List ℕ)) × IsRunOf file lines × (4194304 < length (converted_text file lines))

-- why a command ends before its work is done, where the fault is in what it was given, by the bytes of its file, where
-- they are known
abbrev pub IsFault : Chosen → Option (List ℕ) → Fault → Type 0
IsFault Listing file fault = ⊥
IsFault (Show name) file fault = IsShownFault (string_bytes name) fault
IsFault (Check path) file fault = IfSome file (λ text. IsTooLong text fault ⊎ IsCheckFault text fault)
IsFault (Template word) file fault = IsTemplateFault (string_bytes word) file fault
IsFault (Talk path) file fault = IfSome file (λ text. IsRunFault SayOnly text fault)
IsFault (Replay path) file fault = IfSome file (λ text. IsRunFault Any text fault)
IsFault (Convert path) file fault = IfSome file (λ text. IsRunFault VersionOne text fault ⊎ IsTooLongConverted text fault)
IsFault (Trace traced) file fault = IfSome file (λ text. IsRunFault Any text fault)

-- a text of status 0, or one of status 1 whose line of this number isn't as expected
abbrev pub GivesText : (List ℕ → Type 0) → (ℕ → List ℕ → Type 0) → AnswerValue → Type 0
GivesText Met Differs told =
    (Met told.out × IsOutput told 0)
    ⊎ ((number : ℕ) × Differs number told.out × (told.err ≡ error_text (Unmet number)) × (told.status ≡ 1))

-- what a command answers, by the bytes of its file, where they are known; at status 0 and 1 they are short
pub record IsAnswerOn (chosen : Chosen) (known : Option (List ℕ)) (told : AnswerValue) : Type 0 where
  pub long : (2 ≤ told.status) ⊎ ReadsShort chosen known
  pub is : GivesText (IsDone chosen known) (IsUnmet chosen known) told ⊎ TellsFault (IsFault chosen known) told

-- ---- the file that a command reads

-- its name, if it reads one: `list` and `show` read none, nor does `template` of a protocol name
abbrev pub file_of : Chosen → Option (List ℕ)
file_of Listing = None
file_of (Show name) = None
file_of (Check path) = Some (string_bytes path)
file_of (Template word) = if names_protocol (string_bytes word) then None else Some (string_bytes word)
file_of (Talk path) = Some (string_bytes path)
file_of (Replay path) = Some (string_bytes path)
file_of (Convert path) = Some (string_bytes path)
file_of (Trace traced) = Some (string_bytes traced.file)

-- the commands that take the name of a pattern, too, where no file of this name can be read
abbrev pub takes_pattern : Chosen → Bool
takes_pattern (Check path) = true
takes_pattern (Template word) = true
takes_pattern _ = false

-- this is the text of the pattern of that name
pub record IsPatternOf (unreadable : List ℕ → Bool) (chosen : Chosen) (text : List ℕ) : Type 0 where
  pub taken : takes_pattern chosen ≡ true
  pub word : List ℕ
  pub word_is : file_of chosen ≡ Some word
  pub no_file : IsTrue (unreadable word)
  pub names : NamesText word text

-- this is what is known of the bytes that a command is run on: those of the file that it names, where they are known,
-- or those of a pattern's text
abbrev pub IsAsked : (List ℕ → Option (List ℕ)) → (List ℕ → Bool) → Chosen → Option (List ℕ) → Type 0
IsAsked bytes_at unreadable chosen known =
    (known ≡ option_and_then bytes_at (file_of chosen))
    ⊎ ((text : List ℕ) × IsPatternOf unreadable chosen text × (known ≡ Some text))

-- of those bytes
pub record OfAsked (bytes_at : List ℕ → Option (List ℕ)) (unreadable : List ℕ → Bool) (chosen : Chosen)
    (P : Option (List ℕ) → Type 0) : Type 0 where
  pub known : Option (List ℕ)
  pub asked : IsAsked bytes_at unreadable chosen known
  pub holds : P known

-- these are the bytes, where they are known
abbrev pub IsKnownAs : List ℕ → Option (List ℕ) → Type 0
IsKnownAs text known = IfSome known (λ bytes. text ≡ bytes)

-- the file that the command names has more bytes than are read
pub record IsLongFile (chosen : Chosen) (known : Option (List ℕ)) : Type 0 where
  pub word : List ℕ
  pub word_is : file_of chosen ≡ Some word
  pub long : IfSome known (λ bytes. 4194304 < length bytes)

-- what a command answers: on the bytes that it is asked for, or a fault that is outside the program
abbrev pub IsCommandAnswer : (List ℕ → Option (List ℕ)) → (List ℕ → Bool) → Chosen → AnswerValue → Type 0
IsCommandAnswer bytes_at unreadable chosen told =
    TellsFault (λ why. status_of why ≡ 3) told
    ⊎ OfAsked bytes_at unreadable chosen (λ known. IsAnswerOn chosen known told)

-- ---- what the words of a command line ask for

-- of a command on at most one file
abbrev pub IfCommand : Order → (Chosen → Type 0) → Type 0
IfCommand (Command chosen) P = P chosen
IfCommand _ P = ⊤

-- of `test`
abbrev pub IfTest : Order → (Tested → Type 0) → Type 0
IfTest (Test asked) P = P asked
IfTest _ P = ⊤

-- of `explain`
abbrev pub IfExplain : Order → (Explained → Type 0) → Type 0
IfExplain (Explain asked) P = P asked
IfExplain _ P = ⊤

-- of `compare`
abbrev pub IfCompare : Order → (Compared → Type 0) → Type 0
IfCompare (Compare names) P = P names
IfCompare _ P = ⊤

-- of a command that writes a document
abbrev pub IfDocument : Order → (Documented → Type 0) → Type 0
IfDocument (Document asked) P = P asked
IfDocument _ P = ⊤

-- of `template` with a file of values
abbrev pub IfFill : Order → (Filled → Type 0) → Type 0
IfFill (Fill names) P = P names
IfFill _ P = ⊤

-- At status 2 the output is as it was. `explain` prints there, and so does what writes a document; `test` has no such
-- status.
abbrev pub LeavesAtTwo : {O : Type 0} → Order → O → O → Type 0
LeavesAtTwo (Test asked) before after = ⊥
LeavesAtTwo (Explain files) before after = ⊤
LeavesAtTwo (Document asked) before after = ⊤
LeavesAtTwo _ before after = after ≡ before
