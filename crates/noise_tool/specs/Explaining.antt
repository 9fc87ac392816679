-- What `explain` prints of files, and its exit status.
use Rattle.std.specs.Prelude.{◌≡◌, ◌⊎◌, ◌<◌, ◌≤◌, ℕ, Bool, true, false, List, ◌∷◌, ◌++◌, Option, IfSome, IsFalse, IsTrue, flat_map, fold, length, map, nat_le, if◌then◌else◌}
use Rattle.std.specs.List.{All}
use Rattle.noise_explain.specs.Explained.{IsExplained, SaysLong}
use Rattle.noise_explain.specs.Fixed.{IsFixed}
use Rattle.noise_explain.specs.Shown.{unread_head}
use Rattle.noise_explain.specs.declared.explanation.Explained.{Explained}
use Rattle.noise_explain.specs.VectorExplained.{ReportsFault, ExplainsLine, ReportsVector, is_vector_text}
use Rattle.noise_lines.specs.declared.faults.Fault.{Fault}
use Rattle.noise_lines.specs.declared.faults.Fault.TheVariants.{Line, Unreadable}
use Rattle.noise_tool.specs.Answers.{AnswerValue, IsOutput, TellsFault}
use Rattle.noise_run.specs.Ends.{IsStartFault}
use Rattle.noise_tool.specs.PatternNames.{NamesText}
use Rattle.noise_tool.specs.Performing.{IsUnread}
use Rattle.noise_run.specs.Running.{IsRunOf}
use Rattle.noise_tool.specs.Testing.{EndsTest}
use Rattle.noise_vectors.specs.VectorFile.{IsVectorFile}
use Rattle.noise_vectors.specs.VectorText.{file_text}
use Rattle.noise_vectors.specs.declared.faults.LineKind.{LineKind}
use Rattle.noise_vectors.specs.declared.vector.AllowedEvents.TheVariants.{Any}
use Rattle.noise_vectors.specs.declared.vector.VectorFile.{VectorFile}

-- what is said of a right vector file: what its run comes to, or why it has no ends
pub record SaysRun (name : List ℕ) (file : VectorFile) (e : Explained) : Type 0 where
  pub lines : List (List ℕ)
  pub run : IsRunOf file lines
  pub reports : ReportsVector name file.protocol e

pub record SaysNoEnds (name : List ℕ) (file : VectorFile) (e : Explained) : Type 0 where
  pub fault : Fault
  pub wrong : IsStartFault file fault
  pub reports : ReportsFault name fault e

abbrev pub IsExplainedRun : List ℕ → VectorFile → Explained → Type 0
IsExplainedRun name file e = SaysRun name file e ⊎ SaysNoEnds name file e

-- a right vector file has this text, and this is said of it
pub record SaysFile (name text : List ℕ) (e : Explained) : Type 0 where
  pub file : VectorFile
  pub right : IsVectorFile file
  pub text_is : text ≡ file_text file
  pub said : IsExplainedRun name file e

-- the text is that of no vector file, and the line that `replay` reports is reported with its position
pub record SaysWrongLine (name text : List ℕ) (e : Explained) : Type 0 where
  pub number : ℕ
  pub kind : LineKind
  pub wrong : IsUnread Any text (Line number kind)
  pub reports : ExplainsLine name text number kind e

abbrev pub IsExplainedVector : List ℕ → List ℕ → Explained → Type 0
IsExplainedVector name text e = SaysFile name text e ⊎ SaysWrongLine name text e

-- what is said of the text of a pattern; or the text with the changes that correct it, where that is asked for
abbrev pub IsExplainedPattern : Bool → List ℕ → List ℕ → Explained → Type 0
IsExplainedPattern true name text e = IsFixed text e
IsExplainedPattern false name text e = IsExplained name text e

-- what is said of a text, by whether it is taken as that of a vector file
abbrev pub IsExplainedText : Bool → List ℕ → List ℕ → Explained → Type 0
IsExplainedText fixes name text e =
    (IsTrue (is_vector_text text) × IsExplainedVector name text e) ⊎ (IsFalse (is_vector_text text)
    × IsExplainedPattern fixes name text e)

-- what is said of the file of this name, where its bytes are known
abbrev pub IsExplainedFile : Bool → Option (List ℕ) → List ℕ → Explained → Type 0
IsExplainedFile fixes known name e =
    IfSome known (λ text. IsExplainedText fixes name text e ⊎ ((4194304 < length text) × SaysLong name e))

-- what is said of the pattern of this name
pub record SaysNamed (fixes : Bool) (name : List ℕ) (e : Explained) : Type 0 where
  pub text : List ℕ
  pub named : NamesText name text
  pub said : IsExplainedPattern fixes name text e

-- of the file of a name, or, where it may be that this can't be read, of the pattern of that name
abbrev pub IsExplainedAt : Bool → (List ℕ → Option (List ℕ)) → (List ℕ → Bool) → List ℕ → Explained → Type 0
IsExplainedAt fixes bytes_at unreadable name e =
    IsExplainedFile fixes (bytes_at name) name e ⊎ (IsTrue (unreadable name) × SaysNamed fixes name e)

-- it may be that the file of this name can't be read, and it is the name of no pattern
abbrev pub IsUnreadName : (List ℕ → Bool) → List ℕ → Type 0
IsUnreadName unreadable name = IsTrue (unreadable name) × ((text : List ℕ) → NamesText name text → ⊥)

-- the name of a file, and what is said of it
pub record Said : Type 0 where
  pub name : List ℕ
  pub explained : Explained

abbrev pub worse : ℕ → ℕ → ℕ
worse first second = if nat_le first second then second else first

abbrev pub said_text : List Said → List ℕ
said_text said = flat_map (λ s. s.explained.text.items) said

-- the greatest of the statuses
abbrev pub worst_of : List Said → ℕ
worst_of said = fold (λ status s. worse status s.explained.status) 0 said

-- it is said of the files of these names
pub record AreSaid (fixes : Bool) (bytes_at : List ℕ → Option (List ℕ)) (unreadable : List ℕ → Bool)
    (names : List (List ℕ)) (said : List Said) : Type 0 where
  pub named : map (λ s. s.name) said ≡ names
  pub right : All (λ s. IsExplainedAt fixes bytes_at unreadable s.name s.explained) said

-- ---- the answer

-- what is said of all files, with the greatest of the statuses
pub record ExplainsAll (fixes : Bool) (bytes_at : List ℕ → Option (List ℕ)) (unreadable : List ℕ → Bool)
    (names : List (List ℕ)) (told : AnswerValue) : Type 0 where
  pub said : List Said
  pub are : AreSaid fixes bytes_at unreadable names said
  pub few : worst_of said ≤ 2
  pub out : told.out ≡ said_text said
  pub alone : IsOutput told (worst_of said)

-- what is said of the files before one that can't be read, where it may be that it can't and its name is that of no
-- pattern; the line has its name
pub record ExplainsFirst (fixes : Bool) (bytes_at : List ℕ → Option (List ℕ)) (unreadable : List ℕ → Bool)
    (names : List (List ℕ)) (told : AnswerValue) : Type 0 where
  pub first : List (List ℕ)
  pub name : List ℕ
  pub others : List (List ℕ)
  pub names_are : first ++ name ∷ others ≡ names
  pub said : List Said
  pub are : AreSaid fixes bytes_at unreadable first said
  pub unread : IsUnreadName unreadable name
  pub out : told.out ≡ said_text said
  pub err : told.err ≡ unread_head name Unreadable
  pub status : told.status ≡ 3

-- or memory runs out
abbrev pub IsExplainAnswer : Bool → (List ℕ → Option (List ℕ)) → (List ℕ → Bool) → List (List ℕ) → AnswerValue → Type 0
IsExplainAnswer fixes bytes_at unreadable names told =
    ExplainsAll fixes bytes_at unreadable names told ⊎ ExplainsFirst fixes bytes_at unreadable names told
    ⊎ TellsFault EndsTest told
