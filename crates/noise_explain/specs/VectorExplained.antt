-- What an explanation of a vector file says.
use Rattle.std.specs.Prelude.{◌≡◌, ℕ, Bool, List, [], ◌∷◌, ◌++◌, Option, None, Some, codes, drop, if◌then◌else◌}
use Rattle.std.specs.Bool.{nat_eq}
use Rattle.std.specs.List.{starts_with}
use Rattle.noise_lines.specs.Faults.{status_of}
use Rattle.noise_lines.specs.declared.faults.Fault.{Fault}
use Rattle.noise_lines.specs.declared.faults.Fault.TheVariants.{Line}
use Rattle.noise_lines.specs.Named.{IsNamed, IsUnnamed}
use Rattle.noise_names.specs.Names.{Section, name_bytes}
use Rattle.noise_names.specs.Plan.{Plan}
use Rattle.noise_vectors.specs.declared.faults.LineKind.{LineKind}
use Rattle.noise_explain.specs.Explained.{TextBeginsWith}
use Rattle.noise_explain.specs.Shown.{unread_head, wrong_head}
use Rattle.noise_lines.specs.Shown.{shown_text}
use Rattle.noise_explain.specs.VectorColumns.{IsLineColumn}
use Rattle.noise_explain.specs.declared.explanation.Explained.{Explained}
use Rattle.noise_explain.specs.declared.position.Position.{Position}

-- the text without the byte-order mark at its front, if one is there: the bytes 239, 187 and 191
abbrev pub without_mark : List ℕ → List ℕ
without_mark text = if starts_with nat_eq text (239 ∷ 187 ∷ 191 ∷ []) then drop 3 text else text

-- whether it is taken as that of a vector file: by its first word
abbrev pub is_vector_text : List ℕ → Bool
is_vector_text text = starts_with nat_eq (without_mark text) (codes "vector ")

-- the pattern of a file: the one that it spells, or else that of its protocol's name
abbrev pub IsPatternIn : Option Plan → Section → Plan → Type 0
IsPatternIn (Some block) protocol plan = plan ≡ block
IsPatternIn None protocol plan = IsNamed protocol plan

-- it has none: it spells none, and its protocol's name is of none
abbrev pub LacksPattern : Option Plan → Section → Type 0
LacksPattern block protocol = (block ≡ None) × (fault : Fault) × IsUnnamed protocol fault

-- the line of this number, wrong as one of this kind, is reported with its position
pub record ExplainsLine (name text : List ℕ) (number : ℕ) (kind : LineKind) (e : Explained) : Type 0 where
  pub position : Position
  pub line_is : position.line ≡ number
  pub at : IsLineColumn kind text number position.column
  pub status_is : e.status ≡ 2
  pub begins : TextBeginsWith (wrong_head name position (Line number kind)) e

-- a fault of a file as a whole is reported
pub record ReportsFault (name : List ℕ) (fault : Fault) (e : Explained) : Type 0 where
  pub status_is : e.status ≡ status_of fault
  pub begins : TextBeginsWith (unread_head name fault) e

-- the first two lines of what is said of a right vector file: its name, and its protocol's
abbrev pub vector_head : List ℕ → Section → List ℕ
vector_head name protocol =
    shown_text name ++ codes ": valid vector file\n" ++ codes "  protocol " ++ name_bytes protocol ++ codes "\n"

-- a right file of this protocol is reported
pub record ReportsVector (name : List ℕ) (protocol : Section) (e : Explained) : Type 0 where
  pub status_is : e.status ≡ 0
  pub begins : TextBeginsWith (vector_head name protocol) e
