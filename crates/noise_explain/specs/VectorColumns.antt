-- The columns of faults of vector files. They count from 1.
use Rattle.std.specs.Prelude.{⊤, ◌≡◌, ◌≢◌, ◌⊎◌, ◌||◌, ◌==◌, ℕ, ◌+◌, ◌-◌, ◌<◌, ◌≤◌, Bool, not, List, [], ◌∷◌, ◌++◌, Option, IfSome, IsTrue, bytes_eq, codes, decimal, drop, flat_map, length, take_while, if◌then◌else◌}
use Rattle.hex.specs.Hex.{encode_lower}
use Rattle.noise_keys.specs.declared.keys.Own.{Own}
use Rattle.noise_names.specs.Names.{Section}
use Rattle.noise_names.specs.Names as Names
use Rattle.noise_names.specs.Plan.{Plan}
use Rattle.noise_names.specs.Text.{Spells}
use Rattle.noise_names.specs.WrongText.{IsTextFault}
use Rattle.noise_names.specs.declared.faults.TextFault.{TextFault}
use Rattle.noise_names.specs.declared.token.Role.{Role}
use Rattle.noise_vectors.specs.Block.{itself}
use Rattle.noise_vectors.specs.Cuts.{AreCuts}
use Rattle.noise_vectors.specs.HexWord.{hex_of}
use Rattle.noise_vectors.specs.VectorFile.{AreBytes}
use Rattle.noise_vectors.specs.VectorText.{key_word, lengths_word, lines_of, own_word, role_word}
use Rattle.noise_vectors.specs.Words.{IsKey, lacks}
use Rattle.noise_vectors.specs.WrongLine.{Block}
use Rattle.noise_vectors.specs.declared.faults.LineKind.{LineKind}
use Rattle.noise_vectors.specs.declared.faults.LineKind.TheVariants as kinds
use Rattle.noise_explain.specs.Positions.{IsColumn, line_at, repeated, after_line}
use Rattle.noise_explain.specs.declared.shapes.Shape.{Shape}
use Rattle.noise_explain.specs.declared.shapes.Shape.TheVariants as shapes

-- ---- words

-- Whether a word is what this shape says: what the text of a right file has there, within its limits.
abbrev pub HasShape : Shape → List ℕ → Type 0
HasShape shapes.First w = ⊤
HasShape shapes.Name w = (name : Section) × Names.Names w name
HasShape shapes.Version w = IsTrue (bytes_eq w (codes "1") || bytes_eq w (codes "2"))
HasShape shapes.Kind w = IsTrue (bytes_eq w (codes "xor") || bytes_eq w (codes "table"))
HasShape shapes.Role w = (role : Role) × (w ≡ role_word role)
HasShape shapes.Own w = (own : Own) × (w ≡ own_word own)
HasShape shapes.Window w =
    IsTrue (bytes_eq w (codes "64") || (bytes_eq w (codes "256") || bytes_eq w (codes "1024")))
HasShape (shapes.Hex most) w = (bytes : List ℕ) × AreBytes most bytes × (w ≡ hex_of bytes)
HasShape shapes.Key w = (key : List ℕ) × IsKey key × (w ≡ encode_lower key)
HasShape shapes.MaybeKey w = (key : Option (List ℕ)) × IfSome key IsKey × (w ≡ key_word key)
HasShape (shapes.Number most) w = (n : ℕ) × (n ≤ most) × (w ≡ decimal n)
HasShape shapes.Cuts w = (cuts : List ℕ) × AreCuts cuts × (w ≡ lengths_word cuts)

-- ---- lines

-- the shapes of the words of an event that begins with this word, or of the line of the datagrams
abbrev pub event_shapes : List ℕ → List Shape
event_shapes first =
    if bytes_eq first (codes "say") then shapes.First ∷ shapes.Role ∷ shapes.Hex 65535 ∷ shapes.Cuts ∷ []
    else (if bytes_eq first (codes "deliver")
    then shapes.First ∷ shapes.Role ∷ shapes.Number 4294967295 ∷ shapes.Cuts ∷ []
    else (if bytes_eq first (codes "open") then shapes.First ∷ shapes.Role ∷ shapes.Number 4294967295 ∷ []
    else (if bytes_eq first (codes "write") || bytes_eq first (codes "seal")
    then shapes.First ∷ shapes.Role ∷ shapes.Hex 65535 ∷ []
    else (if bytes_eq first (codes "raw") || bytes_eq first (codes "foreign")
    then shapes.First ∷ shapes.Role ∷ shapes.Hex 131072 ∷ []
    else (if bytes_eq first (codes "datagrams") then shapes.First ∷ shapes.Window ∷ []
    else [])))))

-- these shapes, where the line begins as such a one does
abbrev pub only_if : Bool → List Shape → List Shape
only_if is_right ss = if is_right then ss else []

-- The shapes of the words of a line that has to be of this kind and begins with this word: none where no such line
-- begins so, or where its words aren't reported.
abbrev pub shapes_of : LineKind → List ℕ → List Shape
shapes_of kinds.Header first = only_if (bytes_eq first (codes "vector")) (shapes.First ∷ shapes.Version ∷ [])
shapes_of kinds.Protocol first = only_if (bytes_eq first (codes "protocol")) (shapes.First ∷ shapes.Name ∷ [])
shapes_of kinds.Prologue first = only_if (bytes_eq first (codes "prologue")) (shapes.First ∷ shapes.Hex 65535 ∷ [])
shapes_of kinds.Interval first =
    only_if (bytes_eq first (codes "interval")) (shapes.First ∷ shapes.Number 18446744073709551615 ∷ [])
shapes_of kinds.Psk first = only_if (bytes_eq first (codes "psk")) (shapes.First ∷ shapes.Key ∷ [])
shapes_of kinds.Keys first =
    only_if (bytes_eq first (codes "initiator") || bytes_eq first (codes "responder"))
    (shapes.First ∷ shapes.Kind ∷ shapes.MaybeKey ∷ shapes.MaybeKey ∷ [])
shapes_of kinds.Answer first =
    only_if (bytes_eq first (codes "answer")) (shapes.First ∷ shapes.Own ∷ shapes.Key ∷ shapes.Key ∷ [])
shapes_of kinds.Event first = event_shapes first
shapes_of kinds.Expect first = []
shapes_of kinds.Pattern first = []
shapes_of kinds.Ending first = []

-- ---- the columns of words

-- what stands before the first space (32)
abbrev pub first_word : List ℕ → List ℕ
first_word text = take_while (λ b. not (b == 32)) text

-- the word that begins so many bytes after the line's begin
abbrev pub word_from : List ℕ → ℕ → List ℕ
word_from line at = first_word (drop at line)

-- words, each with a space after it
abbrev pub spaced : List (List ℕ) → List ℕ
spaced words = flat_map (λ w. w ++ codes " ") words

-- each word has the shape that stands at its place; there may be more shapes
abbrev pub HaveShapes : List Shape → List (List ℕ) → Type 0
HaveShapes ss [] = ⊤
HaveShapes [] (w ∷ ws) = ⊥
HaveShapes (s ∷ ss) (w ∷ ws) = IsTrue (lacks 32 w) × HasShape s w × HaveShapes ss ws

-- The words before the column have their shapes, and the one that begins there hasn't, or is one too many.
pub record IsWrongWord (ss : List Shape) (line : List ℕ) (column : ℕ) : Type 0 where
  pub before : List (List ℕ)
  pub rest : List ℕ
  pub line_is : line ≡ spaced before ++ rest
  pub right : HaveShapes ss before
  pub wrong : ¬ HaveShapes ss (before ++ first_word rest ∷ [])
  pub column_is : column ≡ length (spaced before) + 1

-- the line ends before the column: its words have their shapes, and one is missing
pub record IsShortLine (ss : List Shape) (line : List ℕ) (column : ℕ) : Type 0 where
  pub words : List (List ℕ)
  pub line_is : line ++ codes " " ≡ spaced words
  pub right : HaveShapes ss words
  pub missing : length words < length ss
  pub column_is : column ≡ length line + 1

-- its words have their shapes, and none is missing, so that it may not stand there: the column is the first
pub record IsWholeLine (ss : List Shape) (line : List ℕ) (column : ℕ) : Type 0 where
  pub words : List (List ℕ)
  pub line_is : line ++ codes " " ≡ spaced words
  pub right : HaveShapes ss words
  pub whole : length words ≡ length ss
  pub column_is : column ≡ 1

abbrev pub IsColumnBy : List Shape → List ℕ → ℕ → Type 0
IsColumnBy ss line column = IsWrongWord ss line column ⊎ IsShortLine ss line column ⊎ IsWholeLine ss line column

abbrev pub IsWordColumn : LineKind → List ℕ → ℕ → Type 0
IsWordColumn kind line column = IsColumnBy (shapes_of kind (first_word line)) line column

-- ---- the columns of lines

-- after the first two lines these stand before the next line `end`
abbrev pub IsBlock : List ℕ → List ℕ → Type 0
IsBlock text lines = (block : Block (repeated after_line 2 text)) × (lines ≡ lines_of itself block.lines [])

-- with them as the text of a pattern this is its fault
abbrev pub IsBlockFault : List ℕ → TextFault → Type 0
IsBlockFault text fault = (lines : List ℕ) × IsBlock text lines × IsTextFault lines fault

-- they are the text of a pattern, or there is no line `end`
abbrev pub HasNoBlockFault : List ℕ → Type 0
HasNoBlockFault text =
    ((lines : List ℕ) × IsBlock text lines × (p : Plan) × Spells lines p)
    ⊎ ((lines : List ℕ) → ¬ IsBlock text lines)

-- Of a line of the pattern that a file spells: the column of the fault that its lines have as a pattern text, if that
-- is in this line, or else the first.
abbrev pub IsBlockColumn : List ℕ → ℕ → ℕ → Type 0
IsBlockColumn text number column =
    ((fault : TextFault) × IsBlockFault text fault × (fault.line ≡ number - 2)
    × IsColumn fault.kind fault.line (line_at text number) column)
    ⊎ ((fault : TextFault) × IsBlockFault text fault × (fault.line ≢ number - 2) × (column ≡ 1))
    ⊎ (HasNoBlockFault text × (column ≡ 1))

-- The column of a fault of this kind in the line of this number. A line without its line feed, or a missing one, is
-- reported at its end.
abbrev pub IsLineColumn : LineKind → List ℕ → ℕ → ℕ → Type 0
IsLineColumn kinds.Pattern text number column = IsBlockColumn text number column
IsLineColumn kinds.Ending text number column = column ≡ length (line_at text number) + 1
IsLineColumn kind text number column = IsWordColumn kind (line_at text number) column
