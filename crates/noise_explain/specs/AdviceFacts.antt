-- What each sentence on a wrong pattern text asserts of that text.
use Rattle.std.specs.Prelude.{⊤, ◌≡◌, ◌≢◌, ◌≤◌, ◌<◌, ◌⊎◌, ℕ, ◌-◌, ◌==◌, ◌||◌, Bool, false, IsFalse, IsTrue, List, [], ◌∷◌, ◌++◌, Some, bytes_eq, not, codes, drop, length, nat_eq, slice_get, take_while}
use Rattle.std.specs.Char.{is_ascii_alphabetic}
use Rattle.std.specs.List.{filter, list_any, slice_split, starts_with}
use Rattle.noise_names.specs.declared.faults.TextFault.{TextFault}
use Rattle.noise_names.specs.declared.faults.TextFaultKind.TheVariants as kinds
use Rattle.noise_names.specs.declared.token.Token.{Token}
use Rattle.noise_names.specs.Names.{base_front, is_digit, is_upper}
use Rattle.noise_names.specs.Reading.{is_lower}
use Rattle.noise_names.specs.Text.{word_of, words}
use Rattle.noise_names.specs.WrongText.{dots}
use Rattle.noise_explain.specs.Positions.{IsWrongPiece, heading_column, line_at}
use Rattle.noise_explain.specs.declared.advice.Advice.{Advice}
use Rattle.noise_explain.specs.declared.advice.Advice.TheVariants as advices

-- ---- words of a line

-- whether the bytes begin with this text
abbrev pub begins : List ℕ → List ℕ → Bool
begins bytes front = starts_with nat_eq bytes front

-- whether this byte stands among them
abbrev pub has : List ℕ → ℕ → Bool
has bytes byte = list_any (λ b. b == byte) bytes

-- whether the first of them is of a kind; there is none in []
abbrev pub first_is : (ℕ → Bool) → List ℕ → Bool
first_is kind [] = false
first_is kind (b ∷ bs) = kind b

-- the last of them is this one
abbrev pub IsLast : List ℕ → ℕ → Type 0
IsLast bytes byte = slice_get bytes (length bytes - 1) ≡ Some byte

-- a line after the spaces (32) before it
abbrev pub after_spaces : List ℕ → List ℕ
after_spaces line = drop (length (take_while (λ b. b == 32) line)) line

-- what a line has from a column on
abbrev pub piece_at : List ℕ → ℕ → List ℕ
piece_at line column = drop (column - 1) line

-- the letters that a piece begins with, and what follows them
abbrev pub letters : List ℕ → List ℕ
letters piece = take_while is_ascii_alphabetic piece

abbrev pub after_letters : List ℕ → List ℕ
after_letters piece = drop (length (letters piece)) piece

-- whether a line has a static key alone, or both keys of a party, after its arrow and the spaces round it
abbrev pub is_keys : List ℕ → Bool
is_keys line = bytes_eq (drop 5 line) (codes "s") || bytes_eq (drop 5 line) (codes "e, s")

-- whether two dots stand after its spaces
abbrev pub is_dotted : List ℕ → Bool
is_dotted line = begins (after_spaces line) (codes "..")

-- how many of the words of a list, with a space between two, don't begin with psk
abbrev pub own_count : List ℕ → ℕ
own_count list = length (filter (λ word. not (begins word (codes "psk"))) (slice_split (λ b. b == 32) list))

-- ---- the sentences

-- what the lines of a vector file begin with, below its first
abbrev pub vector_words : List (List ℕ)
vector_words = codes "protocol " ∷ codes "prologue " ∷ codes "interval " ∷ codes "initiator " ∷ codes "responder " ∷ []

-- What the sentence asserts of a first line with a fault at this column. The name is too long, or the colon is missing,
-- if the column is right.
abbrev pub HeadingSays : Advice → List ℕ → ℕ → Type 0
HeadingSays advices.Heading line column = ⊤
HeadingSays advices.HeadingMissing line column =
    IsTrue (begins (after_spaces line) (codes "->") || begins (after_spaces line) (codes "<-"))
HeadingSays advices.VectorHeading line column = IsTrue (list_any (begins line) vector_words)
HeadingSays advices.HeadingIndented line column = IsTrue (first_is (λ b. b == 32) line)
HeadingSays advices.Modifier line column =
    IsTrue (begins (piece_at line column) (codes "fallback") || begins (piece_at line column) (codes "hfs"))
HeadingSays advices.NameCase line column = IsTrue (first_is is_lower (piece_at line column))
HeadingSays advices.NameLength line column = column ≡ heading_column line → 8 < length (base_front line)
HeadingSays advices.NameFirst line column = IsTrue (first_is is_digit line)
HeadingSays advices.ColonMissing line column = column ≡ heading_column line → IsFalse (has line 58)
HeadingSays advices.Modifiers line column = IsTrue (begins (piece_at line column) (codes "psk"))
HeadingSays advice line column = ⊥

-- the piece is no token, alone or with a comma and a space after it
abbrev pub IsNoToken : List ℕ → Type 0
IsNoToken piece = (t : Token) → (piece ≢ word_of t) × ((more : List ℕ) → piece ≢ word_of t ++ (codes ", " ++ more))

-- no tokens make up the list
abbrev pub IsNoList : List ℕ → Type 0
IsNoList list = (tokens : List Token) → tokens ≢ [] → list ≢ words tokens

-- What it asserts of the piece of a line that has this column. It is no token if the column is right, and the list is
-- wrong.
abbrev pub PieceSays : Advice → List ℕ → ℕ → Type 0
PieceSays advices.Token line column =
    IsWrongPiece (drop 5 line) column → IsNoList (drop 5 line) → IsNoToken (piece_at line column)
PieceSays advices.TokenCase line column = IsTrue (list_any is_upper (letters (piece_at line column)))
PieceSays advices.TokensJoined line column =
    IsTrue (first_is (λ b. b == 32 || b == 44) (after_letters (piece_at line column)))
    × IsFalse (begins (after_letters (piece_at line column)) (codes ", "))
PieceSays advices.TokenMissing line column = IsFalse (first_is is_ascii_alphabetic (piece_at line column))
PieceSays advice line column = ⊥

-- what it asserts of a line with a wrong front
abbrev pub ArrowSays : Advice → List ℕ → Type 0
ArrowSays advices.Arrow line = ⊤
ArrowSays advices.ArrowCharacter line = IsTrue (first_is (λ b. b == 226) (after_spaces line))
ArrowSays advices.Dots line = IsTrue (first_is (λ b. b == 46) (after_spaces line))
ArrowSays advice line = ⊥

-- What it asserts of any line: a byte-order mark (239, 187, 191) at its front, a tab (9) or a # (35) in it, a carriage
-- return (13) or a space (32) at its end. That this is the first line, or that a line feed follows, is not said here.
abbrev pub LineSays : Advice → List ℕ → Type 0
LineSays advices.ByteOrderMark line = IsTrue (begins line (239 ∷ 187 ∷ 191 ∷ []))
LineSays advices.Tab line = IsTrue (has line 9)
LineSays advices.CarriageReturn line = IsLast line 13
LineSays advices.SpaceAtEnd line = IsLast line 32
LineSays advices.Empty line = line ≡ []
LineSays advices.Comment line = IsTrue (has line 35)
LineSays advice line = ⊥

-- what it asserts where it is another party's turn
abbrev pub TurnSays : Advice → List ℕ → ℕ → Type 0
TurnSays advices.Turn text number = ⊤
TurnSays advices.Dots text number = IsTrue (is_dotted (line_at text 3) || is_dotted (line_at text 4))
TurnSays advices.DotsMissing text number =
    (number ≡ 2) × IsTrue (is_keys (line_at text 2))
    × IsFalse (is_dotted (line_at text 3) || is_dotted (line_at text 4))
TurnSays advice text number = ⊥

-- what it asserts of a message that has these words after its arrow
abbrev pub LimitSays : Advice → List ℕ → Type 0
LimitSays advices.PskAlone list = own_count list ≡ 0
LimitSays advices.NinthMessage list = (1 ≤ own_count list) × (own_count list ≤ 8)
LimitSays advices.ManyTokens list = 8 < own_count list
LimitSays advice list = ⊥

-- what it asserts of faults of other kinds
abbrev pub FaultSays : Advice → TextFault → List ℕ → Type 0
FaultSays advices.PreMessage fault line = fault.kind ≡ kinds.PreMessage
FaultSays advices.DotsAlone fault line = line ≡ dots
FaultSays advices.PskTokens fault line = (fault.kind ≡ kinds.PskPlace) × (fault.line ≢ 1)
FaultSays advices.PskBeyond fault line = (fault.kind ≡ kinds.PskPlace) × (fault.line ≡ 1)
FaultSays advices.NameTaken fault line = fault.kind ≡ kinds.NameTaken
FaultSays advices.LineFeedMissing fault line = (fault.kind ≡ kinds.Ending) × (line ≢ [])
FaultSays advices.MessageMissing fault line = (fault.kind ≡ kinds.Ending) × (line ≡ [])
FaultSays advice fault line = ⊥

-- What the first sentence asserts of a text that has this fault at this column of its line: what it asserts of any
-- line, or of one with a fault of that kind.
abbrev pub Asserts : Advice → List ℕ → TextFault → ℕ → Type 0
Asserts advice text fault column =
    LineSays advice (line_at text fault.line)
    ⊎ ((fault.kind ≡ kinds.Heading) × HeadingSays advice (line_at text fault.line) column)
    ⊎ ((fault.kind ≡ kinds.Arrow) × ArrowSays advice (line_at text fault.line))
    ⊎ ((fault.kind ≡ kinds.Token) × PieceSays advice (line_at text fault.line) column)
    ⊎ ((fault.kind ≡ kinds.Turn) × TurnSays advice text fault.line)
    ⊎ ((fault.kind ≡ kinds.Limit) × LimitSays advice (drop 5 (line_at text fault.line)))
    ⊎ FaultSays advice fault (line_at text fault.line)
