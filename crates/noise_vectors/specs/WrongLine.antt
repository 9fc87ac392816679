-- Which line of a wrong file is reported. A line of the pattern that a file spells is reported as it is of a pattern
-- text.
use Rattle.std.specs.Prelude.{⊤, ◌≡◌, ◌≢◌, ◌⊎◌, ◌+◌, IsFalse, IsTrue, ℕ, List, [], ◌∷◌, ◌++◌, Bool, false, codes, decimal, nat_eq, None}
use Rattle.std.specs.List.{All, starts_with}
use Rattle.noise_names.specs.declared.faults.TextFault.{TextFault}
use Rattle.noise_names.specs.declared.token.Role.TheVariants.{Initiator, Responder}
use Rattle.noise_names.specs.Fundamental.{fundamental_of}
use Rattle.noise_names.specs.Names.{IsSection, Section, name_bytes}
use Rattle.noise_names.specs.WrongText.{IsEnded, IsTextFault, heading_of, line_feeds}
use Rattle.noise_vectors.specs.Block.{IsInner, itself}
use Rattle.noise_vectors.specs.HexWord.{hex_of}
use Rattle.noise_vectors.specs.SameFile.{expected_of}
use Rattle.noise_vectors.specs.VectorFile.{IsAllowedFile, IsVectorFile}
use Rattle.noise_vectors.specs.VectorText.{block_text, header_words, is_second, line_then, lines_of, party_text, psk_words, file_text}
use Rattle.noise_vectors.specs.Words.{lacks}
use Rattle.noise_vectors.specs.declared.faults.LineKind.TheVariants as kinds
use Rattle.noise_vectors.specs.declared.faults.VectorFault.{VectorFault}
use Rattle.noise_vectors.specs.declared.faults.VectorFault.TheVariants.{Line, Memory}
use Rattle.noise_vectors.specs.declared.file_keys.FileKeys.{FileKeys}
use Rattle.noise_vectors.specs.declared.file_keys.FileKeys.TheVariants.{Xor, Table}
use Rattle.noise_vectors.specs.declared.vector.AllowedEvents.{AllowedEvents}
use Rattle.noise_vectors.specs.declared.vector.AllowedEvents.TheVariants.{VersionOne}
use Rattle.noise_vectors.specs.declared.vector.VectorFile.{VectorFile}

-- the text's first line: a line feed or the text's end follows it, and before the text's end there is at least one byte
abbrev pub IsFirstLine : List ℕ → List ℕ → Type 0
IsFirstLine words text = IsTrue (lacks 10 words)
    × (((text ≡ words) × ¬ (words ≡ [])) ⊎ ((rest : List ℕ) × (text ≡ line_then words rest)))

-- ---- places in a file

-- the lines of a file before its protocol, and the text after them
abbrev pub up_to_protocol : VectorFile → List ℕ → List ℕ
up_to_protocol file rest = line_then (header_words (is_second file.version)) rest

-- those before its prologue
abbrev pub up_to_prologue : VectorFile → List ℕ → List ℕ
up_to_prologue file rest =
    up_to_protocol file (line_then (codes "protocol " ++ name_bytes file.protocol) (block_text file.block rest))

-- those before its interval
abbrev pub up_to_interval : VectorFile → List ℕ → List ℕ
up_to_interval file rest = up_to_prologue file (line_then (codes "prologue " ++ hex_of file.prologue.items) rest)

-- those before its initiator's keys, where a psk line too may stand
abbrev pub up_to_initiator : VectorFile → List ℕ → List ℕ
up_to_initiator file rest =
    up_to_interval file
    (line_then (codes "interval " ++ decimal file.interval) (lines_of psk_words file.psks.items rest))

-- those before its responder's keys, where an answer of the initiator's table too may stand
abbrev pub up_to_responder : VectorFile → List ℕ → List ℕ
up_to_responder file rest = up_to_initiator file (party_text Initiator file.initiator rest)

-- those before its events, where an answer of the responder's table too may stand
abbrev pub up_to_events : VectorFile → List ℕ → List ℕ
up_to_events file rest = up_to_responder file (party_text Responder file.responder rest)

-- all of them
abbrev pub up_to_end : VectorFile → List ℕ → List ℕ
up_to_end file rest = file_text file ++ rest

-- whether the line begins as that of a psk does
abbrev pub is_psk_line : List ℕ → Bool
is_psk_line words = starts_with nat_eq words (codes "psk ")

-- whether the line begins as an answer does, which may stand after these keys
abbrev pub is_answer_line : FileKeys → List ℕ → Bool
is_answer_line (Xor keys) words = false
is_answer_line (Table keys) words = starts_with nat_eq words (codes "answer ")

-- ---- the line that is reported

-- Some right file begins with the lines before the line of this number, up to where the line of the fault's kind has to
-- stand. With that line too no right file begins.
pub record IsReportedLine (allowed : AllowedEvents) (text : List ℕ) (number : ℕ)
    (up_to : VectorFile → List ℕ → List ℕ) : Type 0 where
  pub file : VectorFile
  pub is_file : IsVectorFile file
  pub is_allowed : IsAllowedFile allowed file
  pub begun : (rest : List ℕ) × (file_text file ≡ up_to file rest)
  pub reported : List ℕ  -- the line
  pub left : List ℕ  -- the text from that line on
  pub text_is : text ≡ up_to file left
  pub is_first : IsFirstLine reported left
  pub counted : number ≡ line_feeds (up_to file []) + 1
  pub wrong : (other : VectorFile) (rest : List ℕ) → IsVectorFile other → IsAllowedFile allowed other
      → ¬ (file_text other ≡ up_to file (line_then reported rest))

-- the keys of a party, where neither a psk nor an answer begins
abbrev pub IsReportedKeys : AllowedEvents → List ℕ → ℕ → Type 0
IsReportedKeys allowed text number =
    ((it : IsReportedLine allowed text number up_to_initiator) × IsFalse (is_psk_line it.reported))
    ⊎ ((it : IsReportedLine allowed text number up_to_responder)
    × IsFalse (is_answer_line it.file.initiator it.reported))

-- an answer of a party's table
abbrev pub IsReportedAnswer : AllowedEvents → List ℕ → ℕ → Type 0
IsReportedAnswer allowed text number =
    ((it : IsReportedLine allowed text number up_to_responder) × IsTrue (is_answer_line it.file.initiator it.reported))
    ⊎ ((it : IsReportedLine allowed text number up_to_events) × IsTrue (is_answer_line it.file.responder it.reported))

-- a line after the responder's that is no answer of its table, before any line of what is expected
pub record IsReportedEvent (allowed : AllowedEvents) (text : List ℕ) (number : ℕ) : Type 0 where
  pub it : IsReportedLine allowed text number up_to_end
  pub none_expected : expected_of it.file.version ≡ []
  pub no_answer : file_text it.file ≡ up_to_events it.file [] → IsFalse (is_answer_line it.file.responder it.reported)

-- a line after one of what is expected
abbrev pub IsReportedExpect : AllowedEvents → List ℕ → ℕ → Type 0
IsReportedExpect allowed text number =
    (it : IsReportedLine allowed text number up_to_end) × (expected_of it.file.version ≢ [])

-- The text ends too early: some right file begins with it and goes on, with the line feed of the text's last line or
-- with a further line. The number is that of this line.
pub record IsCutFile (allowed : AllowedEvents) (text : List ℕ) (number : ℕ) : Type 0 where
  pub file : VectorFile
  pub is_file : IsVectorFile file
  pub is_allowed : IsAllowedFile allowed file
  pub next : ℕ
  pub rest : List ℕ
  pub begun : file_text file ≡ text ++ next ∷ rest
  pub ended : (next ≡ 10) ⊎ IsEnded text
  pub counted : number ≡ line_feeds text + 1

-- the text begins with a header that is allowed and a protocol whose base is of no fundamental pattern
pub record HasOwnName (allowed : AllowedEvents) (text : List ℕ) : Type 0 where
  pub second : Bool
  pub is_allowed : allowed ≡ VersionOne → second ≡ false
  pub name : Section
  pub is_section : IsSection name
  pub unknown : fundamental_of name.base ≡ None
  pub left : List ℕ
  pub text_is : text ≡ line_then (header_words second) (line_then (codes "protocol " ++ name_bytes name) left)

-- The lines of that pattern: those before the next line `end`. This may be the text's last one, without a line feed.
pub record Block (left : List ℕ) : Type 0 where
  pub lines : List (List ℕ)
  pub inner : All IsInner lines
  pub after : List ℕ  -- the text from the line `end` on
  pub ends : IsFirstLine (codes "end") after
  pub left_is : left ≡ lines_of itself lines after

-- The text ends before that pattern does: no line `end` is left, neither with its line feed nor without. The number is
-- that of the text's last line, if it has no line feed, or of a further one.
pub record IsOpenBlock (allowed : AllowedEvents) (text : List ℕ) (number : ℕ) : Type 0 where
  pub whole : List ℕ
  pub whole_is : (whole ≡ text) ⊎ (whole ≡ text ++ codes "\n")
  pub it : HasOwnName allowed whole
  pub open_ : ¬ Block it.left
  pub counted : number ≡ line_feeds text + 1

-- the first of them is the pattern section of the name, and a colon
abbrev pub HasHeading : Section → List ℕ → Type 0
HasHeading name block = (rest : List ℕ) × (block ≡ line_then (heading_of name) rest)

-- Which of those lines is wrong, counted from 1: the first, if it isn't that heading; else the one that is reported of
-- them as the text of a pattern.
abbrev pub IsWrongIn : Section → List ℕ → ℕ → Type 0
IsWrongIn name block number =
    (¬ HasHeading name block × (number ≡ 1))
    ⊎ (HasHeading name block × ((fault : TextFault) × IsTextFault block fault × (number ≡ fault.line)))

-- A line of that pattern is wrong. The header and the line of the protocol stand before its lines.
pub record IsReportedPattern (allowed : AllowedEvents) (text : List ℕ) (number : ℕ) : Type 0 where
  pub it : HasOwnName allowed text
  pub block : Block it.left
  pub place : ℕ
  pub wrong : IsWrongIn it.name (lines_of itself block.lines []) place
  pub counted : number ≡ 2 + place

-- what a fault reports of the text
abbrev pub IsReported : AllowedEvents → List ℕ → VectorFault → Type 0
IsReported allowed text (Line number kinds.Header) = IsReportedLine allowed text number (λ file rest. rest)
IsReported allowed text (Line number kinds.Protocol) = IsReportedLine allowed text number up_to_protocol
IsReported allowed text (Line number kinds.Pattern) = IsReportedPattern allowed text number
IsReported allowed text (Line number kinds.Prologue) = IsReportedLine allowed text number up_to_prologue
IsReported allowed text (Line number kinds.Interval) = IsReportedLine allowed text number up_to_interval
IsReported allowed text (Line number kinds.Psk) =
    (it : IsReportedLine allowed text number up_to_initiator) × IsTrue (is_psk_line it.reported)
IsReported allowed text (Line number kinds.Keys) = IsReportedKeys allowed text number
IsReported allowed text (Line number kinds.Answer) = IsReportedAnswer allowed text number
IsReported allowed text (Line number kinds.Event) = IsReportedEvent allowed text number
IsReported allowed text (Line number kinds.Expect) = IsReportedExpect allowed text number
IsReported allowed text (Line number kinds.Ending) = IsCutFile allowed text number ⊎ IsOpenBlock allowed text number
IsReported allowed text Memory = ⊤
