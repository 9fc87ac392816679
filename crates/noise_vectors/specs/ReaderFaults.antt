-- What the readers of a file's parts report.
use Rattle.std.specs.Prelude.{◌≡◌, ◌⊎◌, ◌+◌, ◌<◌, ◌≤◌, ◌^◌, IsFalse, IsTrue, ℕ, List, [], ◌∷◌, ◌++◌, Bool, true, false, codes, decimal, length, nat_eq, IfSome, Option, None}
use Rattle.std.specs.List.{All, starts_with}
use Rattle.noise_events.specs.declared.datagram_event.DatagramEvent.{DatagramEvent}
use Rattle.noise_events.specs.declared.event.Event.{Event}
use Rattle.noise_events.specs.declared.window.Window.{Window}
use Rattle.noise_keys.specs.Table.{TableEntry}
use Rattle.noise_keys.specs.Table as Tables
use Rattle.noise_names.specs.Limits.{IsPattern}
use Rattle.noise_names.specs.Names.{IsSection, Section, name_bytes}
use Rattle.noise_names.specs.Plan.{Plan}
use Rattle.noise_names.specs.Text.{text_of as pattern_text}
use Rattle.noise_names.specs.declared.token.Role.{Role}
use Rattle.noise_vectors.specs.Block.{itself}
use Rattle.noise_vectors.specs.HexWord.{hex_of}
use Rattle.noise_vectors.specs.OwnPattern.{HasName}
use Rattle.noise_vectors.specs.VectorFile.{AreKeys, IsAllowed, IsDatagramEvent, IsEntry, IsEvent, IsExpected, IsShort}
use Rattle.noise_vectors.specs.VectorText.{AfterDatagrams, AfterEvents, answer_words, datagram_event_words, datagrams_text, event_words, expect_line}
use Rattle.noise_vectors.specs.VectorText.{header_words, line_then, lines_of, party_text, psk_words, window_words}
use Rattle.noise_vectors.specs.Words.{IsKey}
use Rattle.noise_names.specs.WrongText.{line_feeds}
use Rattle.noise_vectors.specs.WrongLine.{Block, IsFirstLine, IsWrongIn}
use Rattle.noise_vectors.specs.declared.faults.LineKind.{LineKind}
use Rattle.noise_vectors.specs.declared.faults.LineKind.TheVariants as kinds
use Rattle.noise_vectors.specs.declared.faults.VectorFault.{VectorFault}
use Rattle.noise_vectors.specs.declared.faults.VectorFault.TheVariants.{Line, Memory}
use Rattle.noise_vectors.specs.declared.file_keys.FileKeys.{FileKeys}
use Rattle.noise_vectors.specs.declared.file_keys.FileKeys.TheVariants.{Table}
use Rattle.noise_vectors.specs.declared.vector.AllowedEvents.{AllowedEvents}
use Rattle.noise_vectors.specs.declared.vector.AllowedEvents.TheVariants.{SayOnly, VersionOne}
use Rattle.noise_vectors.specs.declared.vector.FileDatagrams.{FileDatagrams}

-- In all of these `total` is the number of line feeds in the whole text: that of the lines that were read, and of those
-- that are left.

-- the text's first line is the one of this number, and wrong, so that the fault is of this kind
pub record IsWrongFirst (left : List ℕ) (total : ℕ) (kind : LineKind) (fault : VectorFault) : Type 0 where
  pub reported : List ℕ
  pub is_first : IsFirstLine reported left
  pub number : ℕ
  pub counted : number + line_feeds left ≡ total + 1
  pub fault_is : fault ≡ Line number kind

-- ---- one line

abbrev pub IsHeaderLine : AllowedEvents → List ℕ → Type 0
IsHeaderLine allowed words = (second : Bool) × (allowed ≡ VersionOne → second ≡ false) × (words ≡ header_words second)

abbrev pub IsProtocolLine : List ℕ → Type 0
IsProtocolLine words = (name : Section) × IsSection name × (words ≡ codes "protocol " ++ name_bytes name)

abbrev pub IsPrologueLine : List ℕ → Type 0
IsPrologueLine words = (bytes : List ℕ) × IsShort bytes × (words ≡ codes "prologue " ++ hex_of bytes)

abbrev pub IsIntervalLine : List ℕ → Type 0
IsIntervalLine words = (interval : ℕ) × (interval < 2 ^ 64) × (words ≡ codes "interval " ++ decimal interval)

-- the text ends before the line, or within it
abbrev pub IsCutLine : (List ℕ → Type 0) → List ℕ → Type 0
IsCutLine IsGood text = (text ≡ []) ⊎ IsGood text

-- the text's first line is no such line; or the text ends there, or memory ran out
abbrev pub ReportsLine : (List ℕ → Type 0) → List ℕ → ℕ → LineKind → VectorFault → Type 0
ReportsLine IsGood text total kind fault =
    (fault ≡ Memory) ⊎ ((fault ≡ Line (total + 1) kinds.Ending) × IsCutLine IsGood text)
    ⊎ ((it : IsWrongFirst text total kind fault) × ¬ IsGood it.reported)

-- ---- lines of one kind

-- lines of one kind that stand together
pub record Listed (A : Type 0) : Type 1 where
  pub words : A → List ℕ
  pub Good : A → Type 0
  pub Few : ℕ → Type 0  -- so many may stand
  pub Full : ℕ → Type 0  -- after so many no further one may
  pub Over : List ℕ → Type 0  -- the text after them
  pub kind : List A → LineKind  -- of a wrong line after these

-- the next line after these is wrong
pub record IsWrongAfter {A : Type 0} (of : Listed A) (from : List ℕ) (total : ℕ) (fault : VectorFault) : Type 0 where
  pub done : List A
  pub are : All of.Good done
  pub few : of.Few (length done)
  pub left : List ℕ
  pub text_is : from ≡ lines_of of.words done left
  pub stands : ¬ of.Over left
  pub it : IsWrongFirst left total (of.kind done) fault
  pub full : (x : A) → of.Good x → it.reported ≡ of.words x → of.Full (length done)

-- the text ends within the last of these
pub record IsCutAfter {A : Type 0} (of : Listed A) (from : List ℕ) : Type 0 where
  pub done : List A
  pub are : All of.Good done
  pub few : of.Few (length done)
  pub text_is : from ++ codes "\n" ≡ lines_of of.words done []

abbrev pub ReportsAfter : {A : Type 0} → Listed A → List ℕ → ℕ → VectorFault → Type 0
ReportsAfter of from total fault =
    (fault ≡ Memory) ⊎ ((fault ≡ Line (total + 1) kinds.Ending) × IsCutAfter of from) ⊎ IsWrongAfter of from total fault

abbrev pub psk_lines : Listed (List ℕ)
psk_lines = record {
  words = psk_words;
  Good = IsKey;
  Few = λ n. n ≤ 9;
  Full = λ n. n ≡ 9;
  Over = λ rest. IsFalse (starts_with nat_eq rest (codes "psk "));
  kind = λ done. kinds.Psk;
}

abbrev pub answer_lines : Listed TableEntry
answer_lines = record {
  words = answer_words;
  Good = IsEntry;
  Few = λ n. n ≤ 8;
  Full = λ n. n ≡ 8;
  Over = λ rest. IsFalse (starts_with nat_eq rest (codes "answer "));
  kind = λ done. kinds.Answer;
}

abbrev pub event_lines : AllowedEvents → Listed Event
event_lines allowed = record {
  words = event_words;
  Good = λ event. IsEvent event × IsAllowed allowed event;
  Few = λ n. n < 2 ^ 63;
  Full = λ n. ⊥;
  Over = AfterEvents;
  kind = λ done. kinds.Event;
}

abbrev pub datagram_lines : Listed DatagramEvent
datagram_lines = record {
  words = datagram_event_words;
  Good = IsDatagramEvent;
  Few = λ n. n < 2 ^ 63;
  Full = λ n. ⊥;
  Over = AfterDatagrams;
  kind = λ done. kinds.Event;
}

-- the first wrong line of what is expected is reported as one of the events
abbrev pub expect_kind : List (List ℕ) → LineKind
expect_kind [] = kinds.Event
expect_kind (words ∷ more) = kinds.Expect

abbrev pub expect_lines : Listed (List ℕ)
expect_lines = record {
  words = expect_line;
  Good = λ words. IsExpected words × (length words < 2 ^ 63);
  Few = λ n. n < 2 ^ 63;
  Full = λ n. ⊥;
  Over = λ rest. rest ≡ [];
  kind = expect_kind;
}

-- ---- a party

-- the line after these answers is a wrong one, or a ninth
pub record IsWrongAnswer (role : Role) (from : List ℕ) (total : ℕ) (fault : VectorFault) : Type 0 where
  pub table : Tables.Table
  pub are : AreKeys (Table table)
  pub left : List ℕ
  pub text_is : from ≡ party_text role (Table table) left
  pub begun : IsTrue (starts_with nat_eq left (codes "answer "))
  pub it : IsWrongFirst left total kinds.Answer fault
  pub full : (entry : TableEntry) → IsEntry entry → it.reported ≡ answer_words entry → length table.entries ≡ 8

-- the text's first line is none of the party's
abbrev pub IsWrongParty : Role → List ℕ → ℕ → VectorFault → Type 0
IsWrongParty role from total fault =
    (it : IsWrongFirst from total kinds.Keys fault)
    × ((keys : FileKeys) (rest after : List ℕ) → AreKeys keys
    → ¬ (line_then it.reported after ≡ party_text role keys rest))

-- the text ends before the party's lines, or within the last of them
abbrev pub IsCutParty : Role → List ℕ → Type 0
IsCutParty role from = (from ≡ []) ⊎ ((keys : FileKeys) × AreKeys keys × (from ++ codes "\n" ≡ party_text role keys []))

abbrev pub ReportsParty : Role → List ℕ → ℕ → VectorFault → Type 0
ReportsParty role from total fault =
    (fault ≡ Memory)
    ⊎ ((fault ≡ Line (total + 1) kinds.Ending) × IsCutParty role from)
    ⊎ IsWrongParty role from total fault
    ⊎ IsWrongAnswer role from total fault

-- ---- what only version 2 has

-- a line that begins as that of the datagrams is a wrong one, or not allowed
pub record IsWrongWindow (allowed : AllowedEvents) (from : List ℕ) (total : ℕ) (fault : VectorFault) : Type 0 where
  pub begun : IsTrue (starts_with nat_eq from (codes "datagrams "))
  pub it : IsWrongFirst from total kinds.Event fault
  pub none : (window : Window) → it.reported ≡ window_words window → allowed ≡ SayOnly

-- an event of the datagrams is
pub record IsWrongDatagram (allowed : AllowedEvents) (from : List ℕ) (total : ℕ) (fault : VectorFault) : Type 0 where
  pub window : Window
  pub is_allowed : ¬ (allowed ≡ SayOnly)
  pub after : List ℕ
  pub text_is : from ≡ line_then (window_words window) after
  pub it : IsWrongAfter datagram_lines after total fault

-- the text ends within the last line of the datagrams
pub record IsCutDatagrams (allowed : AllowedEvents) (from : List ℕ) : Type 0 where
  pub window : Window
  pub is_allowed : ¬ (allowed ≡ SayOnly)
  pub events : List DatagramEvent
  pub are : All IsDatagramEvent events
  pub few : length events < 2 ^ 63
  pub text_is : from ++ codes "\n" ≡ line_then (window_words window) (lines_of datagram_event_words events [])

abbrev pub ReportsDatagrams : AllowedEvents → List ℕ → ℕ → VectorFault → Type 0
ReportsDatagrams allowed from total fault =
    (fault ≡ Memory) ⊎ ((fault ≡ Line (total + 1) kinds.Ending) × IsCutDatagrams allowed from)
    ⊎ IsWrongWindow allowed from total fault ⊎ IsWrongDatagram allowed from total fault

-- a line of what is expected is reported, after these datagrams
pub record ReportsExpected (allowed : AllowedEvents) (from : List ℕ) (total : ℕ) (fault : VectorFault) : Type 0 where
  pub datagrams : Option FileDatagrams
  pub are : IfSome datagrams (λ datagrams. All IsDatagramEvent datagrams.events.items)
  pub is_allowed : allowed ≡ SayOnly → datagrams ≡ None
  pub after : List ℕ
  pub text_is : from ≡ datagrams_text datagrams after
  pub stands : AfterDatagrams after
  pub it : ReportsAfter expect_lines after total fault

-- in version 1 any line is wrong
abbrev pub ReportsVersion : AllowedEvents → Bool → List ℕ → ℕ → VectorFault → Type 0
ReportsVersion allowed second from total fault =
    ((second ≡ false) × ¬ (from ≡ []) × IsWrongFirst from total kinds.Event fault)
    ⊎ ((second ≡ true) × (ReportsDatagrams allowed from total fault ⊎ ReportsExpected allowed from total fault))

-- ---- the pattern

-- the text ends where no line `end` is left
abbrev pub ReportsOpen : List ℕ → ℕ → VectorFault → Type 0
ReportsOpen from total fault = (fault ≡ Line (total + 1) kinds.Ending) × ¬ Block from

-- the text ends with the line `end` of this name's pattern, without its line feed
pub record IsCutBlock (name : Section) (from : List ℕ) (total : ℕ) (fault : VectorFault) : Type 0 where
  pub pattern : Plan
  pub right : IsPattern pattern
  pub named : HasName pattern name
  pub text_is : from ≡ pattern_text pattern ++ codes "end"
  pub fault_is : fault ≡ Line (total + 1) kinds.Ending

-- a line of the pattern of this name is wrong
pub record IsWrongBlock (name : Section) (from : List ℕ) (total : ℕ) (fault : VectorFault) : Type 0 where
  pub block : Block from
  pub place : ℕ
  pub wrong : IsWrongIn name (lines_of itself block.lines []) place
  pub number : ℕ
  pub counted : number + line_feeds from ≡ total + place
  pub fault_is : fault ≡ Line number kinds.Pattern

abbrev pub ReportsBlock : Section → List ℕ → ℕ → VectorFault → Type 0
ReportsBlock name from total fault =
    ReportsOpen from total fault ⊎ IsCutBlock name from total fault ⊎ IsWrongBlock name from total fault
