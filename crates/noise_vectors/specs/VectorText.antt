-- The text of a vector file.
use Rattle.std.specs.Global.{Global}
use Rattle.std.specs.Prelude.{◌≡◌, ◌⊎◌, IsTrue, ℕ, Vec, List, [], ◌∷◌, ◌++◌, Option, Some, None, Bool, true, false, if◌then◌else◌, codes, map, decimal}
use Rattle.std.specs.Bool.{nat_eq}
use Rattle.std.specs.List.{join_with_byte, starts_with}
use Rattle.hex.specs.Hex.{encode_lower}
use Rattle.noise_names.specs.declared.token.Role.{Role}
use Rattle.noise_names.specs.declared.token.Role.TheVariants.{Initiator, Responder}
use Rattle.noise_names.specs.Names.{name_bytes}
use Rattle.noise_names.specs.Plan.{Plan}
use Rattle.noise_names.specs.Text as PatternText
use Rattle.noise_keys.specs.declared.keys.Own.{Own}
use Rattle.noise_keys.specs.declared.keys.Own.TheVariants.{Ephemeral, Static}
use Rattle.noise_keys.specs.Table.{TableEntry}
use Rattle.noise_events.specs.declared.event.Event.{Event}
use Rattle.noise_events.specs.declared.event.Event.TheVariants.{Write, Say, Deliver, Raw}
use Rattle.noise_events.specs.declared.datagram_event.DatagramEvent.{DatagramEvent}
use Rattle.noise_events.specs.declared.datagram_event.DatagramEvent.TheVariants as datagram
use Rattle.noise_events.specs.declared.window.Window.{Window}
use Rattle.noise_events.specs.Windows.{width_of}
use Rattle.noise_vectors.specs.HexWord.{hex_of}
use Rattle.noise_vectors.specs.declared.file_keys.FileKeys.{FileKeys}
use Rattle.noise_vectors.specs.declared.file_keys.FileKeys.TheVariants.{Xor, Table}
use Rattle.noise_vectors.specs.declared.vector.FileDatagrams.{FileDatagrams}
use Rattle.noise_vectors.specs.declared.vector.VectorFile.{VectorFile}
use Rattle.noise_vectors.specs.declared.vector.Version.{Version}
use Rattle.noise_vectors.specs.declared.vector.Version.TheVariants.{One, Two}
use Rattle.noise_vectors.specs.declared.words.DatagramKind.{DatagramKind}
use Rattle.noise_vectors.specs.declared.words.DatagramKind.TheVariants as of_datagrams
use Rattle.noise_vectors.specs.declared.words.EventKind.{EventKind}
use Rattle.noise_vectors.specs.declared.words.EventKind.TheVariants as kinds

-- a line with its LF (10), and the text after it
abbrev pub line_then : List ℕ → List ℕ → List ℕ
line_then text rest = text ++ 10 ∷ rest

-- a line for each, with these words, and the text after them
abbrev pub lines_of : {A : Type 0} → (A → List ℕ) → List A → List ℕ → List ℕ
lines_of words [] rest = rest
lines_of words (x ∷ xs) rest = line_then (words x) (lines_of words xs rest)

-- a key as 64 digits, or a hyphen for none
abbrev pub key_word : Option (List ℕ) → List ℕ
key_word None = codes "-"
key_word (Some key) = encode_lower key

-- an ephemeral and a static key, with a space (32) between them
abbrev pub key_words : Option (List ℕ) → Option (List ℕ) → List ℕ
key_words e s = key_word e ++ 32 ∷ key_word s

abbrev pub role_word : Role → List ℕ
role_word Initiator = codes "initiator"
role_word Responder = codes "responder"

abbrev pub own_word : Own → List ℕ
own_word Ephemeral = codes "e"
own_word Static = codes "s"

abbrev pub kind_word : EventKind → List ℕ
kind_word kinds.Say = codes "say"
kind_word kinds.Write = codes "write"
kind_word kinds.Deliver = codes "deliver"
kind_word kinds.Raw = codes "raw"

-- the lengths with commas (44) between them, or a hyphen for none
abbrev pub lengths_word : List ℕ → List ℕ
lengths_word [] = codes "-"
lengths_word (n ∷ ns) = join_with_byte 44 (map decimal (n ∷ ns))

-- the pattern's text and the line after it, where the file spells one
abbrev pub block_text : Option Plan → List ℕ → List ℕ
block_text None rest = rest
block_text (Some pattern) rest = PatternText.text_of pattern ++ line_then (codes "end") rest

abbrev pub psk_words : List ℕ → List ℕ
psk_words psk = codes "psk " ++ encode_lower psk

abbrev pub answer_words : TableEntry → List ℕ
answer_words a = codes "answer " ++ (own_word a.own ++ 32 ∷ (encode_lower a.remote ++ 32 ∷ encode_lower a.answer))

-- a party's line, and the answers of its table
abbrev pub party_text : Role → FileKeys → List ℕ → List ℕ
party_text role (Xor keys) rest = line_then (role_word role ++ (codes " xor " ++ key_words keys.e keys.s)) rest
party_text role (Table keys) rest =
    line_then (role_word role ++ (codes " table " ++ key_words keys.e keys.s)) (lines_of answer_words keys.entries rest)

abbrev pub event_words : Event → List ℕ
event_words (Say role payload cuts) =
    codes "say " ++ (role_word role ++ 32 ∷ (hex_of payload.items ++ 32 ∷ lengths_word cuts))
event_words (Write role payload) = codes "write " ++ (role_word role ++ 32 ∷ hex_of payload.items)
event_words (Deliver role number cuts) =
    codes "deliver " ++ (role_word role ++ 32 ∷ (decimal number ++ 32 ∷ lengths_word cuts))
event_words (Raw role bytes) = codes "raw " ++ (role_word role ++ 32 ∷ hex_of bytes.items)

abbrev pub datagram_kind_word : DatagramKind → List ℕ
datagram_kind_word of_datagrams.Seal = codes "seal"
datagram_kind_word of_datagrams.Open = codes "open"
datagram_kind_word of_datagrams.Foreign = codes "foreign"

-- an event after `datagrams`; bytes from anywhere are `foreign`
abbrev pub datagram_event_words : DatagramEvent → List ℕ
datagram_event_words (datagram.Seal role payload) = codes "seal " ++ (role_word role ++ 32 ∷ hex_of payload.items)
datagram_event_words (datagram.Open role number) = codes "open " ++ (role_word role ++ 32 ∷ decimal number)
datagram_event_words (datagram.Raw role bytes) = codes "foreign " ++ (role_word role ++ 32 ∷ hex_of bytes.items)

-- the line that both ends go over with: the window's width
abbrev pub window_words : Window → List ℕ
window_words window = codes "datagrams " ++ decimal (width_of window)

-- the datagrams, where the file has them
abbrev pub datagrams_text : Option FileDatagrams → List ℕ → List ℕ
datagrams_text None rest = rest
datagrams_text (Some datagrams) rest =
    line_then (window_words datagrams.window) (lines_of datagram_event_words datagrams.events.items rest)

abbrev pub expect_line : List ℕ → List ℕ
expect_line words = codes "expect " ++ words

abbrev pub expect_words : Vec ℕ Global → List ℕ
expect_words words = expect_line words.items

-- whether it is version 2
abbrev pub is_second : Version → Bool
is_second One = false
is_second (Two additions) = true

-- the first line, of version 2 or of version 1
abbrev pub header_words : Bool → List ℕ
header_words second = if second then codes "vector 2" else codes "vector 1"

-- the lines after the events, which only a file of version 2 has: its datagrams, and what it expects
abbrev pub version_text : Version → List ℕ
version_text One = []
version_text (Two additions) = datagrams_text additions.datagrams (lines_of expect_words additions.expected.items [])

-- the lines of both versions after the header, and the text after them
abbrev pub text_body : VectorFile → List ℕ → List ℕ
text_body file rest =
    line_then (codes "protocol " ++ name_bytes file.protocol)
    (block_text file.block
    (line_then (codes "prologue " ++ hex_of file.prologue.items)
    (line_then (codes "interval " ++ decimal file.interval)
    (lines_of psk_words file.psks.items
    (party_text Initiator file.initiator
    (party_text Responder file.responder
    (lines_of event_words file.events.items rest)))))))

abbrev pub file_text : VectorFile → List ℕ
file_text file = line_then (header_words (is_second file.version)) (text_body file (version_text file.version))

-- what may stand after the lines of the events: nothing, the datagrams, or what is expected
abbrev pub AfterEvents : List ℕ → Type 0
AfterEvents rest = (rest ≡ []) ⊎ IsTrue (starts_with nat_eq rest (codes "datagrams "))
    ⊎ IsTrue (starts_with nat_eq rest (codes "expect "))

-- what may stand after the lines of the datagrams
abbrev pub AfterDatagrams : List ℕ → Type 0
AfterDatagrams rest = (rest ≡ []) ⊎ IsTrue (starts_with nat_eq rest (codes "expect "))
