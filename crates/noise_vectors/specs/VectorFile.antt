-- What a vector file may say.
use Rattle.std.specs.Prelude.{⊤, ◌≡◌, ◌↔◌, ℕ, ◌<◌, ◌≤◌, ◌^◌, List, Vec, length, Option, None, IfSome, IsSome}
use Rattle.std.specs.List.{All}
use Rattle.std.specs.Global.{Global}
use Rattle.noise_names.specs.Fundamental.{fundamental_of}
use Rattle.noise_names.specs.Limits.{IsPattern}
use Rattle.noise_names.specs.Names.{IsSection, Section}
use Rattle.noise_names.specs.Plan.{Plan}
use Rattle.noise_keys.specs.Table.{TableEntry}
use Rattle.noise_names.specs.declared.token.Role.{Role}
use Rattle.noise_events.specs.declared.event.Event.{Event}
use Rattle.noise_events.specs.declared.event.Event.TheVariants.{Write, Say, Deliver, Raw}
use Rattle.noise_events.specs.declared.datagram_event.DatagramEvent.{DatagramEvent}
use Rattle.noise_events.specs.declared.datagram_event.DatagramEvent.TheVariants as datagram
use Rattle.noise_vectors.specs.Cuts.{AreCuts}
use Rattle.noise_vectors.specs.OwnPattern.{HasName}
use Rattle.noise_vectors.specs.VectorText.{file_text}
use Rattle.noise_vectors.specs.Words.{IsKey}
use Rattle.noise_vectors.specs.declared.faults.VectorFault.{VectorFault}
use Rattle.noise_vectors.specs.declared.faults.VectorFault.TheVariants.{Line, Memory}
use Rattle.noise_vectors.specs.declared.file_keys.FileKeys.{FileKeys}
use Rattle.noise_vectors.specs.declared.file_keys.FileKeys.TheVariants.{Xor, Table}
use Rattle.noise_vectors.specs.declared.vector.VectorFile.{VectorFile}
use Rattle.noise_vectors.specs.declared.vector.AllowedEvents.{AllowedEvents}
use Rattle.noise_vectors.specs.declared.vector.AllowedEvents.TheVariants.{SayOnly, Any, VersionOne}
use Rattle.noise_vectors.specs.declared.vector.Version.{Version}
use Rattle.noise_vectors.specs.declared.vector.Version.TheVariants.{One, Two}

-- A file has a pattern of its own exactly where the protocol's base is of no fundamental one. That pattern is within
-- the limits, and of the protocol's name.
abbrev pub IsOwn : Section → Option Plan → Type 0
IsOwn name block = (IsSome block ↔ (fundamental_of name.base ≡ None))
    × IfSome block (λ pattern. IsPattern pattern × HasName pattern name)

-- at most so many bytes
abbrev pub AreBytes : ℕ → List ℕ → Type 0
AreBytes most bytes = (length bytes ≤ most) × All (λ b. b < 256) bytes

-- at most 65535 bytes
abbrev pub IsShort : List ℕ → Type 0
IsShort bytes = AreBytes 65535 bytes

-- at most 9 pre-shared keys
abbrev pub ArePsks : List (List ℕ) → Type 0
ArePsks psks = (length psks ≤ 9) × All IsKey psks

-- the remote public key and the answer of a table's entry
abbrev pub IsEntry : TableEntry → Type 0
IsEntry entry = IsKey entry.remote × IsKey entry.answer

-- the keys of a party; a table has at most 8 entries
abbrev pub AreKeys : FileKeys → Type 0
AreKeys (Xor keys) = IfSome keys.e IsKey × IfSome keys.s IsKey
AreKeys (Table keys) = IfSome keys.e IsKey × IfSome keys.s IsKey × (length keys.entries ≤ 8) × All IsEntry keys.entries

-- a payload has at most 65535 bytes, a frame's number is below 2^32, and bytes from anywhere are at most 131072
abbrev pub IsEvent : Event → Type 0
IsEvent (Say role payload cuts) = IsShort payload.items × AreCuts cuts
IsEvent (Write role payload) = IsShort payload.items
IsEvent (Deliver role number cuts) = (number < 2 ^ 32) × AreCuts cuts
IsEvent (Raw role bytes) = AreBytes 131072 bytes.items

-- a payload has at most 65535 bytes, a datagram's number is below 2^32, and bytes from anywhere are at most 131072
abbrev pub IsDatagramEvent : DatagramEvent → Type 0
IsDatagramEvent (datagram.Seal role payload) = IsShort payload.items
IsDatagramEvent (datagram.Open role number) = number < 2 ^ 32
IsDatagramEvent (datagram.Raw role bytes) = AreBytes 131072 bytes.items

-- at least one byte, and each one is printed: a space (32) to a tilde (126)
abbrev pub IsExpected : List ℕ → Type 0
IsExpected words = (0 < length words) × All (λ b. (32 ≤ b) × (b ≤ 126)) words

-- The events over datagrams are right, where a file of version 2 has some.
abbrev pub IsVersion : Version → Type 0
IsVersion One = ⊤
IsVersion (Two additions) = IfSome additions.datagrams (λ datagrams. All IsDatagramEvent datagrams.events.items)
    × All (λ words. IsExpected words.items) additions.expected.items

-- where only `say` is allowed, no other event is
abbrev pub IsAllowed : AllowedEvents → Event → Type 0
IsAllowed SayOnly (Say role payload cuts) = ⊤
IsAllowed SayOnly event = ⊥
IsAllowed Any event = ⊤
IsAllowed VersionOne event = ⊤

-- where only `say` is allowed, there are no datagrams
abbrev pub IsAllowedVersion : AllowedEvents → Version → Type 0
IsAllowedVersion SayOnly One = ⊤
IsAllowedVersion SayOnly (Two additions) = additions.datagrams ≡ None
IsAllowedVersion Any version = ⊤
IsAllowedVersion VersionOne version = version ≡ One

abbrev pub IsAllowedFile : AllowedEvents → VectorFile → Type 0
IsAllowedFile allowed file = All (IsAllowed allowed) file.events.items × IsAllowedVersion allowed file.version

-- what an end says, as an event
abbrev pub say_of : Role × Vec ℕ Global × List ℕ → Event
say_of said = Say said.0 said.1 said.2

-- what a vector file says
pub record IsVectorFile (file : VectorFile) : Type 0 where
  pub protocol : IsSection file.protocol
  pub own : IsOwn file.protocol file.block
  pub prologue : IsShort file.prologue.items
  pub interval : file.interval < 2 ^ 64
  pub psks : ArePsks file.psks.items
  pub initiator : AreKeys file.initiator
  pub responder : AreKeys file.responder
  pub events : All IsEvent file.events.items
  pub version : IsVersion file.version

-- why a text isn't read: it is that of no vector file that is allowed, or memory ran out
abbrev pub IsReadFault : AllowedEvents → List ℕ → VectorFault → Type 0
IsReadFault allowed text (Line number kind) =
    (file : VectorFile) → IsVectorFile file → IsAllowedFile allowed file → text ≡ file_text file → ⊥
IsReadFault allowed text Memory = ⊤
