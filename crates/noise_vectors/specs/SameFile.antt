-- Vector files that say the same. The program's file also has the place and the room of its vectors in memory, of which
-- the text says nothing: two files say the same where the elements of their vectors are the same.
use Rattle.std.specs.Prelude.{◌≡◌, ℕ, List, [], map, Option, Some, None}
use Rattle.noise_events.specs.declared.window.Window.{Window}
use Rattle.noise_events.specs.Events.{events_of}
use Rattle.noise_events.specs.DatagramEvents.{DatagramEvent}
use Rattle.noise_events.specs.DatagramEvents.{datagram_events_of}
use Rattle.noise_events.specs.declared.event.Event.{Event}
use Rattle.noise_events.specs.declared.event.Event.TheVariants.{Write, Say, Deliver, Raw}
use Rattle.noise_names.specs.Lists.{bytes_of}
use Rattle.noise_vectors.specs.VectorFile.{IsVectorFile}
use Rattle.noise_vectors.specs.VectorText.{file_text}
use Rattle.noise_vectors.specs.declared.vector.FileDatagrams.{FileDatagrams}
use Rattle.noise_vectors.specs.declared.vector.VectorFile.{VectorFile}
use Rattle.noise_vectors.specs.declared.vector.Version.{Version}
use Rattle.noise_vectors.specs.declared.vector.Version.TheVariants.{One, Two}

-- the pieces that an event's frame is handed over in
abbrev pub cuts_of : Event → List ℕ
cuts_of (Say role payload cuts) = cuts
cuts_of (Write role payload) = []
cuts_of (Deliver role number cuts) = cuts
cuts_of (Raw role bytes) = []

abbrev pub version_number : Version → ℕ
version_number One = 1
version_number (Two additions) = 2

-- the window and the events of the datagrams, where there are any
abbrev pub held_datagrams : Option FileDatagrams → Option (Window × List DatagramEvent)
held_datagrams None = None
held_datagrams (Some datagrams) = Some (datagrams.window, datagram_events_of datagrams.events.items)

abbrev pub version_datagrams : Version → Option (Window × List DatagramEvent)
version_datagrams One = None
version_datagrams (Two additions) = held_datagrams additions.datagrams

-- the lines that are expected
abbrev pub expected_of : Version → List (List ℕ)
expected_of One = []
expected_of (Two additions) = bytes_of additions.expected.items

-- both files say the same
pub record SaySame (f g : VectorFile) : Type 0 where
  pub protocol : f.protocol ≡ g.protocol
  pub block : f.block ≡ g.block
  pub prologue : f.prologue.items ≡ g.prologue.items
  pub interval : f.interval ≡ g.interval
  pub psks : f.psks.items ≡ g.psks.items
  pub initiator : f.initiator ≡ g.initiator
  pub responder : f.responder ≡ g.responder
  pub events : events_of f.events.items ≡ events_of g.events.items
  pub cuts : map cuts_of f.events.items ≡ map cuts_of g.events.items
  pub version : version_number f.version ≡ version_number g.version
  pub datagrams : version_datagrams f.version ≡ version_datagrams g.version
  pub expected : expected_of f.version ≡ expected_of g.version

-- no text is that of two vector files that say different things
abbrev pub VectorTextsAreUnique : Type 0
VectorTextsAreUnique = (f g : VectorFile) → IsVectorFile f → IsVectorFile g → file_text f ≡ file_text g → SaySame f g
