-- What may happen to the datagrams of two parties.
use Rattle.std.specs.Prelude.{ℕ, List, map}
use Rattle.noise_names.specs.declared.token.Role.{Role}
use Rattle.noise_events.specs.declared.datagram_event.DatagramEvent.{DatagramEvent as Given}
use Rattle.noise_events.specs.declared.datagram_event.DatagramEvent.TheVariants as given

pub data DatagramEvent : Type 0 where
  Seal : Role → List ℕ → DatagramEvent  -- a payload
  Open : Role → ℕ → DatagramEvent  -- the datagram of this number, counted from 0, which the other role sealed
  Raw : Role → List ℕ → DatagramEvent  -- any bytes, as one datagram

-- the events of code
abbrev pub datagram_event_of : Given → DatagramEvent
datagram_event_of (given.Seal role payload) = Seal role payload.items
datagram_event_of (given.Open role number) = Open role number
datagram_event_of (given.Raw role bytes) = Raw role bytes.items

abbrev pub datagram_events_of : List Given → List DatagramEvent
datagram_events_of events = map datagram_event_of events
