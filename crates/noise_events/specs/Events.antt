-- What may happen between two ends, without the cuts, which change nothing.
use Rattle.std.specs.Prelude.{ℕ, List, map}
use Rattle.noise_names.specs.declared.token.Role.{Role}
use Rattle.noise_events.specs.declared.event.Event.{Event as Given}
use Rattle.noise_events.specs.declared.event.Event.TheVariants as given

pub data Event : Type 0 where
  Write : Role → List ℕ → Event  -- a payload
  Say : Role → List ℕ → Event  -- a payload, whose frame comes to the other end at once
  Deliver : Role → ℕ → Event  -- the frame of this number, counted from 0, which the other role wrote
  Raw : Role → List ℕ → Event  -- any bytes

-- the events of code
abbrev pub event_of : Given → Event
event_of (given.Write role payload) = Write role payload.items
event_of (given.Say role payload cuts) = Say role payload.items
event_of (given.Deliver role frame cuts) = Deliver role frame
event_of (given.Raw role bytes) = Raw role bytes.items

abbrev pub events_of : List Given → List Event
events_of events = map event_of events
