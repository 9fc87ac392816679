-- How an end goes over to datagrams (Noise 11.4).
use Rattle.std.specs.Prelude.{[], length, Bool, false, ◌&&◌, ◌==◌}
use Rattle.noise_events.specs.declared.window.Window.{Window}
use Rattle.noise_session.specs.TransportValue.{TransportState}
use Rattle.noise_session.specs.Progress.{Progress}
use Rattle.noise_session.specs.Progress.Progress.{Open}
use Rattle.noise_session.specs.Ends.{EndValue, progress}
use Rattle.noise_events.specs.Windows.{width_of}
use Rattle.noise_session.specs.Datagrams.{DatagramState}

-- whether the session is open, with no transport message sent or received
abbrev pub is_untouched : Progress → Bool
is_untouched (Open role one_way sent received) = (sent == 0) && (received == 0)
is_untouched _ = false

-- whether the end may go over: and nothing has come of a frame
abbrev pub is_datagram_ready : {K : Type 0} → EndValue K → Bool
is_datagram_ready e = is_untouched (progress e) && (length e.partial == 0)

-- the datagrams of the party of a transport
abbrev pub datagrams_after : TransportState → Window → DatagramState
datagrams_after v window = record {
  role = v.role;
  one_way = v.one_way;
  state = v.state;
  width = width_of window;
  sent = 0;
  accepted = [];
}
