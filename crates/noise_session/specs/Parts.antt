-- The parts of a transport's halves, for a caller that keeps them itself between two messages.
use Rattle.std.specs.Prelude.{Some}
use Rattle.noise_session.specs.declared.parts.HalfParts.{HalfParts}
use Rattle.noise_session.specs.declared.parts.DatagramSenderParts.{DatagramSenderParts}
use Rattle.noise_session.specs.declared.parts.DatagramReceiverParts.{DatagramReceiverParts}
use Rattle.noise_session.specs.Halves.{HalfValue}
use Rattle.noise_session.specs.Datagrams.{DatagramSenderValue, DatagramReceiverValue}

-- what these parts hold
abbrev pub half_in : HalfParts → HalfValue
half_in p = record { role = p.role; one_way = p.one_way; interval = p.interval; key = Some p.key; nonce = p.nonce }

abbrev pub datagram_sender_in : DatagramSenderParts → DatagramSenderValue
datagram_sender_in p = record { role = p.role; one_way = p.one_way; key = Some p.key; nonce = p.nonce }

abbrev pub datagram_receiver_in : DatagramReceiverParts → DatagramReceiverValue
datagram_receiver_in p = record {
  role = p.role;
  one_way = p.one_way;
  key = Some p.key;
  recent = record { window = p.window; greatest = p.greatest; words = p.words };
}
