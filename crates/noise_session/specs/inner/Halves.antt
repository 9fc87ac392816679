-- One direction of a transport, as the contracts of its calls see it.
use Rattle.noise_state.specs.Cipher.{key_in, nonce_in}
use Rattle.noise_session.specs.declared.half.Half.{Half}
use Rattle.noise_session.specs.declared.window.Ring.{Ring}
use Rattle.noise_session.specs.Halves.{HalfValue}
use Rattle.noise_session.specs.Datagrams.{DatagramSenderValue, DatagramReceiverValue}

abbrev pub half_value : Half → HalfValue
half_value h = record {
  role = h.role;
  one_way = h.one_way;
  interval = h.interval;
  key = key_in h.cipher;
  nonce = nonce_in h.cipher;
}

-- a half of datagrams is one whose key is never rekeyed
abbrev pub datagram_sender_value : HalfValue → DatagramSenderValue
datagram_sender_value h = record { role = h.role; one_way = h.one_way; key = h.key; nonce = h.nonce }

abbrev pub datagram_receiver_value : HalfValue → Ring → DatagramReceiverValue
datagram_receiver_value h recent = record { role = h.role; one_way = h.one_way; key = h.key; recent = recent }
