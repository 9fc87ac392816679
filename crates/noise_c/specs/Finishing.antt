-- What finishing a handshake returns, and what its halves match.
use Rattle.std.specs.Prelude.{◌≡◌, ◌<◌, ◌↔◌, ◌⊎◌, ◌==◌, ℕ, true, length, replicate, if◌then◌else◌}
use Rattle.noise_handshake.specs.HandshakeValue.{HandshakeValue}
use Rattle.noise_keys.specs.Table.{Table}
use Rattle.noise_session.specs.TransportValue.{TransportState, SenderMatches, ReceiverMatches, transport_of}
use Rattle.noise_session.specs.Datagrams.{DatagramState, datagrams_of}
use Rattle.noise_session.specs.Datagrams.{DatagramSenderMatches, DatagramReceiverMatches}
use Rattle.noise_c.specs.declared.structs.NoiseHandshake.{NoiseHandshake}
use Rattle.noise_c.specs.declared.structs.NoiseHalf.{NoiseHalf}
use Rattle.noise_c.specs.declared.structs.NoiseDatagramSender.{NoiseDatagramSender}
use Rattle.noise_c.specs.declared.structs.NoiseDatagramReceiver.{NoiseDatagramReceiver}
use Rattle.noise_c.specs.declared.structs.NoiseStreamSender.{NoiseStreamSender}
use Rattle.noise_c.specs.declared.structs.NoiseStreamReceiver.{NoiseStreamReceiver}
use Rattle.noise_c.specs.declared.structs.NoiseCipher.{NoiseCipher}
use Rattle.noise_c.specs.HandshakeStructs.{handshake_from_c, no_dh_result, ForParty, IsUsable}
use Rattle.noise_c.specs.HalfStructs.{half_from_c, is_half}
use Rattle.noise_c.specs.DatagramStructs.{datagram_sender_from_c, datagram_receiver_from_c, is_datagram_sender, is_datagram_receiver, window_in}
use Rattle.noise_c.specs.StreamStructs.{is_stream_sender, is_stream_receiver, BeginsToRead, BeginsToWrite}
use Rattle.noise_c.specs.CipherStructs.{sending_cipher, receiving_cipher}
use Rattle.noise_c.specs.declared.codes.numbers.TheConstants.{ENDED, NOT_DONE, OK, RECEIVER, RECEIVING_CIPHER, SENDER, SENDING_CIPHER, STRUCT}

-- its number: ENDED, OK where all messages have passed, else NOT_DONE
abbrev pub finish_code : HandshakeValue Table → ℕ
finish_code h = if h.ended then ENDED else if h.passed == length h.pattern.messages then OK else NOT_DONE

-- this is the number, STRUCT exactly where no call has left the struct
pub record Finishes (k : NoiseHandshake) (code : ℕ) : Type 0 where
  pub unusable : code ≡ STRUCT ↔ (IsUsable k → ⊥)
  pub same : (u : IsUsable k) → code ≡ finish_code (handshake_from_c u.pattern k)
  pub codes : (code ≡ OK) ⊎ (code ≡ ENDED) ⊎ (code ≡ NOT_DONE) ⊎ (code ≡ STRUCT)

-- The handshake is used up: it has ended, and its keys, psks and DH results are zeros. The rest stays.
abbrev pub used_up : NoiseHandshake → NoiseHandshake
used_up k = record k {
  ended = 1;
  psk_count = 0;
  psks = replicate 9 (replicate 32 0);
  answer_count = 0;
  answers = replicate 8 no_dh_result;
  chaining_key = replicate 32 0;
  cipher = record { present = k.cipher.present; bytes = replicate 32 0 };
}

-- Finishing returns this number. At OK the handshake is used up, so that a second call returns ENDED; else it is as it
-- was.
pub record UsesUp (old new : NoiseHandshake) (code : ℕ) : Type 0 where
  pub code_is : Finishes old code
  pub used : code ≡ OK → new ≡ used_up old
  pub usable : code ≡ OK → IsUsable new
  pub once : code ≡ OK → (again : ℕ) → Finishes new again → again ≡ ENDED
  pub unchanged : OK < code → new ≡ old

-- the two halves match the transport
abbrev pub HalvesMatch : NoiseHalf → NoiseHalf → TransportState → Type 0
HalvesMatch sender receiver w = SenderMatches (half_from_c sender) w × ReceiverMatches (half_from_c receiver) w

-- these are the two halves of what the handshake leaves, once all messages have passed (5.2, 11.3)
pub record AreHalvesOf (k : NoiseHandshake) (interval : ℕ) (sender receiver : NoiseHalf) : Type 0 where
  pub done : ForParty k (λ _ v. v.passed ≡ length v.pattern.messages)
  pub stand : ForParty k (λ _ v. HalvesMatch sender receiver (transport_of v interval))
  pub known : (is_half SENDER sender ≡ true) × (is_half RECEIVER receiver ≡ true)

abbrev pub DatagramHalvesMatch : NoiseDatagramSender → NoiseDatagramReceiver → DatagramState → Type 0
DatagramHalvesMatch sender receiver w = DatagramSenderMatches (datagram_sender_from_c sender) w
    × DatagramReceiverMatches (datagram_receiver_from_c receiver) w

-- the same of datagrams (11.4), with a window of so many nonces
pub record AreDatagramHalvesOf (k : NoiseHandshake) (window : ℕ) (sender : NoiseDatagramSender)
    (receiver : NoiseDatagramReceiver) : Type 0 where
  pub done : ForParty k (λ _ v. v.passed ≡ length v.pattern.messages)
  pub stand : ForParty k (λ _ v. DatagramHalvesMatch sender receiver (datagrams_of v (window_in window)))
  pub known : (is_datagram_sender sender ≡ true) × (is_datagram_receiver receiver ≡ true)

-- the same of streams, of which nothing is written or read yet
pub record AreStreamHalvesOf (k : NoiseHandshake) (interval : ℕ) (sender : NoiseStreamSender)
    (receiver : NoiseStreamReceiver) : Type 0 where
  pub done : ForParty k (λ _ v. v.passed ≡ length v.pattern.messages)
  pub writer : ForParty k (λ _ v. BeginsToWrite sender (transport_of v interval))
  pub reader : ForParty k (λ _ v. BeginsToRead receiver (transport_of v interval))
  pub known : (is_stream_sender sender ≡ true) × (is_stream_receiver receiver ≡ true)

-- these are the two cipher states of Split (5.2)
pub record AreCiphersOf (k : NoiseHandshake) (send receive : NoiseCipher) : Type 0 where
  pub done : ForParty k (λ _ v. v.passed ≡ length v.pattern.messages)
  pub sends : ForParty k (λ _ v. send ≡ sending_cipher v)
  pub receives : ForParty k (λ _ v. receive ≡ receiving_cipher v)
  pub known : (send.mark ≡ SENDING_CIPHER) × (receive.mark ≡ RECEIVING_CIPHER)
