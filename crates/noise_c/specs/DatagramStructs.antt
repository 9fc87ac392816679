-- What the struct of a half of datagrams matches.
use Rattle.std.specs.Prelude.{◌≡◌, ◌≢◌, ◌↔◌, ◌⊎◌, ◌<◌, ℕ, List, length, take, drop, slice_range, true, false, ◌==◌, ◌+◌, nat_lt, not, ◌||◌, ◌&&◌, Bool, Option, Some, MatchOption, option_map, Ok, Err, if◌then◌else◌}
use Rattle.noise_events.specs.declared.window.Window.{Window}
use Rattle.noise_events.specs.declared.window.Window.TheVariants.{W64, W256, W1024}
use Rattle.noise_session.specs.declared.datagram_fault.DatagramFault.{DatagramFault}
use Rattle.noise_session.specs.Datagrams.{DatagramState, Opens, accepting, datagram, datagram_receiver_fault, nonce_named, unsealed}
use Rattle.noise_session.specs.Datagrams.{DatagramSenderValue, DatagramReceiverValue, DatagramSenderMatches, DatagramReceiverMatches}
use Rattle.noise_session.specs.DatagramCalls.{IsUnderKey}
use Rattle.noise_session.specs.Windows.{is_ring}
use Rattle.noise_c.specs.declared.structs.NoiseDatagramSender.{NoiseDatagramSender}
use Rattle.noise_c.specs.declared.structs.NoiseDatagramReceiver.{NoiseDatagramReceiver}
use Rattle.noise_c.specs.declared.structs.NoiseResult.{NoiseResult}
use Rattle.noise_c.specs.declared.codes.numbers.TheConstants.{DATAGRAM_RECEIVER, DATAGRAM_SENDER, OK, OLD, ONE_WAY, REPEATED, RESERVED, ROOM, SHORT, STRUCT, TAG, TOO_LONG}
use Rattle.noise_c.specs.HalfStructs.{is_party, party_in, IsAround, IsSealCode}
use Rattle.noise_c.specs.TransportCodes.{datagram_code, sealing_code}

-- the number of nonces of a window
abbrev pub is_window : ℕ → Bool
is_window width = (width == 64) || (width == 256) || (width == 1024)

abbrev pub window_in : ℕ → Window
window_in width = if width == 64 then W64 else if width == 256 then W256 else W1024

-- A call has left this as a half that seals: its mark is that of one of this layout, and it is of one of the two
-- parties.
abbrev pub is_datagram_sender : NoiseDatagramSender → Bool
is_datagram_sender k = (k.mark == DATAGRAM_SENDER) && is_party k.party

-- the half that seals
abbrev pub datagram_sender_from_c : NoiseDatagramSender → DatagramSenderValue
datagram_sender_from_c k =
    record { role = party_in k.party; one_way = not (k.one_way == 0); key = Some k.key; nonce = k.nonce }

-- the half that opens
abbrev pub datagram_receiver_from_c : NoiseDatagramReceiver → DatagramReceiverValue
datagram_receiver_from_c k = record {
  role = party_in k.party;
  one_way = not (k.one_way == 0);
  key = Some k.key;
  recent = record { window = window_in k.window; greatest = k.greatest; words = k.words };
}

-- A call has left this as a half that opens: the same, and some opened nonces have its window and words.
abbrev pub is_datagram_receiver : NoiseDatagramReceiver → Bool
is_datagram_receiver k =
    (k.mark == DATAGRAM_RECEIVER) && is_party k.party && is_window k.window
    && is_ring (datagram_receiver_from_c k).recent

-- the number of sealing, by the lengths of the payload and of what there is room for
abbrev pub datagram_sender_seal_code : NoiseDatagramSender → ℕ → ℕ → ℕ
datagram_sender_seal_code k payload room =
    if not (is_datagram_sender k) then STRUCT
    else if nat_lt room (payload + 24) then ROOM
    else sealing_code (unsealed (party_in k.party) (not (k.one_way == 0)) k.nonce payload)

-- the datagram is the next one that is sealed, of this payload
abbrev pub SealsDatagram : NoiseDatagramSender → NoiseDatagramSender → List ℕ → List ℕ → Type 0
SealsDatagram old new payload bytes = (v : DatagramState) → DatagramSenderMatches (datagram_sender_from_c old) v
    → (bytes ≡ datagram v.state v.role v.sent payload)
    × DatagramSenderMatches (datagram_sender_from_c new) (record v { sent = v.sent + 1 })

-- A payload of n bytes is sealed into the first bytes of a buffer, or what is wrong is the number.
pub record SealsInto (n : ℕ) (payload : List ℕ) (old new : NoiseDatagramSender) (out after : List ℕ)
    (results next : NoiseResult) (code : ℕ) : Type 0 where
  pub code_is : code ≡ datagram_sender_seal_code old n (length out)
  pub place : code ≡ OK → next ≡ record results { from = 0; len = n + 24 }
  pub seals : code ≡ OK → SealsDatagram old new payload (take (n + 24) after)
  pub beyond : drop (n + 24) after ≡ drop (n + 24) out
  pub counted : code ≡ OK
      → datagram_sender_from_c new ≡ record (datagram_sender_from_c old) { nonce = old.nonce + 1 }
  pub known : code ≡ OK → is_datagram_sender new ≡ true
  pub unchanged : OK < code → (new ≡ old) × (after ≡ out) × (next ≡ results)
  pub codes : IsSealCode code

-- the number of a datagram that isn't looked into
abbrev pub datagram_open_refusal : NoiseDatagramReceiver → List ℕ → Option ℕ
datagram_open_refusal k bytes =
    if not (is_datagram_receiver k) then Some STRUCT
    else option_map datagram_code (datagram_receiver_fault (datagram_receiver_from_c k) bytes)

-- The bytes after the nonce are the message of the payload, under the struct's key and at the nonce that they name.
abbrev pub IsSealedFor : NoiseDatagramReceiver → List ℕ → List ℕ → Type 0
IsSealedFor k bytes payload = IsUnderKey (datagram_receiver_from_c k) bytes payload

-- the datagram is opened, and has this payload
abbrev pub OpensDatagram : NoiseDatagramReceiver → NoiseDatagramReceiver → List ℕ → List ℕ → Type 0
OpensDatagram old new bytes payload = (v : DatagramState) → DatagramReceiverMatches (datagram_receiver_from_c old) v
    → Opens v bytes (Ok payload) (accepting v (nonce_named bytes))
    × DatagramReceiverMatches (datagram_receiver_from_c new) (accepting v (nonce_named bytes))

-- the datagram is declined for a fault of this number
abbrev pub DeclinesDatagram : NoiseDatagramReceiver → List ℕ → ℕ → Type 0
DeclinesDatagram old bytes code = (fault : DatagramFault) × (code ≡ datagram_code fault)
    × ((v : DatagramState) → DatagramReceiverMatches (datagram_receiver_from_c old) v → Opens v bytes (Err fault) v)

-- the numbers of opening
abbrev pub IsDatagramCode : ℕ → Type 0
IsDatagramCode n = (n ≡ OK) ⊎ (n ≡ TOO_LONG) ⊎ (n ≡ SHORT) ⊎ (n ≡ TAG) ⊎ (n ≡ ONE_WAY) ⊎ (n ≡ STRUCT) ⊎ (n ≡ RESERVED)
    ⊎ (n ≡ OLD) ⊎ (n ≡ REPEATED)

-- A datagram is opened in place, or what is wrong is the number.
pub record OpensDatagramInPlace (old new : NoiseDatagramReceiver) (bytes after : List ℕ)
    (results next : NoiseResult) (code : ℕ) : Type 0 where
  pub unusable : code ≡ STRUCT ↔ is_datagram_receiver old ≡ false
  pub code_is : MatchOption (datagram_open_refusal old bytes)
      ((code ≡ OK) ⊎ ((code ≡ TAG) × ((payload : List ℕ) → IsSealedFor old bytes payload → ⊥)))
      (λ refusal. code ≡ refusal)
  pub place : code ≡ OK → (next ≡ record results { from = 8; len = next.len }) × (next.len + 24 ≡ length after)
  pub opened : code ≡ OK → IsSealedFor old bytes (slice_range after next.from (next.from + next.len))
  pub opens : code ≡ OK → OpensDatagram old new bytes (slice_range after next.from (next.from + next.len))
  pub declined : OK < code → code ≢ STRUCT → DeclinesDatagram old bytes code
  pub beyond : code ≡ OK → IsAround bytes after 8 (8 + next.len)
  pub same : code ≡ OK → datagram_receiver_from_c new
      ≡ record (datagram_receiver_from_c old) { recent = (datagram_receiver_from_c new).recent }
  pub known : code ≡ OK → is_datagram_receiver new ≡ true
  pub unchanged : OK < code → (new ≡ old) × (after ≡ bytes) × (next ≡ results)
  pub codes : IsDatagramCode code
