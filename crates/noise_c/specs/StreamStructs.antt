-- What the struct of a half of a stream matches, and what the calls of streams report.
use Rattle.std.specs.Prelude.{◌≡◌, ◌≢◌, ◌↔◌, ◌⊎◌, ◌≤◌, ◌<◌, ℕ, ◌==◌, ◌+◌, ◌-◌, min, nat_lt, not, ◌&&◌, Bool, true, false, Option, Some, None, List, length, take, drop, slice_range, if◌then◌else◌}
use Rattle.noise_channel.specs.declared.fault.StreamFault.{StreamFault}
use Rattle.noise_channel.specs.declared.next.StreamState.{StreamState}
use Rattle.noise_channel.specs.declared.next.StreamState.TheVariants.{Open, Ended, Broken}
use Rattle.noise_channel.specs.Halves.{StreamSenderValue, StreamReceiverValue, StreamSenderMatches, StreamReceiverMatches, is_writer, is_reader, writer_fault, end_fault}
use Rattle.noise_channel.specs.StreamCalls.{WritesNext}
use Rattle.noise_session.specs.HalfCalls.{IsCounted}
use Rattle.noise_session.specs.TransportValue.{TransportState}
use Rattle.noise_session.specs.Frames.{frame, frame_length, IsPartial}
use Rattle.noise_channel.specs.Framing.{Begins}
use Rattle.noise_channel.specs.Streams.{incoming}
use Rattle.noise_channel.specs.Writing.Asked.{ToWrite, ToEnd}
use Rattle.noise_channel.specs.Writing.StreamSenderState.{Speaks}
use Rattle.noise_channel.specs.Writing.Put.{Wrote}
use Rattle.noise_channel.specs.Reading.{NextValue, StreamReceiverState, ChannelReads}
use Rattle.noise_channel.specs.Reading.StreamReceiverState.{Listens}
use Rattle.noise_channel.specs.Reading.NextValue.{Wants, Payload, End, Refused, Closed}
use Rattle.noise_c.specs.declared.structs.NoiseStreamSender.{NoiseStreamSender}
use Rattle.noise_c.specs.declared.structs.NoiseStreamReceiver.{NoiseStreamReceiver}
use Rattle.noise_c.specs.declared.structs.NoiseStreamResult.{NoiseStreamResult}
use Rattle.noise_c.specs.declared.codes.numbers.TheConstants.{CLOSED, CUT, END, EXHAUSTED, LENGTH, MORE, OK, ONE_WAY, ROOM, SHORT, STREAM_RECEIVER, STREAM_SENDER, STRUCT, TAG}
use Rattle.noise_c.specs.HalfStructs.{is_half, half_from_c, IsAround}
use Rattle.noise_c.specs.TransportCodes.{open_code, stream_code}

-- the writer, and the reader
abbrev pub stream_sender_from_c : NoiseStreamSender → StreamSenderValue
stream_sender_from_c k = record { half = half_from_c k.half; ended = not (k.ended == 0) }

abbrev pub is_state : ℕ → Bool
is_state state = nat_lt state 3

abbrev pub state_in : ℕ → StreamState
state_in state = if state == 0 then Open else if state == 1 then Ended else Broken

abbrev pub stream_receiver_from_c : NoiseStreamReceiver → StreamReceiverValue
stream_receiver_from_c k = record { half = half_from_c k.half; state = state_in k.state }

-- A call has left this as a half of a stream: its mark is that of the kind in this layout, it is of one of the two
-- parties, and some writer, or reader, holds what it has.
abbrev pub is_stream_sender : NoiseStreamSender → Bool
is_stream_sender k = is_half STREAM_SENDER k.half && is_writer (half_from_c k.half) (not (k.ended == 0))

abbrev pub is_stream_receiver : NoiseStreamReceiver → Bool
is_stream_receiver k = is_half STREAM_RECEIVER k.half && is_state k.state
    && is_reader (half_from_c k.half) (state_in k.state)

abbrev pub writing_code : Option StreamFault → ℕ
writing_code None = 0
writing_code (Some fault) = stream_code fault

-- how many first bytes of a payload one frame has, and how many bytes that frame has
abbrev pub part_of : ℕ → ℕ
part_of payload = min payload 65519

abbrev pub frame_of : ℕ → ℕ
frame_of payload = if payload == 0 then 0 else part_of payload + 18

-- the number of writing, by the lengths of the payload and of what there is room for
abbrev pub stream_write_code : NoiseStreamSender → ℕ → ℕ → ℕ
stream_write_code k payload room =
    if not (is_stream_sender k) then STRUCT
    else if nat_lt room (frame_of payload) then ROOM
    else writing_code (writer_fault (stream_sender_from_c k) payload)

abbrev pub stream_end_code : NoiseStreamSender → ℕ → ℕ
stream_end_code k room =
    if not (is_stream_sender k) then STRUCT
    else if nat_lt room 18 then ROOM
    else writing_code (end_fault (stream_sender_from_c k))

-- what reading gave, as the number and the places report it
abbrev pub ReportsGiven : ℕ → NoiseStreamResult → List ℕ → NextValue → Type 0
ReportsGiven code results buffer (Wants count) = (code ≡ MORE) × (results.wanted ≡ count)
ReportsGiven code results buffer (Payload payload used) =
    (code ≡ OK) × (results.used ≡ used) × (payload ≡ slice_range buffer results.from (results.from + results.len))
ReportsGiven code results buffer (End used) = (code ≡ END) × (results.used ≡ used)
ReportsGiven code results buffer (Refused cause) = code ≡ open_code cause
ReportsGiven code results buffer Closed = code ≡ CLOSED

-- the number of making a frame, by the lengths of the message and of the buffer
abbrev pub frame_code : ℕ → ℕ → ℕ
frame_code message buffer = if nat_lt 65535 message then LENGTH else if nat_lt buffer (message + 2) then ROOM else OK

-- the number of a refused frame
abbrev pub IsRefusalCode : ℕ → Type 0
IsRefusalCode code = (code ≡ SHORT) ⊎ (code ≡ TAG) ⊎ (code ≡ EXHAUSTED) ⊎ (code ≡ ONE_WAY)

-- What reading reports by its number: where the payload stands in a buffer of this length; how much is used, or wanted;
-- else nothing.
pub record ReportsPlace (code : ℕ) (old new : NoiseStreamResult) (buffer : ℕ) : Type 0 where
  pub payload : code ≡ OK → (new ≡ record old { from = 2; len = new.len; used = new.len + 18 }) × (1 ≤ new.len)
      × (new.len + 18 ≤ buffer)
  pub end : code ≡ END → (new ≡ record old { used = 18 }) × (18 ≤ buffer)
  pub more : code ≡ MORE → (new ≡ record old { wanted = new.wanted }) × (1 ≤ new.wanted) × (new.wanted ≤ 65535)
  pub nothing : (IsRefusalCode code ⊎ (code ≡ CLOSED) ⊎ (code ≡ STRUCT)) → new ≡ old

-- What reading leaves of the half by its number: what is opened counts, what is refused breaks the stream, and nothing
-- else changes it.
pub record LeavesReader (code : ℕ) (old new : NoiseStreamReceiver) : Type 0 where
  pub payload : code ≡ OK → IsCounted (half_from_c old.half) (half_from_c new.half) × (state_in new.state ≡ Open)
  pub end : code ≡ END → IsCounted (half_from_c old.half) (half_from_c new.half) × (state_in new.state ≡ Ended)
  pub refused : IsRefusalCode code → (half_from_c new.half ≡ half_from_c old.half) × (state_in new.state ≡ Broken)
  pub same : ((code ≡ MORE) ⊎ (code ≡ CLOSED) ⊎ (code ≡ STRUCT)) → new ≡ old

-- nothing is written, or read, yet
abbrev pub BeginsToWrite : NoiseStreamSender → TransportState → Type 0
BeginsToWrite k v = StreamSenderMatches (stream_sender_from_c k) v (Speaks 0)

abbrev pub BeginsToRead : NoiseStreamReceiver → TransportState → Type 0
BeginsToRead k v = StreamReceiverMatches (stream_receiver_from_c k) v (Listens 0)

-- one frame more, and whether the stream is ended
abbrev pub CountsFrame : NoiseStreamSender → NoiseStreamSender → Bool → Type 0
CountsFrame old new ended =
    IsCounted (half_from_c old.half) (half_from_c new.half) × ((stream_sender_from_c new).ended ≡ ended)

-- the half reads what stands at the start of these bytes, and that is reported
abbrev pub ReportsRead : NoiseStreamReceiver → List ℕ → ℕ → NoiseStreamResult → List ℕ → NoiseStreamReceiver → Type 0
ReportsRead old buffer code results after new =
    (v : TransportState) (s : StreamReceiverState) → StreamReceiverMatches (stream_receiver_from_c old) v s
    → (g : NextValue) × (t : StreamReceiverState) × ReportsGiven code results after g
    × ChannelReads (incoming v) s buffer g t
    × StreamReceiverMatches (stream_receiver_from_c new) v t

-- the numbers of writing and of reading
abbrev pub IsStreamCode : ℕ → Type 0
IsStreamCode n = (n ≡ OK) ⊎ (n ≡ STRUCT) ⊎ (n ≡ ROOM) ⊎ (n ≡ CLOSED) ⊎ (n ≡ ONE_WAY) ⊎ (n ≡ EXHAUSTED)

abbrev pub IsStreamReadCode : ℕ → Type 0
IsStreamReadCode n = (n ≡ OK) ⊎ (n ≡ MORE) ⊎ (n ≡ END) ⊎ (n ≡ CLOSED) ⊎ (n ≡ STRUCT) ⊎ IsRefusalCode n

-- The frame of the first bytes of a payload is written into a buffer, or what is wrong is the number.
pub record WritesFrame (payload : List ℕ) (old new : NoiseStreamSender) (out after : List ℕ)
    (results next : NoiseStreamResult) (code : ℕ) : Type 0 where
  pub code_is : code ≡ stream_write_code old (length payload) (length out)
  pub place : code ≡ OK
      → next ≡ record results { len = frame_of (length payload); used = part_of (length payload) }
  pub writes : code ≡ OK → WritesNext (stream_sender_from_c old) (ToWrite payload)
      (Wrote next.used (take next.len after)) (stream_sender_from_c new)
  pub beyond : drop (frame_of (length payload)) after ≡ drop (frame_of (length payload)) out
  pub counted : code ≡ OK → 1 ≤ length payload → CountsFrame old new false
  pub nothing : code ≡ OK → length payload ≡ 0 → stream_sender_from_c new ≡ stream_sender_from_c old
  pub known : code ≡ OK → is_stream_sender new ≡ true
  pub unchanged : OK < code → (new ≡ old) × (after ≡ out) × (next ≡ results)
  pub codes : IsStreamCode code

-- The end is written into a buffer, or what is wrong is the number.
pub record WritesEnd (old new : NoiseStreamSender) (out after : List ℕ)
    (results next : NoiseStreamResult) (code : ℕ) : Type 0 where
  pub code_is : code ≡ stream_end_code old (length out)
  pub place : code ≡ OK → next ≡ record results { len = 18 }
  pub ends : code ≡ OK → WritesNext (stream_sender_from_c old) ToEnd (Wrote 0 (take 18 after))
      (stream_sender_from_c new)
  pub beyond : drop 18 after ≡ drop 18 out
  pub counted : code ≡ OK → CountsFrame old new true
  pub known : code ≡ OK → is_stream_sender new ≡ true
  pub unchanged : OK < code → (new ≡ old) × (after ≡ out) × (next ≡ results)
  pub codes : (code ≡ OK) ⊎ (code ≡ STRUCT) ⊎ (code ≡ ROOM) ⊎ (code ≡ CLOSED) ⊎ (code ≡ ONE_WAY)

-- What stands at the start of a buffer is read in place, and the number says what it was.
pub record ReadsFrame (old new : NoiseStreamReceiver) (buffer after : List ℕ)
    (results next : NoiseStreamResult) (code : ℕ) : Type 0 where
  pub unusable : code ≡ STRUCT ↔ is_stream_receiver old ≡ false
  pub reads : code ≢ STRUCT → ReportsRead old buffer code next after new
  pub closed : is_stream_receiver old ≡ true → (code ≡ CLOSED ↔ (stream_receiver_from_c old).state ≢ Open)
  pub more : is_stream_receiver old ≡ true → (stream_receiver_from_c old).state ≡ Open → IsPartial buffer
      → (code ≡ MORE) × (next.wanted ≡ frame_length buffer - length buffer)
  pub place : ReportsPlace code results next (length buffer)
  pub bytes : code ≢ OK → after ≡ buffer
  pub beyond : code ≡ OK → IsAround buffer after 2 (2 + next.len)
  pub state : LeavesReader code old new
  pub known : is_stream_receiver old ≡ true → is_stream_receiver new ≡ true
  pub codes : IsStreamReadCode code

-- The connection's end cuts the stream unless its end has come and nothing is left.
pub record JudgesCut (k : NoiseStreamReceiver) (left code : ℕ) : Type 0 where
  pub unusable : code ≡ STRUCT ↔ is_stream_receiver k ≡ false
  pub whole : code ≡ OK → ((stream_receiver_from_c k).state ≡ Ended) × (left ≡ 0)
  pub cut : code ≡ CUT → (stream_receiver_from_c k).state ≡ Ended → left ≡ 0 → ⊥
  pub codes : (code ≡ OK) ⊎ (code ≡ CUT) ⊎ (code ≡ STRUCT)

-- A frame is made of the n bytes from the third on, or what is wrong is the number.
pub record FramesMessage (n : ℕ) (buffer after : List ℕ) (results next : NoiseStreamResult) (code : ℕ) : Type 0 where
  pub code_is : code ≡ frame_code n (length buffer)
  pub place : code ≡ OK → next ≡ record results { len = n + 2 }
  pub frames : code ≡ OK → take (n + 2) after ≡ frame (take n (drop 2 buffer))
  pub beyond : drop 2 after ≡ drop 2 buffer
  pub unchanged : OK < code → (after ≡ buffer) × (next ≡ results)

-- The message of the frame at the start of a buffer is found, or how many bytes more the frame wants.
pub record FindsFrame (buffer : List ℕ) (results next : NoiseStreamResult) (code : ℕ) : Type 0 where
  pub more : code ≡ MORE → IsPartial buffer
  pub wanted : code ≡ MORE → next ≡ record results { wanted = frame_length buffer - length buffer }
  pub found : code ≡ OK → Begins buffer (slice_range buffer next.from (next.from + next.len))
  pub place : code ≡ OK → (next ≡ record results { from = 2; len = next.len; used = next.len + 2 })
      × (next.len + 2 ≤ length buffer)
  pub codes : (code ≡ OK) ⊎ (code ≡ MORE)
