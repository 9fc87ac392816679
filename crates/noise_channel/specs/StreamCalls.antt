-- What the calls of the halves of a stream say of one frame, by what the halves of a transport say of its message
-- (Noise 3, 5.1, 7.4, 11.3 and 13).
use Rattle.std.specs.Prelude.{◌≡◌, ◌≢◌, ◌≤◌, ◌<◌, ℕ, ◌+◌, List, [], length, take, drop, slice_range, true, false}
use Rattle.std.specs.Prelude.{Result, Ok, Err, IfOk, OnErr}
use Rattle.noise_session.specs.declared.faults.OpenFault.{OpenFault}
use Rattle.noise_session.specs.Frames.{frame_length}
use Rattle.noise_session.specs.Halves.{HalfValue}
use Rattle.noise_session.specs.HalfCalls.{ReceiverOpens, SenderSealsFrame, SucceedsUnless}
use Rattle.noise_session.specs.TransportValue.{TransportState}
use Rattle.noise_channel.specs.declared.fault.StreamFault.{StreamFault}
use Rattle.noise_channel.specs.declared.frames.Framed.TheVariants as framed
use Rattle.noise_channel.specs.declared.next.Next.{Next}
use Rattle.noise_channel.specs.declared.next.Next.TheVariants as gives
use Rattle.noise_channel.specs.declared.next.StreamState.TheVariants as reading
use Rattle.noise_channel.specs.Framing.{Frames}
use Rattle.noise_channel.specs.Halves.{StreamReceiverMatches, StreamReceiverValue, StreamSenderMatches, StreamSenderValue, end_fault, writer_fault}
use Rattle.noise_channel.specs.Reading.{ChannelReads, NextValue, StreamReceiverState}
use Rattle.noise_channel.specs.Streams.{incoming, outgoing}
use Rattle.noise_channel.specs.Writing.{Asked, ChannelWrites, Put, StreamSenderState, first_part_len}

-- The first part of a payload is written as a frame into the first bytes of `out`; of an empty payload nothing is; or
-- the call has this fault. The last two change nothing.
pub record StreamSenderWrites (w next : StreamSenderValue) (payload out after : List ℕ)
    (result : Result (ℕ × ℕ) StreamFault) : Type 0 where
  pub fault : SucceedsUnless (writer_fault w (length payload)) result
  pub taken : IfOk result (λ r. r.0 ≡ first_part_len payload)
  pub frame : IfOk result (λ r. 1 ≤ r.0 → (next.ended ≡ false)
      × SenderSealsFrame w.half next.half r.0 (take r.0 payload) out after (Ok r.1))
  pub nothing : IfOk result (λ r. r.0 ≡ 0 → (r.1 ≡ 0) × (next ≡ w) × (after ≡ out))
  pub unchanged : OnErr result ((next ≡ w) × (after ≡ out))

-- The frame of the empty payload is written into the first bytes of `out`, or the call has this fault and changes
-- nothing.
pub record StreamSenderEnds (w next : StreamSenderValue) (out after : List ℕ) (result : Result ℕ StreamFault)
    : Type 0 where
  pub fault : SucceedsUnless (end_fault w) result
  pub frame : IfOk result (λ n. (next.ended ≡ true) × SenderSealsFrame w.half next.half 0 [] out after (Ok n))
  pub unchanged : OnErr result ((next ≡ w) × (after ≡ out))

-- The message of the frame that a buffer begins with, of `whole` bytes, is opened in place, and the payload ends at the
-- result; or it isn't, and the buffer is unchanged.
pub record OpensFrame (h next : HalfValue) (buffer after : List ℕ) (whole : ℕ)
    (result : Result ℕ OpenFault) : Type 0 where
  pub found : Frames buffer (framed.Message 2 whole)
  pub opens : ReceiverOpens h next (slice_range buffer 2 whole) result (λ to. slice_range after 2 to)
  pub place : IfOk result (λ to. (2 ≤ to) × (to + 16 ≡ whole))
  pub before : take 2 after ≡ take 2 buffer
  pub beyond : IfOk result (λ to. drop to after ≡ drop to buffer)
  pub unchanged : OnErr result (after ≡ buffer)

-- What a call of `read` makes of a buffer, by what it gives: less than a frame is there; the frame has a payload, or
-- the empty one; its message isn't opened; or the reader has met the end or refused a frame before.
abbrev pub StreamReceiverReads : StreamReceiverValue → StreamReceiverValue → List ℕ → List ℕ → Next → Type 0
StreamReceiverReads r next buffer after (gives.Wants count) =
    (r.state ≡ reading.Open) × Frames buffer (framed.Wants count) × (next ≡ r) × (after ≡ buffer)
StreamReceiverReads r next buffer after (gives.Payload from to used) =
    (r.state ≡ reading.Open) × OpensFrame r.half next.half buffer after used (Ok to) × (from ≡ 2) × (from < to)
    × (next.state ≡ reading.Open)
StreamReceiverReads r next buffer after (gives.End used) =
    (r.state ≡ reading.Open) × OpensFrame r.half next.half buffer after used (Ok 2) × (after ≡ buffer)
    × (next.state ≡ reading.Ended)
StreamReceiverReads r next buffer after (gives.Refused cause) =
    (r.state ≡ reading.Open) × OpensFrame r.half next.half buffer after (frame_length buffer) (Err cause)
    × (next.state ≡ reading.Broken)
StreamReceiverReads r next buffer after gives.Closed =
    (r.state ≢ reading.Open) × (next ≡ r) × (after ≡ buffer)

-- The same for each state that the half matches: asked for this, a writer puts this out, and matches the state after.
abbrev pub WritesNext : StreamSenderValue → Asked → Put → StreamSenderValue → Type 0
WritesNext w asked put next = (v : TransportState) (s : StreamSenderState) → StreamSenderMatches w v s
    → (t : StreamSenderState) × ChannelWrites (outgoing v) s asked put t × StreamSenderMatches next v t

-- a reader reads what stands at the start of these bytes, and matches the state after
abbrev pub ReadsNext : StreamReceiverValue → List ℕ → NextValue → StreamReceiverValue → Type 0
ReadsNext r buffer value next = (v : TransportState) (s : StreamReceiverState) → StreamReceiverMatches r v s
    → (t : StreamReceiverState) × ChannelReads (incoming v) s buffer value t × StreamReceiverMatches next v t
