-- What a run of two programs with streams is made of: the calls of the exports, one after another.
use Rattle.std.specs.Prelude.{◌≡◌, ◌↔◌, ◌<◌, ◌≤◌, ℕ, List, [], ◌∷◌, ◌++◌, Bool, true, false, length, take, drop}
use Rattle.noise_session.specs.TransportValue.{TransportState}
use Rattle.noise_channel.specs.Halves.{StreamReceiverMatches}
use Rattle.noise_channel.specs.Reading.{StreamReceiverState}
use Rattle.noise_channel.specs.Receiving.{ReadsTo}
use Rattle.noise_channel.specs.declared.next.StreamState.TheVariants.{Ended}
use Rattle.noise_c.specs.declared.structs.NoiseHandshake.{NoiseHandshake}
use Rattle.noise_c.specs.declared.structs.NoiseStreamReceiver.{NoiseStreamReceiver}
use Rattle.noise_c.specs.declared.structs.NoiseStreamResult.{NoiseStreamResult}
use Rattle.noise_c.specs.declared.structs.NoiseStreamSender.{NoiseStreamSender}
use Rattle.noise_c.specs.declared.two_streams.Stream.{Stream}
use Rattle.noise_c.specs.declared.two_streams.Streams.{Streams}
use Rattle.noise_c.specs.declared.two_streams.StreamTurn.{StreamTurn}
use Rattle.noise_c.specs.declared.two_streams.StreamTurn.TheVariants as turn
use Rattle.noise_c.specs.declared.codes.numbers.TheConstants.{OK}
use Rattle.noise_c.specs.Finishing.{AreStreamHalvesOf, UsesUp}
use Rattle.noise_c.specs.StreamStructs.{frame_of, is_stream_receiver, stream_receiver_from_c, WritesEnd, WritesFrame}

-- nothing is written or read yet in the direction between these halves
pub record Begins (sender : NoiseStreamSender) (receiver : NoiseStreamReceiver) (s : Stream) : Type 0 where
  pub senders : (s.first_sender ≡ sender) × (s.sender ≡ sender)
  pub receivers : (s.first_receiver ≡ receiver) × (s.receiver ≡ receiver)
  pub nothing : (s.written.items ≡ []) × (s.put.items ≡ []) × (s.came.items ≡ []) × (s.left.items ≡ [])
      × (s.handed_out.items ≡ [])
  pub open_yet : (s.ended ≡ false) × (s.whole ≡ false)

-- Both handshakes are used up, and the directions are those between the halves that they leave.
pub record BothBegin (a a_after b b_after : NoiseHandshake) (interval : ℕ) (there back : Stream) : Type 0 where
  pub sender : NoiseStreamSender
  pub receiver : NoiseStreamReceiver
  pub their_sender : NoiseStreamSender
  pub their_receiver : NoiseStreamReceiver
  pub used_up : UsesUp a a_after OK
  pub used_up_too : UsesUp b b_after OK
  pub halves : AreStreamHalvesOf a interval sender receiver
  pub halves_too : AreStreamHalvesOf b interval their_sender their_receiver
  pub there_begins : Begins sender their_receiver there
  pub back_begins : Begins their_sender receiver back

-- `noise_stream_write` was called, with room enough. At OK what it wrote was put on the network.
pub record WritesStream (payload : List ℕ) (old new : Stream) : Type 0 where
  pub results : NoiseStreamResult
  pub next : NoiseStreamResult
  pub out : List ℕ
  pub after : List ℕ
  pub code : ℕ
  pub room : frame_of (length payload) ≤ length out
  pub call : WritesFrame payload old.sender new.sender out after results next code
  pub logged : code ≡ OK → (new.put.items ≡ old.put.items ++ take next.len after)
      × (new.written.items ≡ old.written.items ++ take next.used payload)
  pub unlogged : OK < code → (new.put ≡ old.put) × (new.written ≡ old.written)
  pub others : new ≡ record old { sender = new.sender; put = new.put; written = new.written }

-- `noise_stream_end` was called, with room enough. At OK what it wrote was put on the network.
pub record EndsStream (old new : Stream) : Type 0 where
  pub results : NoiseStreamResult
  pub next : NoiseStreamResult
  pub out : List ℕ
  pub after : List ℕ
  pub code : ℕ
  pub room : 18 ≤ length out
  pub call : WritesEnd old.sender new.sender out after results next code
  pub logged : code ≡ OK → (new.put.items ≡ old.put.items ++ take 18 after) × (new.ended ≡ true)
  pub unlogged : OK < code → (new.put ≡ old.put) × (new.ended ≡ old.ended)
  pub others : new ≡ record old { sender = new.sender; put = new.put; ended = new.ended }

-- These bytes came behind those that weren't used. `noise_stream_read` was called until a further call would use
-- nothing, and then `noise_stream_is_cut`.
pub record ReadsStream (bytes : List ℕ) (old new : Stream) : Type 0 where
  pub used : ℕ
  pub came_is : new.came.items ≡ old.came.items ++ bytes
  pub left_is : new.left.items ≡ drop used (old.left.items ++ bytes)
  pub reads : (v : TransportState) (s : StreamReceiverState) → StreamReceiverMatches (stream_receiver_from_c old.receiver) v s
      → ReadsTo v s (old.left.items ++ bytes) used old.handed_out.items new.handed_out.items
      (stream_receiver_from_c new.receiver)
  pub whole_is : (new.whole ≡ true) ↔ (((stream_receiver_from_c new.receiver).state ≡ Ended) × (length new.left.items ≡ 0))
  pub known : is_stream_receiver new.receiver ≡ true
  pub others : new ≡ record old {
    receiver = new.receiver;
    came = new.came;
    left = new.left;
    handed_out = new.handed_out;
    whole = new.whole;
  }

-- What a turn does to the direction in which its program writes, and to that in which it reads.
abbrev pub TakesTurn : StreamTurn → Stream → Stream → Stream → Stream → Type 0
TakesTurn (turn.Write payload) out out_after into into_after = WritesStream payload.items out out_after × (into_after ≡ into)
TakesTurn turn.End out out_after into into_after = EndsStream out out_after × (into_after ≡ into)
TakesTurn (turn.Read bytes) out out_after into into_after = ReadsStream bytes.items into into_after × (out_after ≡ out)

-- The turns, one after another, lead from both directions to these.
pub data StreamsRun (there0 back0 : Stream) : List (Bool × StreamTurn) → Stream → Stream → Type 0 where
  none : StreamsRun there0 back0 [] there0 back0
  initiator : (turns : List (Bool × StreamTurn)) (there there_after back back_after : Stream) (t : StreamTurn)
      → StreamsRun there0 back0 turns there back → TakesTurn t there there_after back back_after
      → StreamsRun there0 back0 (turns ++ (false, t) ∷ []) there_after back_after
  responder : (turns : List (Bool × StreamTurn)) (there there_after back back_after : Stream) (t : StreamTurn)
      → StreamsRun there0 back0 turns there back → TakesTurn t back back_after there there_after
      → StreamsRun there0 back0 (turns ++ (true, t) ∷ []) there_after back_after

-- A run: both handshakes were finished by `noise_finish_stream`, each turn made its calls, and this came of it.
pub record StreamsAreMade (a a_after b b_after : NoiseHandshake) (interval : ℕ) (turns : List (Bool × StreamTurn))
    (r : Streams) : Type 0 where
  pub there : Stream
  pub back : Stream
  pub begins : BothBegin a a_after b b_after interval there back
  pub runs : StreamsRun there back turns r.there r.back
