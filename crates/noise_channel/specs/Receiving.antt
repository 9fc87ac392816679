-- What a loop that reads a stream hands out, and what that is of what was written.
use Rattle.std.specs.Prelude.{◌≡◌, ◌⊎◌, ◌↔◌, ◌≤◌, ℕ, ◌+◌, ◌-◌, List, [], ◌++◌, length, take, drop, Bool, true}
use Rattle.std.specs.List.{concat}
use Rattle.noise_session.specs.TransportValue.{TransportState}
use Rattle.noise_channel.specs.Halves.{StreamReceiverValue, StreamReceiverMatches}
use Rattle.noise_channel.specs.declared.next.StreamState.TheVariants as reading
use Rattle.noise_channel.specs.Streams.{incoming, outgoing}
use Rattle.noise_channel.specs.Writing.{StreamSenderState, Call, WritesAll, bytes_put, payloads_written, has_ended}
use Rattle.noise_channel.specs.Writing.StreamSenderState.{Speaks}
use Rattle.noise_channel.specs.Reading.{StreamReceiverState, NextValue, ChannelReads}
use Rattle.noise_channel.specs.Reading.StreamReceiverState.{AtEnd, Listens}
use Rattle.noise_channel.specs.Agreement.{IsWholeOrForged}
use Rattle.noise_channel.specs.Runs.{StreamReceiverRun, Rests, ForgedAt, payloads, sealed_on, uses}

-- One call of the reader, which uses so many bytes, and its payload was appended. Where it uses none, nor does the next
-- one.
pub record ReadsOnce (v : TransportState) (s : StreamReceiverState) (buffer : List ℕ) (used : ℕ) (before after : List ℕ)
    (receiver : StreamReceiverValue) : Type 0 where
  pub gives : NextValue
  pub state : StreamReceiverState
  pub reads : ChannelReads (incoming v) s buffer gives state
  pub used_is : used ≡ uses gives
  pub rests : used ≡ 0 → Rests (incoming v) state buffer
  pub appended : after ≡ before ++ concat (payloads gives)
  pub matches : StreamReceiverMatches receiver v state

-- A reader has used so many first bytes of what came: it has gone from this state to another, and the payloads, joined,
-- were appended.
pub record ReadsSome (v : TransportState) (s : StreamReceiverState) (came : List ℕ) (used : ℕ) (before after : List ℕ)
    (receiver : StreamReceiverValue) : Type 0 where
  pub payloads : List (List ℕ)
  pub state : StreamReceiverState
  pub run : StreamReceiverRun (incoming v) s came [] payloads state (drop used came)
  pub appended : after ≡ before ++ concat payloads
  pub matches : StreamReceiverMatches receiver v state

-- The same of a reader that has used all that it can: a further call would use nothing.
pub record ReadsTo (v : TransportState) (s : StreamReceiverState) (came : List ℕ) (used : ℕ) (before after : List ℕ)
    (receiver : StreamReceiverValue) : Type 0 where
  pub payloads : List (List ℕ)
  pub state : StreamReceiverState
  pub run : StreamReceiverRun (incoming v) s came [] payloads state (drop used came)
  pub rests : Rests (incoming v) state (drop used came)
  pub appended : after ≡ before ++ concat payloads
  pub matches : StreamReceiverMatches receiver v state

-- The same, and it is said to be whole just where the end has come and nothing is left after it.
pub record ReadsToEnd (v : TransportState) (s : StreamReceiverState) (came before after : List ℕ)
    (receiver : StreamReceiverValue)
    (whole : Bool) : Type 0 where
  pub used : ℕ
  pub reads : ReadsTo v s came used before after receiver
  pub exactly : (whole ≡ true) ↔ ((reads.state ≡ AtEnd) × (drop used came ≡ []))

-- The bytes that were handed out are the first of those that the writer took; where they are said to be whole, they are
-- all of them, and the writer has ended the stream.
pub record IsFrontOfWritten (calls : List Call) (u : StreamSenderState) (handed : List ℕ) (whole : Bool) : Type 0 where
  pub more : List ℕ
  pub front : concat (payloads_written calls) ≡ handed ++ more
  pub all : whole ≡ true → (more ≡ []) × (has_ended u ≡ true)

-- One of the payloads that were handed out, joined, or the end, is the first that isn't the writer's, and was forged.
pub record HoldsForgery (writer : TransportState) (calls : List Call) (u : StreamSenderState) (came handed : List ℕ)
    : Type 0 where
  pub payloads : List (List ℕ)
  pub ended : Bool
  pub joined : handed ≡ concat payloads
  pub place : ℕ
  pub before : take place (sealed_on payloads ended) ≡ take place (sealed_on (payloads_written calls) (has_ended u))
  pub forged : ForgedAt (outgoing writer) 0 (sealed_on (payloads_written calls) (has_ended u))
      (sealed_on payloads ended) came place

-- Whatever the writer was asked for, these bytes were handed out of what came: a front of what it took, or a forgery.
abbrev pub IsFrontOrForged : TransportState → List ℕ → List ℕ → Bool → Type 0
IsFrontOrForged writer came handed whole =
    (calls : List Call) (u : StreamSenderState) → WritesAll (outgoing writer) (Speaks 0) calls u
    → IsFrontOfWritten calls u handed whole ⊎ HoldsForgery writer calls u came handed

-- what was appended is such a front
abbrev pub HandsOut : TransportState → List ℕ → List ℕ → List ℕ → Bool → Type 0
HandsOut writer came before after whole =
    (handed : List ℕ) × (after ≡ before ++ handed) × IsFrontOrForged writer came handed whole

-- All that the writer's calls put out came: all that it took was appended, and that is whole exactly if it has ended
-- the stream.
abbrev pub HandsOutAll : TransportState → List ℕ → List ℕ → List ℕ → Bool → Type 0
HandsOutAll writer came before after whole =
    (calls : List Call) (u : StreamSenderState) → WritesAll (outgoing writer) (Speaks 0) calls u
    → came ≡ bytes_put calls
    → (after ≡ before ++ concat (payloads_written calls)) × ((whole ≡ true) ↔ (has_ended u ≡ true))

-- A reader that has used nothing yet.
abbrev pub ReadingBegins : Type 0
ReadingBegins = (v : TransportState) (s : StreamReceiverState) (came before after : List ℕ) (r : StreamReceiverValue)
    → StreamReceiverMatches r v s → after ≡ before → ReadsSome v s came 0 before after r

-- One call more of a reader that has used some of what came.
abbrev pub CallsJoin : Type 0
CallsJoin = (v : TransportState) (s : StreamReceiverState) (came : List ℕ) (at used : ℕ) (before mid after : List ℕ)
    (r next : StreamReceiverValue) → ReadsSome v s came at before mid r
    → ((t : StreamReceiverState) → StreamReceiverMatches r v t → ReadsOnce v t (drop at came) used mid after next)
    → ReadsSome v s came (at + used) before after next

-- One call more that uses nothing: all that can be used was.
abbrev pub IdleCallEnds : Type 0
IdleCallEnds = (v : TransportState) (s : StreamReceiverState) (came : List ℕ) (at used : ℕ) (before mid after : List ℕ)
    (r next : StreamReceiverValue) → used ≡ 0 → ReadsSome v s came at before mid r
    → ((t : StreamReceiverState) → StreamReceiverMatches r v t → ReadsOnce v t (drop at came) used mid after next)
    → ReadsTo v s came at before after next

-- Of a reader that has read all that it can it is said exactly where its stream is whole: it has ended, and nothing is
-- left.
abbrev pub SaidExactly : Type 0
SaidExactly = (v : TransportState) (s : StreamReceiverState) (came before after : List ℕ) (left : ℕ)
    (r : StreamReceiverValue)
    (whole : Bool) → left ≤ length came → ReadsTo v s came (length came - left) before after r
    → ((whole ≡ true) ↔ ((r.state ≡ reading.Ended) × (left ≡ 0))) → ReadsToEnd v s came before after r whole

-- What a reader has read to the end of what came is a front of what was written.
abbrev pub ReadIsFront : Type 0
ReadIsFront = (v w : TransportState) (came before after : List ℕ) (r : StreamReceiverValue) (whole : Bool)
    → IsWholeOrForged v w
    → ReadsToEnd w (Listens 0) came before after r whole → HandsOut v came before after whole

-- Where all that was put out came, it is all that was taken.
abbrev pub ReadIsAll : Type 0
ReadIsAll = (v w : TransportState) (came before after : List ℕ) (r : StreamReceiverValue) (whole : Bool)
    → outgoing v ≡ incoming w → ReadsToEnd w (Listens 0) came before after r whole
    → HandsOutAll v came before after whole
