-- What a call of a writer puts on a stream, and what its calls put there together.
use Rattle.std.specs.Prelude.{◌≡◌, ◌≢◌, ℕ, ◌+◌, ◌<◌, ◌==◌, List, [], ◌∷◌, ◌++◌, length, take, min, Bool, true, false}
use Rattle.std.specs.Prelude.{Result, Ok, Err, if◌then◌else◌}
use Rattle.noise_session.specs.Transport.{last_nonce}
use Rattle.noise_channel.specs.declared.fault.StreamFault.{StreamFault}
use Rattle.noise_channel.specs.declared.fault.StreamFault.TheVariants as fault
use Rattle.noise_channel.specs.Streams.{Direction, frame_at}

-- how far a writer has come: its next message has this nonce, or it has ended the stream
pub data StreamSenderState : Type 0 where
  Speaks : ℕ → StreamSenderState
  HasEnded : StreamSenderState

-- what a call asks for: that a payload be written, or the end
pub data Asked : Type 0 where
  ToWrite : List ℕ → Asked
  ToEnd : Asked

-- what a call puts out: so many first bytes of the payload are taken, and these bytes written; or nothing is
pub data Put : Type 0 where
  Wrote : ℕ → List ℕ → Put
  Failed : StreamFault → Put

-- how many first bytes of a payload one message takes
abbrev pub first_part_len : List ℕ → ℕ
first_part_len payload = min (length payload) 65519

abbrev pub first_part : List ℕ → List ℕ
first_part payload = take (first_part_len payload) payload

-- One call. An empty payload is nothing, and no end; each other one, and the end, is a frame at the next nonce, of
-- which the last is left for the end.
pub data ChannelWrites : Direction → StreamSenderState → Asked → Put → StreamSenderState → Type 0 where
  skips : (d : Direction) (n : ℕ) → ChannelWrites d (Speaks n) (ToWrite []) (Wrote 0 []) (Speaks n)
  writes : (d : Direction) (n : ℕ) (payload : List ℕ) → payload ≢ [] → d.silent ≡ false → n + 1 < last_nonce
      → ChannelWrites d (Speaks n) (ToWrite payload)
      (Wrote (first_part_len payload) (frame_at d n (first_part payload)))
      (Speaks (n + 1))
  ends : (d : Direction) (n : ℕ) → d.silent ≡ false → n < last_nonce
      → ChannelWrites d (Speaks n) ToEnd (Wrote 0 (frame_at d n [])) HasEnded
  one_way : (d : Direction) (n : ℕ) (asked : Asked) → asked ≢ ToWrite [] → d.silent ≡ true
      → ChannelWrites d (Speaks n) asked (Failed fault.OneWay) (Speaks n)
  exhausted : (d : Direction) (n : ℕ) (payload : List ℕ) → payload ≢ [] → d.silent ≡ false → n + 1 ≡ last_nonce
      → ChannelWrites d (Speaks n) (ToWrite payload) (Failed fault.Exhausted) (Speaks n)
  over : (d : Direction) (asked : Asked) → ChannelWrites d HasEnded asked (Failed fault.Ended) HasEnded

-- what a call of `write` or `end` returns, with the bytes of its output
abbrev pub put_by_write : List ℕ → Result (ℕ × ℕ) StreamFault → Put
put_by_write out (Ok r) = Wrote r.0 (take r.1 out)
put_by_write out (Err why) = Failed why

abbrev pub put_by_end : List ℕ → Result ℕ StreamFault → Put
put_by_end out (Ok written) = Wrote 0 (take written out)
put_by_end out (Err why) = Failed why

-- a call, and what came of it
pub record Call : Type 0 where
  pub asked : Asked
  pub put : Put

-- Calls of one writer, in order.
pub data WritesAll : Direction → StreamSenderState → List Call → StreamSenderState → Type 0 where
  stops : (d : Direction) (s : StreamSenderState) → WritesAll d s [] s
  goes_on : (d : Direction) (s t u : StreamSenderState) (asked : Asked) (put : Put) (more : List Call)
      → ChannelWrites d s asked put t → WritesAll d t more u
      → WritesAll d s (record { asked = asked; put = put } ∷ more) u

-- the bytes that calls put out
abbrev pub written_bytes : Put → List ℕ
written_bytes (Wrote taken bytes) = bytes
written_bytes (Failed why) = []

abbrev pub bytes_put : List Call → List ℕ
bytes_put [] = []
bytes_put (one ∷ more) = written_bytes one.put ++ bytes_put more

-- the payloads that they took, each as far as it was taken
abbrev pub payload_in : Put → Asked → List (List ℕ)
payload_in (Wrote taken bytes) (ToWrite payload) = if taken == 0 then [] else take taken payload ∷ []
payload_in (Wrote taken bytes) ToEnd = []
payload_in (Failed why) asked = []

abbrev pub payloads_written : List Call → List (List ℕ)
payloads_written [] = []
payloads_written (one ∷ more) = payload_in one.put one.asked ++ payloads_written more

abbrev pub has_ended : StreamSenderState → Bool
has_ended HasEnded = true
has_ended _ = false
