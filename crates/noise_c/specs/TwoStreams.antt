-- Two programs on the C calls that write and read streams, over a network that brings any bytes: what comes of it, as
-- whoever has only their bytes and numbers sees it (Noise 5.1, 5.2, 11.3 and 13).
use Rattle.std.specs.declared.alloc.AllocError.{AllocError}
use Rattle.std.specs.Prelude.{◌≡◌, ◌≢◌, ◌⊎◌, ℕ, ◌+◌, ◌==◌, List, [], ◌∷◌, ◌++◌, length, true, Option, Result, IfOk, IfSome}
use Rattle.noise_aead.specs.Sealing.{sealed, nonce_of}
use Rattle.noise_state.specs.Cipher.{rekeyed_times}
use Rattle.noise_session.specs.Frames.{frame}
use Rattle.noise_session.specs.Transport.{rekeys}
use Rattle.noise_c.specs.declared.structs.NoiseHalf.{NoiseHalf}
use Rattle.noise_c.specs.declared.two_streams.Stream.{Stream}
use Rattle.noise_c.specs.declared.two_streams.Streams.{Streams}
use Rattle.noise_c.specs.TwoPrograms.{IsFront}

-- the frame of a payload at nonce n of a stream that began with this key
abbrev pub frame_under : List ℕ → ℕ → ℕ → List ℕ → List ℕ
frame_under key interval n payload = frame (sealed (rekeyed_times (rekeys interval n) key) (nonce_of n) [] payload)

-- the frames of these payloads, from nonce n on
abbrev pub frames_under : List ℕ → ℕ → ℕ → List (List ℕ) → List ℕ
frames_under key interval n [] = []
frames_under key interval n (payload ∷ more) =
    frame_under key interval n payload ++ frames_under key interval (n + 1) more

-- What the one half seals the other opens: they have one key, and are of opposite parties, of a one-way pattern both or
-- neither.
pub record Opposite (sender receiver : NoiseHalf) : Type 0 where
  pub key : receiver.key ≡ sender.key
  pub parties : receiver.party ≢ sender.party
  pub one_way : (receiver.one_way == 0) ≡ (sender.one_way == 0)

-- so it is in both directions
abbrev pub FaceInStreams : Streams → Type 0
FaceInStreams r = Opposite r.there.first_sender.half r.there.first_receiver.half
    × Opposite r.back.first_sender.half r.back.first_receiver.half

-- A frame is forged. Behind the same frames there came from the network the frame of some payload at the next nonce, and
-- there was put on the network another frame or none.
pub record IsForged (key : List ℕ) (interval : ℕ) (put came : List ℕ) : Type 0 where
  pub before : List (List ℕ)
  pub payload : List ℕ
  pub later : List ℕ
  pub came_is : came
      ≡ frames_under key interval 0 before ++ (frame_under key interval (length before) payload ++ later)
  pub rest : List ℕ
  pub put_is : put ≡ frames_under key interval 0 before ++ rest
  pub unwritten : (more : List ℕ) → rest ≢ frame_under key interval (length before) payload ++ more

-- What was handed out is a front of what was written. Where it's said to be whole, it is all of it, and the writer has
-- ended the stream.
pub record IsFaithful (s : Stream) : Type 0 where
  pub front : IsFront s.handed_out.items s.written.items
  pub whole : s.whole ≡ true → (s.handed_out.items ≡ s.written.items) × (s.ended ≡ true)

-- That holds, or a frame is forged. Where all came that was put on the network, unaltered, all that was written was
-- handed out, and it's said to be whole exactly if the writer has ended the stream.
pub record StreamIsRight (interval : ℕ) (s : Stream) : Type 0 where
  pub faithful : IsFaithful s ⊎ IsForged s.first_sender.half.key interval s.put.items s.came.items
  pub all : s.came.items ≡ s.put.items → (s.handed_out.items ≡ s.written.items) × (s.whole ≡ s.ended)

-- Whatever the two programs call, in whatever order, and whatever bytes come: of each direction between such halves.
abbrev pub StreamsRight : ℕ → Result (Option Streams) AllocError → Type 0
StreamsRight interval result = IfOk result (λ one. IfSome one (λ r. FaceInStreams r
    → StreamIsRight interval r.there × StreamIsRight interval r.back))
