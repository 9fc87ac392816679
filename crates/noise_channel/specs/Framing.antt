-- Where the message of a frame lies in a buffer that begins with the frame (Noise 3 and 13).
use Rattle.std.specs.Prelude.{◌≡◌, ◌≤◌, ℕ, ◌-◌, List, ◌++◌, length, slice_range}
use Rattle.noise_session.specs.Frames.{frame, frame_length, IsPartial}
use Rattle.noise_channel.specs.declared.frames.Framed.{Framed}
use Rattle.noise_channel.specs.declared.frames.Framed.TheVariants as framed

-- the buffer begins with the frame of this message
pub record Begins (buffer message : List ℕ) : Type 0 where
  pub rest : List ℕ
  pub spelled : buffer ≡ frame message ++ rest
  pub short : length message ≤ 65535

-- What `next_frame` returns of a buffer: how many bytes more its frame wants, or where the message of its frame lies.
abbrev pub Frames : List ℕ → Framed → Type 0
Frames buffer (framed.Wants count) = IsPartial buffer × (count ≡ frame_length buffer - length buffer) × (1 ≤ count)
    × (count ≤ 65535)
Frames buffer (framed.Message from to) =
    (from ≡ 2) × (from ≤ to) × (to ≡ frame_length buffer) × (to ≤ length buffer) × (to ≤ 65537)
    × Begins buffer (slice_range buffer from to)
