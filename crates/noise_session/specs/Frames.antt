-- How messages travel in a stream (Noise 3 and 13): each after its length.
use Rattle.std.specs.Prelude.{◌≡◌, ℕ, ◌+◌, ◌<◌, List, ◌++◌, length, if◌then◌else◌, nat_lt}
use Rattle.byteorder.specs.Endian.{big_bytes, big_number}

-- a message after its length, in 2 bytes, the highest first
abbrev pub frame : List ℕ → List ℕ
frame message = big_bytes 2 (length message) ++ message

-- how long the frame is that begins with these bytes, as far as they show: at least the 2 of its length
abbrev pub frame_length : List ℕ → ℕ
frame_length bytes = if nat_lt (length bytes) 2 then 2 else 2 + big_number 2 bytes

-- less than a frame
abbrev pub IsPartial : List ℕ → Type 0
IsPartial bytes = length bytes < frame_length bytes

-- a frame and no more
abbrev pub IsWhole : List ℕ → Type 0
IsWhole bytes = length bytes ≡ frame_length bytes
