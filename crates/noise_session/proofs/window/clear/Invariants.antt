use Rattle.std.proofs.Common.{◌≡◌, ℕ, ◌+◌, ◌<◌, ◌≤◌, ◌%◌, length, drop, min, slice_index}
use Rattle.noise_session.proofs.Common.{bitmap_len}
use Rattle.noise_session.proofs.window.clear.Given as goal

abbrev pub invariant-loop-back : goal.invariant-loop-back
invariant-loop-back l = record {
  room : length l.words ≡ 17;
  fresh : (b : ℕ) → b ≤ l.block → l.block < b + bitmap_len l.window → l.block < b + l.back → slice_index l.words (b % bitmap_len l.window) ≡ 0;
  unchanged : (b : ℕ) → b + l.back ≤ l.block → l.block < b + bitmap_len l.window
      → slice_index l.words (b % bitmap_len l.window) ≡ slice_index l.initial.words (b % bitmap_len l.window);
  beyond : drop (min (bitmap_len l.window) (l.block + 1)) l.words ≡ drop (min (bitmap_len l.window) (l.block + 1)) l.initial.words;
}
