-- Windows over the nonces of datagrams, and which of these were accepted (Noise 11.4).
use Rattle.std.specs.Prelude.{◌≡◌, ◌≤◌, ◌<◌, ◌+◌, ◌/◌, ◌%◌, ◌^◌, ◌==◌, ◌&&◌, ◌||◌, ℕ, List, [], ◌∷◌, Bool, true, false, nat_le, nat_lt, slice_index, drop, min}
use Rattle.std.specs.Prelude.{Option, Some, None, if◌then◌else◌}
use Rattle.std.specs.Int.{bit_at}
use Rattle.std.specs.List.{list_all}
use Rattle.noise_events.specs.declared.window.Window.{Window}
use Rattle.noise_events.specs.Windows.{width_of}
use Rattle.noise_session.specs.declared.window.Ring.{Ring}
use Rattle.noise_session.specs.declared.datagram_fault.DatagramFault.{DatagramFault}
use Rattle.noise_session.specs.declared.datagram_fault.DatagramFault.TheVariants as fault
use Rattle.noise_session.specs.Transport.{last_nonce}

-- how many words a ring uses: one more than the width has
abbrev pub bitmap_len : Window → ℕ
bitmap_len window = width_of window / 64 + 1

-- The accepted nonces are a set: of the list it counts only which nonces stand in it.

-- whether a nonce is one of them
abbrev pub is_accepted : List ℕ → ℕ → Bool
is_accepted [] nonce = false
is_accepted (n ∷ accepted) nonce = (n == nonce) || is_accepted accepted nonce

-- whether one of them is at least the width above this nonce
abbrev pub is_old : ℕ → List ℕ → ℕ → Bool
is_old width [] nonce = false
is_old width (n ∷ accepted) nonce = nat_le (nonce + width) n || is_old width accepted nonce

-- why no datagram of this nonce is opened: the first of these
abbrev pub window_fault : ℕ → List ℕ → ℕ → Option DatagramFault
window_fault width accepted nonce =
    if is_old width accepted nonce then Some fault.Old
    else if is_accepted accepted nonce then Some fault.Repeated
    else None

-- the bit of a nonce in a ring: that of its place in the word of its block of 64
abbrev pub bit_of : Ring → ℕ → ℕ
bit_of r nonce = bit_at (slice_index r.words (nonce / 64 % bitmap_len r.window)) (nonce % 64)

-- whether a ring's greatest nonce is at least the width above this nonce
abbrev pub is_below : Ring → ℕ → Bool
is_below r nonce = nat_le (nonce + width_of r.window) r.greatest

-- whether a ring has the bit of this nonce, which isn't old
abbrev pub is_marked : Ring → ℕ → Bool
is_marked r nonce = nat_le nonce r.greatest && (bit_of r nonce == 1)

-- why no datagram of this nonce is opened, by the ring alone: the first of these
abbrev pub ring_fault : Ring → ℕ → Option DatagramFault
ring_fault r nonce =
    if is_below r nonce then Some fault.Old
    else if is_marked r nonce then Some fault.Repeated
    else None

-- Of the accepted nonces the ring has the greatest, and which there are in its block and in as many blocks below as the
-- width has.
pub record Recalls (r : Ring) (accepted : List ℕ) : Type 0 where
  pub greatest : (n : ℕ) → is_accepted accepted n ≡ true → n ≤ r.greatest
  pub reached : 0 < r.greatest → is_accepted accepted r.greatest ≡ true
  pub bits : (n : ℕ) → n / 64 ≤ r.greatest / 64 → r.greatest / 64 < n / 64 + bitmap_len r.window
      → (bit_of r n == 1) ≡ is_accepted accepted n

-- ---- rings that some accepted nonces have

-- the word of the greatest nonce's block
abbrev pub top_word : Ring → ℕ
top_word r = slice_index r.words (r.greatest / 64 % bitmap_len r.window)

-- The highest bit of that word is the greatest nonce's. Where the greatest is 0 it may be that none was accepted: then
-- there is no bit.
abbrev pub ends_at_greatest : Ring → Bool
ends_at_greatest r = (top_word r / 2 ^ (r.greatest % 64) == 1) || ((r.greatest == 0) && (top_word r == 0))

-- how many words have had a block: one for each up to the greatest nonce's, and no more than the ring uses
abbrev pub begun_words : Ring → ℕ
begun_words r = min (bitmap_len r.window) (r.greatest / 64 + 1)

-- Some accepted nonces have this ring: the greatest isn't the nonce that no message has, its bit is there, and none
-- above it.
abbrev pub is_ring : Ring → Bool
is_ring r = nat_lt r.greatest last_nonce && ends_at_greatest r && list_all
    (λ word. word == 0) (drop (begun_words r) r.words)
