-- The pieces that bytes are handed over in.
use Rattle.std.specs.Prelude.{ℕ, ◌-◌, Bool, ◌&&◌, List, length, min, nat_le, nat_lt, slice_index_or}

-- at most 8 lengths, the last of which, if there is one, is not 0
abbrev pub are_cuts : List ℕ → Bool
are_cuts ns = nat_le (length ns) 8 && nat_lt 0 (slice_index_or ns (length ns - 1) 1)

-- The length of the piece of this index: that of the list, and after the list's end its last one; without any lengths
-- all that is left. It is never more than what is left.
abbrev pub piece_len_of : List ℕ → ℕ → ℕ → ℕ
piece_len_of cuts index left = min left (slice_index_or cuts index (slice_index_or cuts (length cuts - 1) left))
