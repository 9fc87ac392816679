-- The lines that people log, as lines of `trace`.
use Rattle.std.specs.Prelude.{ℕ, ◌==◌, ◌&&◌, ◌||◌, Bool, not, List, [], ◌∷◌, ◌++◌, codes, count_by, decimal, drop, flat_map, fold, if◌then◌else◌, length, map, nat_le, nat_lt, take}
use Rattle.std.specs.Char.{to_ascii_lowercase}
use Rattle.std.specs.List.{filter, slice_split}
use Rattle.std.specs.Str.{bytes_eq}
use Rattle.noise_compare.specs.Report.{ended}

-- A tab and a carriage return are spaces, and `A` to `Z` are lower-case. A full stop stands for a byte that isn't printed.
abbrev pub plain_byte : ℕ → ℕ
plain_byte b = if b == 9 || b == 13 then 32 else (if nat_lt b 32 || nat_lt 126 b then 46 else to_ascii_lowercase b)

abbrev pub plain_bytes : List ℕ → List ℕ
plain_bytes text = map plain_byte text

abbrev pub begins_with : List ℕ → List ℕ → Bool
begins_with text front = nat_le (length front) (length text) && bytes_eq (take (length front) text) front

abbrev pub without : List ℕ → List ℕ → List ℕ
without word front = if begins_with word front then drop (length front) word else word

-- a word without `b'`, `0x` and quotes (39)
abbrev pub bare_word : List ℕ → List ℕ
bare_word word = filter (λ b. not (b == 39)) (without (without word (codes "b'")) (codes "0x"))

-- a word for no bytes
unfoldable pub is_none : List ℕ → Bool
is_none word = bytes_eq word (codes "none") || bytes_eq word (codes "null") || bytes_eq word (codes "nil")
    || bytes_eq word (codes "(none)")

-- it stands for `-`
abbrev pub plain_word : List ℕ → List ℕ
plain_word word = if is_none (bare_word word) then codes "-" else bare_word word

-- a line with a further word, after a space if it isn't the first; what stands between two spaces is none
abbrev pub add_word : List ℕ → List ℕ → List ℕ
add_word line word = if length word == 0 then line
    else (if length line == 0 then plain_word word else line ++ 32 ∷ plain_word word)

-- a line of plain words, with single spaces
abbrev pub plain_words : List ℕ → List ℕ
plain_words text = fold add_word [] (slice_split (λ b. b == 32) (plain_bytes text))

unfoldable pub begins_schedule : List ℕ → Bool
begins_schedule text = begins_with text (codes "trace initiator ") || begins_with text (codes "trace responder ")

-- this text, if it begins as a line of a key schedule, or else another
abbrev pub place_or : List ℕ → List ℕ → List ℕ
place_or here other = if begins_schedule here then here else other

-- from the last such place on, or this
abbrev pub last_place_or : List ℕ → List ℕ → List ℕ
last_place_or found [] = found
last_place_or found (b ∷ rest) = last_place_or (place_or (b ∷ rest) found) rest

-- from the last `trace initiator ` or `trace responder ` on
abbrev pub from_trace : List ℕ → List ℕ
from_trace text = last_place_or [] text

abbrev pub plain_line : List ℕ → List ℕ
plain_line text = from_trace (plain_words text)

-- each line of a text, with LF after it
abbrev pub plain_text : List ℕ → List ℕ
plain_text text = flat_map (λ line. plain_line line ++ 10 ∷ []) (slice_split (λ b. b == 10) text)

-- a line that isn't blank
abbrev pub is_written : List ℕ → Bool
is_written text = nat_lt 0 (count_by (λ b. not (b == 32) && not (b == 9) && not (b == 13)) text)

abbrev pub written_lines : List ℕ → ℕ
written_lines text = count_by is_written (slice_split (λ b. b == 10) text)

unfoldable pub skipped_line : ℕ → List ℕ
skipped_line count = codes "lines passed over: " ++ ended (decimal count)

-- how many lines are passed over, if any are
abbrev pub skipped_text : ℕ → List ℕ
skipped_text count = if count == 0 then [] else skipped_line count
