-- A log that is cut off in its last line.
use Rattle.std.specs.Prelude.{ℕ, ◌-◌, ◌==◌, ◌&&◌, List, [], ◌++◌, Bool, not, codes, decimal, if◌then◌else◌, length, slice_get, take, unwrap_or}
use Rattle.std.specs.List.{slice_split}
use Rattle.noise_compare.specs.Lines.{is_of_schedule, line_words}
use Rattle.noise_compare.specs.Plain.{plain_bytes, plain_line}
use Rattle.noise_compare.specs.Reading.{is_wrong}
use Rattle.noise_compare.specs.Report.{ended}

abbrev pub lines_of : List ℕ → List (List ℕ)
lines_of text = slice_split (λ b. b == 10) text

abbrev pub line_count : List ℕ → ℕ
line_count text = length (lines_of text)

abbrev pub last_of : List (List ℕ) → List ℕ
last_of parts = unwrap_or (slice_get parts (length parts - 1)) []

-- what follows the last LF
abbrev pub last_line : List ℕ → List ℕ
last_line text = last_of (lines_of text)

-- it begins as a line of a key schedule, and has more or fewer than twelve words
abbrev pub is_cut : List ℕ → Bool
is_cut text = is_wrong (plain_line (last_line text))

-- what follows its last space: it may be a part of a word
abbrev pub last_word : List ℕ → List ℕ
last_word text = last_of (slice_split (λ b. b == 32) (plain_bytes (last_line text)))

abbrev pub is_whole_line : List ℕ → Bool
is_whole_line text = is_of_schedule (line_words text) && length (line_words text) == 12

-- the last line has twelve words, and may be cut off in the twelfth, the nonce
abbrev pub has_cut_nonce : List ℕ → Bool
has_cut_nonce text = is_whole_line (plain_line (last_line text)) && not (length (last_word text) == 0)

-- without so many bytes at the end
abbrev pub without_last : List ℕ → ℕ → List ℕ
without_last text count = take (length text - count) text

-- A log without its last line, if that is cut off, or with `?` for its last nonce, if that may be.
unfoldable pub whole_lines : List ℕ → List ℕ
whole_lines text = if is_cut text then without_last text (length (last_line text))
    else (if has_cut_nonce text then without_last text (length (last_word text)) ++ codes "?" else text)

unfoldable pub cut_line : ℕ → List ℕ
cut_line number = codes "the last line, " ++ (decimal number ++ ended (codes ", is cut off"))

unfoldable pub cut_nonce_line : ℕ → List ℕ
cut_nonce_line number =
    codes "the last line, " ++ (decimal number ++ ended (codes ", has no LF: its nonce may be cut off, and isn't compared"))

-- that it is passed over, or that its nonce is
unfoldable pub cut_text : List ℕ → List ℕ
cut_text text = if is_cut text then cut_line (line_count text)
    else (if has_cut_nonce text then cut_nonce_line (line_count text) else [])
