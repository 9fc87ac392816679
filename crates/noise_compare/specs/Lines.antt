-- A line of a key schedule, by its words.
use Rattle.std.specs.Prelude.{ℕ, ◌==◌, Bool, ◌&&◌, ◌||◌, List, [], codes, map, slice_get, unwrap_or}
use Rattle.std.specs.List.{slice_split}
use Rattle.std.specs.Str.{bytes_eq}
use Rattle.noise_compare.specs.Words.{is_same_in_form}
use Rattle.noise_compare.specs.declared.line.Line.{Line}

-- the words between spaces
abbrev pub line_words : List ℕ → List (List ℕ)
line_words text = slice_split (λ b. b == 32) text

-- the words of a line that is held
abbrev pub words_in : Line → List (List ℕ)
words_in line = map (λ word. word.now) line.words.items

-- word i, from 0 on, or nothing
abbrev pub word_at : List (List ℕ) → ℕ → List ℕ
word_at words i = unwrap_or (slice_get words i) []

-- a line of a party's key schedule, by its first two words
unfoldable pub is_of_schedule : List (List ℕ) → Bool
is_of_schedule words = bytes_eq (word_at words 0) (codes "trace")
    && (bytes_eq (word_at words 1) (codes "initiator") || bytes_eq (word_at words 1) (codes "responder"))

-- a right line has the role, the part and the name of a logged one
unfoldable pub is_of_place : Line → Line → Bool
is_of_place logged right = bytes_eq (word_at (words_in right) 1) (word_at (words_in logged) 1)
    && bytes_eq (word_at (words_in right) 2) (word_at (words_in logged) 2)
    && bytes_eq (word_at (words_in right) 4) (word_at (words_in logged) 4)

-- the logged line has this word of the right one, in any of its forms, or `?` for a word that was not logged
abbrev pub is_same_word : Line → Line → ℕ → Bool
is_same_word logged right i = bytes_eq (word_at (words_in logged) i) (codes "?")
    || bytes_eq (word_at (words_in right) i) (word_at (words_in logged) i)
    || is_same_in_form i (word_at (words_in right) i) (word_at (words_in logged) i)

-- the bytes, the hash, the chaining key, the key and the nonce
unfoldable pub has_values : Line → Line → Bool
has_values logged right = is_same_word logged right 7 && is_same_word logged right 8 && is_same_word logged right 9
    && is_same_word logged right 10 && is_same_word logged right 11
