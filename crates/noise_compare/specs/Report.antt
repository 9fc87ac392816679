-- What is printed of a log.
use Rattle.std.specs.Prelude.{ℕ, Bool, List, [], ◌∷◌, ◌++◌, Option, Some, None, codes, count_by, decimal, flat_map, if◌then◌else◌, length, nat_lt, slice_get, unwrap_or}
use Rattle.std.specs.Str.{bytes_eq}
use Rattle.noise_compare.specs.Lines.{is_same_word, word_at, words_in}
use Rattle.noise_compare.specs.declared.line.Line.{Line}

abbrev pub ended : List ℕ → List ℕ
ended text = text ++ 10 ∷ []

abbrev pub joined : List (List ℕ) → List ℕ
joined words = flat_map (λ word. word) words

-- a message by its number, and any other part by its name
unfoldable pub is_number : List ℕ → Bool
is_number part = nat_lt (unwrap_or (slice_get part 0) 97) 58

abbrev pub part_name : List ℕ → List ℕ
part_name part = if is_number part then codes "message " ++ part else part

-- a front, and the role, the part and the name of a line
unfoldable pub place_line : List ℕ → Line → List ℕ
place_line front line = front ++ (word_at (words_in line) 1 ++ (codes ", " ++ (part_name (word_at (words_in line) 2)
    ++ (codes ", " ++ ended (word_at (words_in line) 4)))))

-- two lines with a value that differs: the right one, and that of the log
unfoldable pub value_text : List ℕ → ℕ → Line → Line → List ℕ
value_text name i logged right = if is_same_word logged right i then [] else
    ended (codes "right " ++ (name ++ 32 ∷ word_at (words_in right) i))
    ++ ended (codes "yours " ++ (name ++ 32 ∷ word_at (words_in logged) i))

-- those of each value that differs
abbrev pub values_text : Line → Line → List ℕ
values_text logged right = value_text (codes "bytes") 7 logged right
    ++ (value_text (codes "hash") 8 logged right
    ++ (value_text (codes "chaining-key") 9 logged right
    ++ (value_text (codes "key") 10 logged right ++ value_text (codes "nonce") 11 logged right)))

abbrev pub right_text : Line → Option Line → List ℕ
right_text logged None = []
right_text logged (Some right) = values_text logged right

-- the line of the log, the values that differ, and lines of advice
unfoldable pub difference_text : Line → Option Line → List ℕ → List ℕ
difference_text logged expected advice =
    place_line (codes "differs at line " ++ (decimal logged.number ++ codes ": ")) logged
    ++ (right_text logged expected ++ advice)

-- a key of Split
unfoldable pub is_of_split : Line → Bool
is_of_split line = bytes_eq (word_at (words_in line) 2) (codes "open")

-- how many lines there are, and how many of them are of Split
unfoldable pub agreement_text : List Line → List ℕ
agreement_text log = codes "agrees in " ++ (decimal (length log) ++ (ended (codes " lines")
    ++ (codes "lines of Split compared: " ++ (decimal (count_by is_of_split log)
    ++ (ended [] ++ ended (codes "decrypted texts compared: none"))))))

-- the step before which the log ends
unfoldable pub ending_text : Line → List ℕ → List ℕ
ending_text next advice = place_line (codes "ends before ") next ++ advice
