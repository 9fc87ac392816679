-- What is said of a log that is compared, in a document.
use Rattle.std.specs.Prelude.{◌≡◌, ℕ, List, [], ◌∷◌, ◌++◌, Option, Some, None, codes, if◌then◌else◌, length, slice_index_or}
use Rattle.noise_compare.specs.Differences.{Agrees as AllAgree, IsFirstDifference}
use Rattle.noise_compare.specs.Lines.{is_same_word, word_at, words_in}
use Rattle.noise_compare.specs.declared.comparison.Finding.{Finding}
use Rattle.noise_compare.specs.declared.comparison.Finding.TheVariants.{Agrees, Ends, Differs}
use Rattle.noise_compare.specs.declared.line.Line.{Line}
use Rattle.noise_json.specs.Values.{bytes_data, list_data, with}
use Rattle.serde_json.specs.Data.{Data, Members, no_members, number, object, string, unsigned}

-- the names of the log and of the vector file
unfoldable pub named_facts : List ℕ → List ℕ → Members → Members
named_facts log file facts = with (codes "file") (string file) (with (codes "log") (string log) facts)

-- where a line of a key schedule stands
unfoldable pub place_facts : Line → Members → Members
place_facts line facts = with (codes "step") (bytes_data (word_at (words_in line) 4))
    (with (codes "part") (bytes_data (word_at (words_in line) 2))
    (with (codes "role") (bytes_data (word_at (words_in line) 1)) facts))

-- the number of a line of the log, and where it stands
unfoldable pub line_data : Line → Data
line_data line = object (place_facts line (with (codes "number") (number (unsigned line.number)) no_members))

-- a value by its name, the right one, and that of the log
unfoldable pub difference_data : List ℕ → List ℕ → List ℕ → Data
difference_data name right yours = object (with (codes "yours") (bytes_data yours)
    (with (codes "right") (bytes_data right) (with (codes "value") (string name) no_members)))

-- the value of this name, if it differs
unfoldable pub value_data : List ℕ → ℕ → Line → Line → List Data
value_data name i logged right = if is_same_word logged right i then [] else
    difference_data name (word_at (words_in right) i) (word_at (words_in logged) i) ∷ []

-- each value that differs
abbrev pub values_data : Line → Line → List Data
values_data logged right = (((value_data (codes "bytes") 7 logged right
    ++ value_data (codes "hash") 8 logged right)
    ++ value_data (codes "chaining-key") 9 logged right)
    ++ value_data (codes "key") 10 logged right)
    ++ value_data (codes "nonce") 11 logged right

-- none where the key schedule has no line of that place
abbrev pub right_data : Line → Option Line → List Data
right_data logged None = []
right_data logged (Some right) = values_data logged right

-- how many lines agree
unfoldable pub agrees_facts : List ℕ → ℕ → Members
agrees_facts finding lines = with (codes "lines") (number (unsigned lines)) (with (codes "finding") (string finding) no_members)

unfoldable pub differs_facts : Line → Option Line → Members
differs_facts line expected = with (codes "values") (list_data (right_data line expected))
    (with (codes "line") (line_data line) (with (codes "finding") (string (codes "differs")) no_members))

-- nothing is compared
unfoldable pub refused_facts : Members
refused_facts = with (codes "finding") (string (codes "refused")) no_members

-- This is the first line of the log that differs, beside this right one, if there is one.
pub record DiffersAt (right log : List Line) (line : Line) (expected : Option Line) : Type 0 where
  pub index : ℕ
  pub left : ℕ
  pub first : IsFirstDifference right log index left expected
  pub line_is : line ≡ slice_index_or log index line

-- what was found of a log: its lines agree, or one doesn't
abbrev pub IsFindingOf : Finding → List Line → List Line → Type 0
IsFindingOf Agrees right log = AllAgree right log
IsFindingOf Ends right log = AllAgree right log
IsFindingOf Differs right log = AllAgree right log → ⊥

-- the facts that say so: how many lines agree, or the first that differs
abbrev pub AreFactsOf : Finding → List Line → List Line → Members → Type 0
AreFactsOf Agrees right log facts = facts ≡ agrees_facts (codes "agrees") (length log)
AreFactsOf Ends right log facts = facts ≡ agrees_facts (codes "ends") (length log)
AreFactsOf Differs right log facts = (line : Line) × (expected : Option Line) × DiffersAt right log line expected
    × (facts ≡ differs_facts line expected)
