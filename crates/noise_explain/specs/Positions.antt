-- Lines of a text, and the columns of its faults. Both count from 1.
use Rattle.std.specs.Prelude.{◌≡◌, ◌≢◌, ℕ, zero, suc, ◌+◌, ◌-◌, ◌==◌, ◌||◌, List, ◌∷◌, [], ◌++◌, codes, drop, flat_map, length, min, if◌then◌else◌}
use Rattle.std.specs.Bool.{nat_eq}
use Rattle.std.specs.List.{starts_with}
use Rattle.noise_names.specs.declared.faults.TextFaultKind.{TextFaultKind}
use Rattle.noise_names.specs.declared.faults.TextFaultKind.TheVariants as kinds
use Rattle.noise_names.specs.declared.token.Token.{Token}
use Rattle.noise_names.specs.Names.{base_front, is_upper}
use Rattle.noise_names.specs.Text.{word_of}
use Rattle.noise_names.specs.WrongText.{first_line}

-- ---- lines

-- what follows the text's first line and its line feed
abbrev pub after_line : List ℕ → List ℕ
after_line text = drop 1 (drop (length (first_line text)) text)

-- what is left of a text after so many steps
abbrev pub repeated : (List ℕ → List ℕ) → ℕ → List ℕ → List ℕ
repeated step zero text = text
repeated step (suc n) text = repeated step n (step text)

-- the text from the line of this number on, from 1; empty where the text has fewer lines
abbrev pub from_line : ℕ → List ℕ → List ℕ
from_line number text = repeated after_line (number - 1) text

-- the line of this number, without its line feed
abbrev pub line_at : List ℕ → ℕ → List ℕ
line_at text number = first_line (from_line number text)

-- ---- the column of a fault of a pattern text

-- tokens, each with a comma and a space after it
abbrev pub words_before : List Token → List ℕ
words_before tokens = flat_map (λ t. word_of t ++ codes ", ") tokens

-- The list of a message's tokens goes wrong at this column: right tokens stand before it, each with a comma and a space
-- after it, and no further one follows. Two spaces, an arrow and a space, five bytes, stand before the list.
pub record IsWrongPiece (list : List ℕ) (column : ℕ) : Type 0 where
  pub right : List Token
  pub rest : List ℕ
  pub list_is : list ≡ words_before right ++ rest
  pub last : (t : Token) (more : List ℕ) → rest ≢ word_of t ++ (codes ", " ++ more)
  pub column_is : column ≡ length (words_before right) + 6

-- where the front of a line of tokens goes wrong: at its two spaces, at its arrow, or at the space after that
abbrev pub arrow_column : List ℕ → ℕ
arrow_column line =
    if starts_with nat_eq line (codes "  ")
    then (if starts_with nat_eq line (codes "  ->") || starts_with nat_eq line (codes "  <-") then 5 else 3)
    else 1

-- where a heading leaves its base, which begins with a letter and has at most 8 bytes
abbrev pub heading_column : List ℕ → ℕ
heading_column [] = 1
heading_column (b ∷ bs) = if is_upper b then min (length (base_front (b ∷ bs))) 8 + 1 else 1

-- The column of a fault in its line: of a piece that is no token where that begins; of a line with a wrong front, or a
-- heading, where it goes wrong; of a line that isn't to stand there, or is another party's, its arrow; of psk places
-- the first of the heading, or the message's tokens; of an early end the line's end.
abbrev pub IsColumn : TextFaultKind → ℕ → List ℕ → ℕ → Type 0
IsColumn kinds.Heading number line column = column ≡ heading_column line
IsColumn kinds.Arrow number line column = column ≡ arrow_column line
IsColumn kinds.Token number line column = IsWrongPiece (drop 5 line) column
IsColumn kinds.PreMessage number line column = column ≡ 3
IsColumn kinds.Turn number line column = column ≡ 3
IsColumn kinds.PskPlace number line column = column ≡ (if number == 1 then heading_column line else 6)
IsColumn kinds.NameTaken number line column = column ≡ 1
IsColumn kinds.Limit number line column = column ≡ 3
IsColumn kinds.Ending number line column = column ≡ length line + 1
