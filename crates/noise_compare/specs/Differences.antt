-- Where the lines of a log first part from those of a key schedule.
use Rattle.std.specs.Prelude.{⊤, ◌≡◌, ℕ, ◌<◌, ◌≤◌, ◌&&◌, Bool, true, false, not, List, [], ◌∷◌, ◌++◌, Option, Some, None, IfSome}
use Rattle.std.specs.Prelude.{codes, count_by, drop, find, if◌then◌else◌, length, nat_lt, option_and_then, slice_index_or, take}
use Rattle.std.specs.List.{All, filter}
use Rattle.std.specs.Option.{option_or}
use Rattle.std.specs.Str.{bytes_eq}
use Rattle.noise_compare.specs.Lines.{has_values, is_of_place, is_same_word, word_at, words_in}
use Rattle.noise_compare.specs.declared.difference.Rule.{Rule}
use Rattle.noise_compare.specs.declared.difference.Rule.TheVariants.{InTurn, ByValues}
use Rattle.noise_compare.specs.declared.line.Line.{Line}

unfoldable pub is_of_responder : Line → Bool
is_of_responder line = bytes_eq (word_at (words_in line) 1) (codes "responder")

-- the lines of the responder, or those of the initiator
abbrev pub of_role : Bool → List Line → List Line
of_role true lines = filter is_of_responder lines
of_role false lines = filter (λ line. not (is_of_responder line)) lines

-- a right line has the place and the values of a logged one
abbrev pub is_match : Line → Line → Bool
is_match logged right = is_of_place logged right && has_values logged right

-- Each line of a log has the place and the values of one of the right lines, in their order. Right lines may stand
-- between.
abbrev pub AreAmong : List Line → List Line → Type 0
AreAmong [] right = ⊤
AreAmong (logged ∷ more) right = (passed : List Line) × (found : Line) × (rest : List Line)
    × (right ≡ passed ++ found ∷ rest) × (is_match logged found ≡ true) × AreAmong more rest

-- The lines of each role are. The log may have the two roles in any order, and the lines of each in their own.
abbrev pub Agrees : List Line → List Line → Type 0
Agrees right log = (role : Bool) → AreAmong (of_role role log) right

-- ---- the right lines beside those of a log

-- A logged line is laid beside the first right line of its place, or beside the first that has its values too.
abbrev pub is_due : Rule → Line → Line → Bool
is_due InTurn logged right = is_of_place logged right
is_due ByValues logged right = is_match logged right

-- This is the right line beside a logged one, with its values. These are the lines after it.
pub record IsMatched (rule : Rule) (logged : Line) (right rest : List Line) : Type 0 where
  pub passed : List Line
  pub found : Line
  pub right_are : right ≡ passed ++ found ∷ rest
  pub others : All (λ line. is_due rule logged line ≡ false) passed
  pub due : is_due rule logged found ≡ true
  pub values : has_values logged found ≡ true

-- logged lines are matched one after another, each by the right lines that the one before it leaves; these are left at last
abbrev pub AreMatched : Rule → List Line → List Line → List Line → Type 0
AreMatched rule [] right left = left ≡ right
AreMatched rule (logged ∷ more) right left =
    (rest : List Line) × IsMatched rule logged right rest × AreMatched rule more rest left

-- those of each role are
abbrev pub AllMatched : Rule → List Line → List Line → Type 0
AllMatched rule right log = (role : Bool) → (left : List Line) × AreMatched rule (of_role role log) right left

-- a right line has the place and the nonce of a logged one
abbrev pub is_of_nonce : Line → Line → Bool
is_of_nonce logged right = is_of_place logged right && is_same_word logged right 11

-- the right line that a logged one is compared with: the first of its place and nonce, or else of its place
abbrev pub nearest : Line → List Line → Option Line
nearest logged right = option_or (find (is_of_nonce logged) right) (find (is_of_place logged) right)

-- the right line beside which a logged one is shown that isn't matched
abbrev pub beside : Rule → Line → List Line → Option Line
beside InTurn logged right = find (is_of_place logged) right
beside ByValues logged right = nearest logged right

-- A line isn't matched after these of its role. In turn, the next right line of its place has other values. By values,
-- it and those before it aren't among the right lines in any way.
abbrev pub Stops : Rule → List Line → Line → List Line → List Line → Type 0
Stops InTurn before line right left = IfSome (find (is_of_place line) left) (λ found. has_values line found ≡ false)
Stops ByValues before line right left = AreAmong (before ++ line ∷ []) right → ⊥

-- The line of the log at this index is the first that isn't matched. Those before it of its role leave the right lines
-- from this place on, and this is the one beside which it is shown.
pub record IsUnmatched (rule : Rule) (right log : List Line) (index left : ℕ) (expected : Option Line) (line : Line) : Type 0 where
  pub within : index < length log
  pub left_within : left ≤ length right
  pub line_is : line ≡ slice_index_or log index line
  pub before : Agrees right (take index log)
  pub matched : AllMatched rule right (take index log)
  pub left_are : AreMatched rule (of_role (is_of_responder line) (take index log)) right (drop left right)
  pub stops : Stops rule (of_role (is_of_responder line) (take index log)) line right (drop left right)
  pub expected_is : expected ≡ beside rule line (drop left right)

-- the log has as many lines of a line's place as the schedule: it lacks none there
abbrev pub is_whole : List Line → List Line → Line → Bool
is_whole right log line = not (nat_lt (count_by (is_of_place line) log) (count_by (is_of_place line) right))

abbrev pub rule_by : Bool → Rule
rule_by is_whole = if is_whole then InTurn else ByValues

-- The log doesn't agree, and of its lines this is the first that isn't matched: in turn, if it lacks no line of the place
-- of the first that isn't so, and else by values.
pub record IsFirstDifference (right log : List Line) (index left : ℕ) (expected : Option Line) : Type 0 where
  pub differs : Agrees right log → ⊥
  pub turn : ℕ
  pub turn_left : ℕ
  pub turn_expected : Option Line
  pub turn_line : Line
  pub in_turn : IsUnmatched InTurn right log turn turn_left turn_expected turn_line
  pub line : Line
  pub unmatched : IsUnmatched (rule_by (is_whole right log turn_line)) right log index left expected line

-- ---- the next step

-- the right lines after the one that matches a logged line, if one does
abbrev pub after_match : Rule → Line → List Line → Option (List Line)
after_match rule logged [] = None
after_match rule logged (right ∷ more) =
    if is_due rule logged right then (if has_values logged right then Some more else None) else after_match rule logged more

-- a line of the start or of a handshake message, of the role of a logged line
unfoldable pub is_step_of : Line → Line → Bool
is_step_of logged right = bytes_eq (word_at (words_in right) 1) (word_at (words_in logged) 1)
    && not (bytes_eq (word_at (words_in right) 2) (codes "open"))
    && not (bytes_eq (word_at (words_in right) 2) (codes "transport"))
    && not (bytes_eq (word_at (words_in right) 2) (codes "datagrams"))

-- the next step of the handshake after that of a logged line
abbrev pub next_step : List Line → Line → Option Line
next_step right logged = option_and_then (find (is_step_of logged)) (after_match ByValues logged right)
