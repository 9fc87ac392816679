-- The part in which two states of a party differ, and what is said of two lines of a run.
use Rattle.std.specs.Prelude.{◌≡◌, ◌≢◌, ◌⊎◌, ℕ, ◌==◌, List, ◌++◌, codes, count_by, take, if◌then◌else◌}
use Rattle.std.specs.Bool.{nat_eq}
use Rattle.std.specs.List.{starts_with}
use Rattle.noise_names.specs.declared.token.Role.{Role}
use Rattle.noise_names.specs.Plan.{Plan}
use Rattle.noise_vectors.specs.VectorText.{role_word}
use Rattle.noise_explain.specs.FramePieces.{HaveNoFrame, IsFirstDifferent, SaysPiece}

-- ---- lines of states

-- The line of a run that shows the state of a party is `state ROLE WORDS`. This stands before its words.
abbrev pub state_front : Role → List ℕ
state_front role = codes "state " ++ role_word role ++ codes " "

-- two lines are of these states of a party
pub record AreStates (role : Role) (expected printed yours right : List ℕ) : Type 0 where
  pub expected_is : expected ≡ state_front role ++ yours
  pub printed_is : printed ≡ state_front role ++ right

-- two lines that differ aren't both of states of this party, and of none
abbrev pub HasNoState : Role → List ℕ → List ℕ → Type 0
HasNoState role expected printed =
    expected ≢ printed → (yours right : List ℕ) → ¬ AreStates role expected printed yours right

abbrev pub HaveNoState : List ℕ → List ℕ → Type 0
HaveNoState expected printed = (role : Role) → HasNoState role expected printed

-- ---- how they differ

abbrev pub spaces : List ℕ → ℕ
spaces bytes = count_by (λ b. b == 32) bytes

-- The words of a state are `handshake M`, `transport S R HASH`, `datagrams S` or `ended`. So many spaces stand before
-- the part.
abbrev pub state_part : List ℕ → ℕ → List ℕ
state_part state n =
    if n == 0 then codes "stage"
    else if n == 1 then
    (if starts_with nat_eq state (codes "handshake ") then codes "count of messages" else codes "nonce for sending")
    else if n == 2 then codes "nonce for receiving"
    else codes "handshake hash"

abbrev pub state_text : Role → List ℕ → List ℕ
state_text role part =
    codes "all frames agree: the state of the " ++ role_word role ++ codes " differs in its " ++ part

-- of two lines of states of a party: the part that has the first byte at which the states differ
pub record SaysStateOf (role : Role) (expected printed line : List ℕ) : Type 0 where
  pub yours : List ℕ
  pub right : List ℕ
  pub states : AreStates role expected printed yours right
  pub at : ℕ
  pub differ : IsFirstDifferent yours right at
  pub line_is : line ≡ state_text role (state_part yours (spaces (take at yours)))

abbrev pub SaysState : List ℕ → List ℕ → List ℕ → Type 0
SaysState expected printed line = (role : Role) × SaysStateOf role expected printed line

-- ---- what is said of two lines

-- of frames of one message the piece, of states of one party the part
abbrev pub SaysDifference : Plan → List ℕ → List ℕ → List ℕ → Type 0
SaysDifference p expected printed line =
    ((n : ℕ) × SaysPiece p n expected printed line) ⊎ SaysState expected printed line

-- nothing, where they are neither
abbrev pub HaveNoDifference : Plan → List ℕ → List ℕ → Type 0
HaveNoDifference p expected printed = HaveNoFrame p expected printed × HaveNoState expected printed
