-- What is judged of the lines of a text, for the parts of the search for its first fault. No public contract cites this
-- file.
use Rattle.std.specs.Prelude.{◌≡◌, ◌≢◌, ◌⊎◌, ◌↔◌, ℕ, ◌+◌, ◌≤◌, Bool, List, [], ◌∷◌, ◌++◌, length, IsTrue, IsFalse, take, true, false, if◌then◌else◌}
use Rattle.std.specs.Prelude.{Result, MatchResult}
use Rattle.std.specs.List.{list_all}
use Rattle.noise_names.specs.declared.text.fault.Judged.{Judged}
use Rattle.noise_names.specs.declared.text.fault.Words.{Words}
use Rattle.noise_names.specs.declared.faults.TextFaultKind.{TextFaultKind}
use Rattle.noise_names.specs.declared.faults.TextFaultKind.TheVariants as kinds
use Rattle.noise_names.specs.declared.token.Role.{Role}
use Rattle.noise_names.specs.declared.token.Role.TheVariants.{Initiator, Responder}
use Rattle.noise_names.specs.declared.token.Token.{Token}
use Rattle.noise_names.specs.Limits.{HavePsksAt, has_few_tokens, is_pre_message, with_psk_tokens}
use Rattle.noise_names.specs.Text.{line, message_lines, pre_line, pre_lines, words}
use Rattle.noise_names.specs.Tokens.{own_tokens, turn_from}
use Rattle.noise_names.specs.WrongText.{IsTokens, arrow_then, dots, is_within}

-- the tokens of a list, as many as are recorded
pub record HasTokens (w : Words) (tokens : List Token) : Type 0 where
  pub some : tokens ≢ []
  pub first : w.first.items ≡ take 11 tokens
  pub own : w.own.items ≡ take 9 (own_tokens tokens)

-- a text is its first line, its line feed where it has one, and what follows
abbrev pub IsLineBefore : List ℕ → List ℕ → Bool → List ℕ → Type 0
IsLineBefore text bytes true after = text ≡ line bytes ++ after
IsLineBefore text bytes false after = (text ≡ bytes) × (after ≡ [])

-- The right lines so far: the tokens of the pre-messages and messages, and whether the line after the pre-messages is
-- still ahead.
pub record RightLines : Type 0 where
  pub ahead : Bool
  pub initiator : List Token
  pub responder : List Token
  pub messages : List (List Token)

abbrev pub right_lines : RightLines → List ℕ
right_lines s =
    if s.ahead then pre_line Initiator s.initiator ++ pre_line Responder s.responder
    else pre_lines s.initiator s.responder ++ message_lines Initiator s.messages

-- The lines so far are right, in a text that has the line after the pre-messages (`dotted`) or in one that hasn't.
pub record AreRightLines (places : List ℕ) (dotted : Bool) (s : RightLines) : Type 0 where
  pub initiator : IsTrue (is_pre_message s.initiator)
  pub responder : IsTrue (is_pre_message s.responder)
  pub none : IsTrue s.ahead → s.messages ≡ []
  pub count : length s.messages ≤ 8
  pub sizes : IsTrue (list_all has_few_tokens s.messages)
  pub psks : HavePsksAt places 1 s.messages
  pub form : IsTrue dotted ↔ (IsTrue s.ahead ⊎ (pre_lines s.initiator s.responder ≢ []))

-- no further pre-message of this party can follow
abbrev pub IsBarred : Role → RightLines → Type 0
IsBarred party s = (s.responder ≢ []) ⊎ ((party ≡ Initiator) × (s.initiator ≢ []))

-- what is wrong in a line, without its line feed, after the right lines so far
abbrev pub IsWrong : List ℕ → RightLines → List ℕ → TextFaultKind → Type 0
IsWrong places s line kinds.Arrow = (line ≢ dots) × ((party : Role) (list : List ℕ) → line ≢ arrow_then party list)
IsWrong places s line kinds.Token =
    (party : Role) × (list : List ℕ) × (line ≡ arrow_then party list)
    × ((tokens : List Token) → tokens ≢ [] → list ≢ words tokens)
IsWrong places s line kinds.PreMessage =
    ((line ≡ dots) × (IsFalse s.ahead ⊎ ((s.initiator ≡ []) × (s.responder ≡ []))))
    ⊎ (IsTrue s.ahead × ((party : Role) × (tokens : List Token) × IsTokens party tokens line
    × (IsFalse (is_pre_message tokens) ⊎ IsBarred party s)))
IsWrong places s line kinds.Turn =
    IsFalse s.ahead × ((tokens : List Token) × IsTokens (turn_from Initiator (length s.messages + 1)) tokens line)
IsWrong places s line kinds.Limit =
    IsFalse s.ahead × ((tokens : List Token) × IsTokens (turn_from Initiator (length s.messages)) tokens line
    × IsFalse (is_within s.messages tokens))
IsWrong places s line kinds.PskPlace =
    IsFalse s.ahead × ((tokens : List Token) × IsTokens (turn_from Initiator (length s.messages)) tokens line
    × IsTrue (is_within s.messages tokens)
    × (tokens ≢ with_psk_tokens places (length s.messages + 1) (own_tokens tokens)))
IsWrong places s line kinds.Heading = ⊥
IsWrong places s line kinds.NameTaken = ⊥
IsWrong places s line kinds.Ending = ⊥

-- whether a list has an element
abbrev pub is_some : {A : Type 0} → List A → Bool
is_some [] = false
is_some (x ∷ xs) = true

-- what was judged is that of the lines so far
pub record Matches (j : Judged) (s : RightLines) : Type 0 where
  pub ahead : j.dots_ahead ≡ s.ahead
  pub initiator : j.initiator ≡ is_some s.initiator
  pub responder : j.responder ≡ is_some s.responder
  pub messages : j.messages ≡ length s.messages

-- one more right line
pub record IsNextOf (places : List ℕ) (dotted : Bool) (s : RightLines) (bytes : List ℕ) (j : Judged) : Type 0 where
  pub passed : RightLines
  pub matches : Matches j passed
  pub are_right : AreRightLines places dotted passed
  pub lines : right_lines passed ≡ right_lines s ++ line bytes

-- a line after those is right, and this is what was judged then; or it is wrong, and this is what is wrong in it
abbrev pub IsNextJudged : List ℕ → Bool → RightLines → List ℕ → Result Judged TextFaultKind → Type 0
IsNextJudged places dotted s bytes result =
    MatchResult result (λ j. IsNextOf places dotted s bytes j) (λ kind. IsWrong places s bytes kind)
