-- Where a broken rule stands in the text of its pattern.
use Rattle.std.specs.Prelude.{◌≡◌, ℕ, ◌+◌, ◌-◌, List, [], ◌++◌, codes, length, nat_le, nat_lt, slice_get, take, unwrap_or, if◌then◌else◌}
use Rattle.noise_names.specs.declared.faults.RuleFault.{RuleFault}
use Rattle.noise_names.specs.declared.token.Role.TheVariants.{Initiator}
use Rattle.noise_names.specs.declared.token.Token.{Token}
use Rattle.noise_names.specs.Names.{section_bytes}
use Rattle.noise_names.specs.Plan.{Plan}
use Rattle.noise_names.specs.Text.{line, message_lines, pre_lines, words}
use Rattle.noise_names.specs.WrongText.{line_feeds}
use Rattle.noise_explain.specs.Positions.{words_before}
use Rattle.noise_explain.specs.declared.position.Position.{Position}

-- the lines before the message of this number, from 1
abbrev pub lines_before : Plan → ℕ → List ℕ
lines_before p n =
    line (section_bytes p.base p.places ++ codes ":") ++ pre_lines p.initiator p.responder
    ++ message_lines Initiator (take (n - 1) p.messages)

-- the tokens of this message
abbrev pub message_tokens : Plan → ℕ → List Token
message_tokens p n = unwrap_or (slice_get p.messages (n - 1)) []

-- what stands before this token in the list of its message; before the place after the last token the whole list
abbrev pub list_before : List Token → ℕ → List ℕ
list_before tokens i = if nat_lt i (length tokens) then words_before (take i tokens) else words tokens

-- The message of a fault and its token there. The transport counts as the place after the last token of the last
-- message; a message has at most 10 tokens.
abbrev pub fault_message : Plan → RuleFault → ℕ
fault_message p fault = if nat_le fault.message (length p.messages) then fault.message else length p.messages

abbrev pub fault_token : Plan → RuleFault → ℕ
fault_token p fault = if nat_le fault.message (length p.messages) then fault.token else 10

-- The fault is at this place of the pattern's text: in the line of its message, where its token begins; an arrow and
-- the spaces round it, five bytes, stand before the tokens.
pub record IsRulePlace (p : Plan) (fault : RuleFault) (place : Position) : Type 0 where
  pub line_is : place.line ≡ line_feeds (lines_before p (fault_message p fault)) + 1
  pub column_is : place.column
      ≡ length (list_before (message_tokens p (fault_message p fault)) (fault_token p fault)) + 6
