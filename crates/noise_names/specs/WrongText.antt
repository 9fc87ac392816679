-- Which line of a wrong pattern text is reported, and for what.
use Rattle.std.specs.Prelude.{◌≡◌, ◌≢◌, ◌⊎◌, ◌↔◌, ℕ, ◌+◌, ◌==◌, ◌&&◌, Bool, not, List, [], ◌++◌, length, codes, count_by, take_while}
use Rattle.std.specs.Prelude.{bytes_eq, nat_le, None, IsTrue, IsFalse}
use Rattle.std.specs.List.{list_all, list_any, slice_split}
use Rattle.noise_names.specs.declared.faults.TextFault.{TextFault}
use Rattle.noise_names.specs.declared.faults.TextFaultKind.{TextFaultKind}
use Rattle.noise_names.specs.declared.faults.TextFaultKind.TheVariants as kinds
use Rattle.noise_names.specs.declared.token.Role.{Role}
use Rattle.noise_names.specs.declared.token.Role.TheVariants.{Initiator}
use Rattle.noise_names.specs.declared.token.Token.{Token}
use Rattle.noise_names.specs.Fundamental.{fundamental_of}
use Rattle.noise_names.specs.Limits.{IsPattern, has_few_tokens}
use Rattle.noise_names.specs.Names.{Section, IsSection, is_base, section_bytes}
use Rattle.noise_names.specs.Plan.{Plan}
use Rattle.noise_names.specs.Text.{arrow_of, line, message_lines, pre_lines, text_of, words}
use Rattle.noise_names.specs.Tokens.{turn_from}

-- ---- lines

abbrev pub line_feeds : List ℕ → ℕ
line_feeds text = count_by (λ b. b == 10) text

-- each line has its line feed
abbrev pub IsEnded : List ℕ → Type 0
IsEnded text = (text ≡ []) ⊎ ((front : List ℕ) × (text ≡ line front))

-- the text's first line, without its line feed
abbrev pub first_line : List ℕ → List ℕ
first_line text = take_while (λ b. not (b == 10)) text

-- the line after the pre-messages
abbrev pub dots : List ℕ
dots = codes "  ..."

-- whether that is among the lines
abbrev pub has_dots : List ℕ → Bool
has_dots text = list_any (λ words. bytes_eq words dots) (slice_split (λ b. b == 10) text)

-- a party's line up to its tokens
abbrev pub arrow_then : Role → List ℕ → List ℕ
arrow_then party list = codes "  " ++ arrow_of party ++ codes " " ++ list

-- the line is of this party and of these tokens, one at least
abbrev pub IsTokens : Role → List Token → List ℕ → Type 0
IsTokens party tokens words_of = (tokens ≢ []) × (words_of ≡ arrow_then party (words tokens))

-- the first line of a pattern text
abbrev pub heading_of : Section → List ℕ
heading_of s = section_bytes s.base s.places ++ codes ":"

-- the lines after it
abbrev pub body_of : Plan → List ℕ
body_of p = pre_lines p.initiator p.responder ++ message_lines Initiator p.messages

-- ---- the patterns with which a text is compared

-- A pattern of any name that isn't that of a fundamental one, with these psk places. It has pre-messages exactly if the
-- line after them is among the lines of this text.
pub record IsLike (places : List ℕ) (body : List ℕ) (p : Plan) : Type 0 where
  pub is_pattern : IsPattern p
  pub own_name : fundamental_of p.base ≡ None
  pub places_are : p.places ≡ places
  pub pre_messages : pre_lines p.initiator p.responder ≢ [] ↔ IsTrue (has_dots body)

-- The text has a heading, the lines of `front`, and `left`. One of those patterns begins with the lines of `front`.
pub record BeginsRight (text front left : List ℕ) : Type 0 where
  pub heading : Section
  pub is_section : IsSection heading
  pub text_is : text ≡ line (heading_of heading) ++ (front ++ left)
  pub ended : IsEnded front
  pub p : Plan
  pub like : IsLike heading.places (front ++ left) p
  pub begun : (rest : List ℕ) × (body_of p ≡ front ++ rest)

-- The line of this number is wrong: one of those patterns begins with the lines before it, and none with that line too.
pub record IsWrongLine (text : List ℕ) (number : ℕ) : Type 0 where
  pub front : List ℕ
  pub left : List ℕ  -- the text from that line on
  pub some : left ≢ []
  pub it : BeginsRight text front left
  pub counted : number ≡ line_feeds front + 2
  pub wrong : (q : Plan) (rest : List ℕ) → IsLike it.heading.places (front ++ left) q
      → ¬ (body_of q ≡ front ++ (line (first_line left) ++ rest))

-- the wrong line, without its line feed
abbrev pub wrong_line : {text : List ℕ} → {number : ℕ} → IsWrongLine text number → List ℕ
wrong_line w = first_line w.left

-- ---- the kinds of faults

-- no heading, neither with its line feed nor without
abbrev pub HasNoHeading : List ℕ → Type 0
HasNoHeading text = (s : Section) → IsSection s
    → (text ≢ heading_of s) × ((rest : List ℕ) → text ≢ line (heading_of s) ++ rest)

-- the lines are those of the pre-messages and of these messages
abbrev pub IsAfter : Plan → List (List Token) → List ℕ → Type 0
IsAfter p messages front = front ≡ pre_lines p.initiator p.responder ++ message_lines Initiator messages

-- the wrong line stands where a message has to, after these
abbrev pub IsAtMessage : {text : List ℕ} → {number : ℕ} → IsWrongLine text number → List (List Token) → Type 0
IsAtMessage w before = IsAfter w.it.p before w.front

-- the wrong line stands before the line after the pre-messages
abbrev pub IsInPreMessages : {text : List ℕ} → {number : ℕ} → IsWrongLine text number → Type 0
IsInPreMessages w = IsFalse (has_dots w.front) × IsTrue (has_dots w.left)

abbrev pub IsArrowFault : {text : List ℕ} → {number : ℕ} → IsWrongLine text number → Type 0
IsArrowFault w = (wrong_line w ≢ dots) × ((party : Role) (list : List ℕ) → wrong_line w ≢ arrow_then party list)

abbrev pub IsTokenFault : {text : List ℕ} → {number : ℕ} → IsWrongLine text number → Type 0
IsTokenFault w =
    (party : Role) × (list : List ℕ) × (wrong_line w ≡ arrow_then party list)
    × ((tokens : List Token) → tokens ≢ [] → list ≢ words tokens)

abbrev pub IsPreMessageFault : {text : List ℕ} → {number : ℕ} → IsWrongLine text number → Type 0
IsPreMessageFault w = (wrong_line w ≡ dots)
    ⊎ (IsInPreMessages w × ((party : Role) × (tokens : List Token) × IsTokens party tokens (wrong_line w)))

-- a line of the party whose turn it isn't
abbrev pub IsTurnFault : {text : List ℕ} → {number : ℕ} → IsWrongLine text number → Type 0
IsTurnFault w = (before : List (List Token)) × (tokens : List Token) × IsAtMessage w before
    × IsTokens (turn_from Initiator (length before + 1)) tokens (wrong_line w)

-- a line of the other party, with these tokens
abbrev pub IsMessage : {text : List ℕ} → {number : ℕ} → IsWrongLine text number → List (List Token) → List Token
    → Type 0
IsMessage w before tokens = IsAtMessage w before × IsTokens (turn_from Initiator (length before)) tokens (wrong_line w)

-- whether the message is no more than the eighth, and has from one to eight tokens other than psk
abbrev pub is_within : List (List Token) → List Token → Bool
is_within before tokens = nat_le (length before + 1) 8 && has_few_tokens tokens

abbrev pub IsLimitFault : {text : List ℕ} → {number : ℕ} → IsWrongLine text number → Type 0
IsLimitFault w =
    (before : List (List Token)) × (tokens : List Token) × IsMessage w before tokens × IsFalse (is_within before tokens)

-- The message is within the limits, so what is wrong in it are its psk tokens.
abbrev pub IsPskFault : {text : List ℕ} → {number : ℕ} → IsWrongLine text number → Type 0
IsPskFault w =
    (before : List (List Token)) × (tokens : List Token) × IsMessage w before tokens × IsTrue (is_within before tokens)

-- all lines are right, of these messages, and a psk place is beyond them
pub record HasPlaceBeyond (text : List ℕ) : Type 0 where
  pub body : List ℕ
  pub it : BeginsRight text body []
  pub messages : List (List Token)
  pub some : messages ≢ []
  pub are : IsAfter it.p messages body
  pub beyond : IsFalse (list_all (λ n. nat_le n (length messages)) it.heading.places)

-- All lines are right under another base. As the text is no pattern's, its own base is that of a fundamental pattern.
abbrev pub HasTakenName : List ℕ → Type 0
HasTakenName text = (p : Plan) × (base : List ℕ) × IsPattern p × (fundamental_of p.base ≡ None) × IsTrue (is_base base)
    × (text ≡ text_of (record p { base = base }))

-- The text ends too early: in a line that one of those patterns has, before its line feed, or before the first message.
pub record IsCutShort (text : List ℕ) (number : ℕ) : Type 0 where
  pub front : List ℕ
  pub left : List ℕ
  pub it : BeginsRight text front left
  pub last : left ≡ first_line left
  pub counted : number ≡ line_feeds front + 2
  pub next : ((rest : List ℕ) × (left ≢ []) × (body_of it.p ≡ front ++ (line left ++ rest)))
      ⊎ ((left ≡ []) × IsAfter it.p [] front)

abbrev pub EndsInHeading : List ℕ → Type 0
EndsInHeading text = (s : Section) × IsSection s × (text ≡ heading_of s)

-- what is reported of a text that no pattern has
abbrev pub IsTextFaultAt : List ℕ → ℕ → TextFaultKind → Type 0
IsTextFaultAt text number kinds.Heading = (number ≡ 1) × HasNoHeading text
IsTextFaultAt text number kinds.Arrow = (w : IsWrongLine text number) × IsArrowFault w
IsTextFaultAt text number kinds.Token = (w : IsWrongLine text number) × IsTokenFault w
IsTextFaultAt text number kinds.PreMessage = (w : IsWrongLine text number) × IsPreMessageFault w
IsTextFaultAt text number kinds.Turn = (w : IsWrongLine text number) × IsTurnFault w
IsTextFaultAt text number kinds.PskPlace =
    ((w : IsWrongLine text number) × IsPskFault w) ⊎ ((number ≡ 1) × HasPlaceBeyond text)
IsTextFaultAt text number kinds.NameTaken = (number ≡ 1) × HasTakenName text
IsTextFaultAt text number kinds.Limit = (w : IsWrongLine text number) × IsLimitFault w
IsTextFaultAt text number kinds.Ending = ((number ≡ 1) × EndsInHeading text) ⊎ IsCutShort text number

abbrev pub IsTextFault : List ℕ → TextFault → Type 0
IsTextFault text fault = IsTextFaultAt text fault.line fault.kind
