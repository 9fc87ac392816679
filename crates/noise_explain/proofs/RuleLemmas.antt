-- Lines of a pattern's text, and lists of its tokens.
use Rattle.std.proofs.Common.{◌≡◌, ◌∙◌, ◌≤◌, ◌+◌, ◌-◌, ℕ, Bool, true, false, ◌==◌, nat_le, nat_lt, List, [], ◌∷◌, ◌++◌, ap, ap₂, sym, refl, arith, length, length-append, take}
use Rattle.std.specs.Prelude.{IsTrue, codes, slice_get, unwrap_or, if◌then◌else◌}
use Rattle.std.specs.List.{list_all}
use Rattle.std.proofs.lemmas.Bool.{and_parts}
use Rattle.std.proofs.lemmas.Bool.Decides.{nat_tests}
use Rattle.std.proofs.lemmas.List.{length-take-le, take_all}
use Rattle.noise_names.specs.declared.faults.RuleFault.{RuleFault}
use Rattle.noise_names.specs.declared.token.Role.{Role}
use Rattle.noise_names.specs.declared.token.Role.TheVariants.{Initiator, Responder}
use Rattle.noise_names.specs.declared.token.Token.{Token}
use Rattle.noise_names.specs.declared.token.Token.TheVariants.{E, S, Ee, Es, Se, Ss, Psk}
use Rattle.noise_names.specs.Facts.{section_bytes-all}
use Rattle.noise_names.specs.FaultLines.{feeds-append}
use Rattle.noise_names.specs.Limits.{IsPattern}
use Rattle.noise_names.specs.Names.{IsSection, Section, is_section_byte, section_bytes}
use Rattle.noise_names.specs.Plan.{Plan}
use Rattle.noise_names.specs.Text.{arrow_of, line, message_lines, pre_lines, token_line, word_of, words}
use Rattle.noise_names.specs.Tokens.{other}
use Rattle.noise_names.specs.WrongText.{line_feeds}
use Rattle.noise_explain.specs.Positions.{words_before}
use Rattle.noise_explain.specs.RulePlaces.{IsRulePlace, lines_before, list_before, message_tokens, fault_message, fault_token}

-- ---- line feeds

not-feed : (b : ℕ) → is_section_byte b ≡ true → (b == 10) ≡ false
not-feed b h = grind (arith, nat_tests)

section-feeds : (bs : List ℕ) → IsTrue (list_all is_section_byte bs) → line_feeds bs ≡ 0
section-feeds [] h = refl
section-feeds (b ∷ bs) h =
    let parts = and_parts (is_section_byte b) (list_all is_section_byte bs) h in
    rw (not-feed b parts.0) (section-feeds bs parts.1)

word-feeds : (t : Token) → line_feeds (word_of t) ≡ 0
word-feeds E = refl
word-feeds S = refl
word-feeds Ee = refl
word-feeds Es = refl
word-feeds Se = refl
word-feeds Ss = refl
word-feeds Psk = refl

words-feeds : (ts : List Token) → line_feeds (words ts) ≡ 0
words-feeds [] = refl
words-feeds (t ∷ []) = word-feeds t
words-feeds (t ∷ u ∷ ts) =
    let first = feeds-append (word_of t ++ codes ", ") (words (u ∷ ts)) in
    let word = feeds-append (word_of t) (codes ", ") in
    let comma : line_feeds (codes ", ") ≡ 0 = refl in
    omega (arith, first, word, comma, word-feeds t, words-feeds (u ∷ ts))

front-feeds : (party : Role) → line_feeds (codes "  " ++ arrow_of party ++ codes " ") ≡ 0
front-feeds Initiator = refl
front-feeds Responder = refl

token_line-feeds : (party : Role) (ts : List Token) → line_feeds (token_line party ts) ≡ 1
token_line-feeds party ts =
    let front : List ℕ = codes "  " ++ arrow_of party ++ codes " " in
    let whole = feeds-append (front ++ words ts) (codes "\n") in
    let first = feeds-append front (words ts) in
    let feed : line_feeds (codes "\n") ≡ 1 = refl in
    omega (arith, whole, first, feed, front-feeds party, words-feeds ts)

message_lines-feeds : (party : Role) (ms : List (List Token)) → line_feeds (message_lines party ms) ≡ length ms
message_lines-feeds party [] = refl
message_lines-feeds party (tokens ∷ more) =
    let whole = feeds-append (token_line party tokens) (message_lines (other party) more) in
    omega (arith, whole, token_line-feeds party tokens, message_lines-feeds (other party) more)

-- the number of a message's line
pub line-number : (p : Plan) (n at pre : ℕ) → IsPattern p → n ≤ length p.messages → at ≡ n - 1 → pre ≡ line_feeds (pre_lines p.initiator p.responder)
    → at + pre + 2 ≡ line_feeds (lines_before p n) + 1
line-number p n at pre right within at_is pre_is =
    let name : Section = record { base = p.base; places = p.places } in
    let section : List ℕ = section_bytes p.base p.places in
    let is_section : IsSection name = record { base = right.base; places = right.places } in
    let heading : List ℕ = line (section ++ codes ":") in
    let none : line_feeds section ≡ 0 = section-feeds section (section_bytes-all name is_section) in
    let colon = feeds-append section (codes ":") in
    let no_colon : line_feeds (codes ":") ≡ 0 = refl in
    let ended = feeds-append (section ++ codes ":") (codes "\n") in
    let feed : line_feeds (codes "\n") ≡ 1 = refl in
    let messages : List (List Token) = take (n - 1) p.messages in
    let whole = feeds-append (heading ++ pre_lines p.initiator p.responder) (message_lines Initiator messages) in
    let first = feeds-append heading (pre_lines p.initiator p.responder) in
    let few : n - 1 ≤ length p.messages = omega (arith, within) in
    let count = length-take-le (n - 1) p.messages few in
    omega (arith, none, colon, no_colon, ended, feed, whole, first, count, message_lines-feeds Initiator messages, at_is, pre_is)

-- ---- the list of a message's tokens

-- a comma and a space less than those of each token
words-before : (t : Token) (ts : List Token) → length (words (t ∷ ts)) + 2 ≡ length (words_before (t ∷ ts))
words-before t [] =
    let letters = length-append (word_of t) (codes ", ") in
    let whole = length-append (word_of t ++ codes ", ") [] in
    omega (arith, letters, whole)
words-before t (u ∷ ts) =
    let word : List ℕ = word_of t ++ codes ", " in
    let first = length-append word (words (u ∷ ts)) in
    let second = length-append word (words_before (u ∷ ts)) in
    omega (arith, first, second, words-before u ts)

pub words-length : (ts : List Token) → length (words_before ts) - 2 ≡ length (words ts)
words-length [] = refl
words-length (t ∷ ts) = let more = words-before t ts in omega (arith, more)

not-below : (k m : ℕ) → m ≤ k → nat_lt k m ≡ false
not-below k m h = grind (arith, nat_tests)

-- the whole list, of which no token is left out
pub list-all : (tokens : List Token) (i token count len : ℕ) → length tokens ≤ i → i ≤ token → count ≡ length (words_before (take i tokens))
    → len ≡ count - 2 → len ≡ length (list_before tokens token)
list-all tokens i token count len past below count_is len_is =
    let beyond : length tokens ≤ token = omega (arith, past, below) in
    let all : take i tokens ≡ tokens = take_all i tokens past in
    len_is ∙ ap (λ (n : ℕ). n - 2) (count_is ∙ ap (λ (ts : List Token). length (words_before ts)) all) ∙ words-length tokens
    ∙ ap (λ (b : Bool). length (if b then words_before (take token tokens) else words tokens)) (sym (not-below token (length tokens) beyond))

-- ---- a broken rule

within-count : (m n : ℕ) → (if nat_le m n then m else n) ≤ n
within-count m n = at (nat_le m n) refl where
  at : (b : Bool) → nat_le m n ≡ b → (if b then m else n) ≤ n
  at true e = grind (arith, nat_tests)
  at false e = omega arith

pub rule-place : (p : Plan) (fault : RuleFault) (message token index at pre len : ℕ) (messages : List (List Token)) (tokens : List Token) → IsPattern p
    → messages ≡ p.messages → message ≡ (if nat_le fault.message (length messages) then fault.message else length messages)
    → token ≡ (if nat_le fault.message (length messages) then fault.token else 10) → index ≡ message - 1 → at ≡ message - 1
    → pre ≡ line_feeds (pre_lines p.initiator p.responder) → tokens ≡ unwrap_or (slice_get messages index) [] → len ≡ length (list_before tokens token)
    → IsRulePlace p fault (record { line = at + pre + 2; column = len + 6 })
rule-place p fault message token index at pre len messages tokens right same message_is token_is index_is at_is pre_is tokens_are len_is =
    let count : ℕ → ℕ = λ (n : ℕ). if nat_le fault.message n then fault.message else n in
    let number : message ≡ fault_message p fault = message_is ∙ ap (λ (ms : List (List Token)). count (length ms)) same in
    let place : token ≡ fault_token p fault =
    token_is ∙ ap (λ (ms : List (List Token)). if nat_le fault.message (length ms) then fault.token else 10) same in
    let tokens_at : tokens ≡ message_tokens p (fault_message p fault) =
    tokens_are ∙ ap₂ (λ (ms : List (List Token)) (n : ℕ). unwrap_or (slice_get ms n) []) same (index_is ∙ ap (λ (n : ℕ). n - 1) number) in
    let within : fault_message p fault ≤ length p.messages = within-count fault.message (length p.messages) in
    record {
      line_is = line-number p (fault_message p fault) at pre right within (at_is ∙ ap (λ (n : ℕ). n - 1) number) pre_is;
      column_is = ap (λ (n : ℕ). n + 6) (len_is ∙ ap₂ (λ (ts : List Token) (i : ℕ). length (list_before ts i)) tokens_at place);
    }
