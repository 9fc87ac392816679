-- What is judged of one more line.
use Rattle.std.proofs.Common.{rules, ◌≡◌, ◌≢◌, ◌⊎◌, ℕ, suc, zero, ◌+◌, ◌<◌, ◌%◌, Bool, true, false, leb, List, [], ◌∷◌, ◌++◌, refl, ap, sym, ◌∙◌, add-one, append-nil, length, length-append, arith, inl, inr, subst, Result}
use Rattle.noise_names.proofs.Common.{MatchResult, list_all-append, TextFaultKind, Role, Initiator, Responder, Token, IsNextOf, AreRightLines, IsWrong, RightLines, Matches, is_some, right_lines, has_few_tokens, is_pre_message, with_psk_tokens, pre_line, words, other, own_tokens, turn_from, IsEnded, has_dots, line_feeds, arrow_then, dots, and_from, false_from_ne_true, le-leb}
use Rattle.noise_names.specs.declared.text.fault.Judged.{Judged}
use Rattle.noise_names.proofs.RightTexts.{have_psks-append, message_lines-append}
use Rattle.noise_names.specs.declared.faults.TextFaultKind.TheVariants as kinds

-- whose turn it is
pub turns-even : (n : ℕ) → n % 2 ≡ 0 → (turn_from Initiator n ≡ Initiator) × (turn_from Responder n ≡ Responder)
turns-even zero h = (refl, refl)
turns-even (suc zero) h = absurd (omega arith)
turns-even (suc (suc n)) h = turns-even n (omega arith)

pub turns-odd : (n : ℕ) → n % 2 ≢ 0 → (turn_from Initiator n ≡ Responder) × (turn_from Responder n ≡ Initiator)
turns-odd zero h = absurd (h refl)
turns-odd (suc zero) h = (refl, refl)
turns-odd (suc (suc n)) h = turns-odd n (λ e. h (omega arith))

pub turn-more : (n : ℕ) (party : Role) → turn_from (other party) n ≡ turn_from party (n + 1)
turn-more n party = ap (turn_from party) (sym (add-one n))

-- the parts of what was passed
pub some-is : {A : Type 0} (xs : List A) → is_some xs ≡ true → xs ≢ []
some-is [] h e = absurd (cc)
some-is (x ∷ xs) h e = cc

pub none-is : {A : Type 0} (xs : List A) → is_some xs ≡ false → xs ≡ []
none-is [] h = refl
none-is (x ∷ xs) h = absurd (cc)

pub is-some : {A : Type 0} (xs : List A) → xs ≢ [] → is_some xs ≡ true
is-some [] h = absurd (h refl)
is-some (x ∷ xs) h = refl

pub ahead-lines : (s : RightLines) → s.ahead ≡ true → right_lines s ≡ pre_line Initiator s.initiator ++ pre_line Responder s.responder
ahead-lines s h = search

-- what stands for those parts
abbrev judged : Bool → Bool → Bool → ℕ → Judged
judged ahead initiator responder messages = record { dots_ahead = ahead; initiator = initiator; responder = responder; messages = messages }

-- the line that ends the pre-messages
pub next-dots : (places : List ℕ) (s : RightLines) (dotted : Bool) (j : Judged) → j.dots_ahead ≡ true → (j.initiator ≡ true) ⊎ (j.responder ≡ true)
    → Matches j s → AreRightLines places dotted s → IsNextOf places dotted s dots (judged false j.initiator j.responder j.messages)
next-dots places s dotted j ahead begun st p =
    let is_ahead : s.ahead ≡ true = sym st.ahead ∙ ahead in
    let some : (s.initiator ≢ []) ⊎ (s.responder ≢ []) = elim begun [
      | inl e ↦ inl (some-is s.initiator (sym st.initiator ∙ e))
      | inr e ↦ inr (some-is s.responder (sym st.responder ∙ e))
    ] in
    record {
      passed = record { ahead = false; initiator = s.initiator; responder = s.responder; messages = s.messages };
      matches = record { ahead = refl; initiator = st.initiator; responder = st.responder; messages = st.messages };
      are_right = search rules;
      lines = search rules;
    }

-- a pre-message of the initiator
pub next-first : (places : List ℕ) (s : RightLines) (dotted : Bool) (tokens : List Token) (j : Judged) → j.dots_ahead ≡ true
    → (j.initiator ≡ true → ⊥) → (j.responder ≡ true → ⊥) → tokens ≢ [] → is_pre_message tokens ≡ true
    → Matches j s → AreRightLines places dotted s → IsNextOf places dotted s (arrow_then Initiator (words tokens)) (judged j.dots_ahead true j.responder j.messages)
next-first places s dotted tokens j ahead no_first no_second some pre st p =
    let is_ahead : s.ahead ≡ true = sym st.ahead ∙ ahead in
    let first : s.initiator ≡ [] = none-is s.initiator (sym st.initiator ∙ false_from_ne_true j.initiator no_first) in
    let second : s.responder ≡ [] = none-is s.responder (sym st.responder ∙ false_from_ne_true j.responder no_second) in
    let next : RightLines = record { ahead = s.ahead; initiator = tokens; responder = s.responder; messages = s.messages } in
    let before : right_lines s ≡ [] = ahead-lines s is_ahead
    ∙ ap (λ (ts : List Token). pre_line Initiator ts ++ pre_line Responder s.responder) first ∙ ap (pre_line Responder) second in
    record {
      passed = next;
      matches = record { ahead = st.ahead; initiator = sym (is-some tokens some); responder = st.responder; messages = st.messages };
      are_right = search rules;
      lines = search rules;
    }

-- a pre-message of the responder
pub next-second : (places : List ℕ) (s : RightLines) (dotted : Bool) (tokens : List Token) (j : Judged) → j.dots_ahead ≡ true → (j.responder ≡ true → ⊥)
    → tokens ≢ [] → is_pre_message tokens ≡ true
    → Matches j s → AreRightLines places dotted s → IsNextOf places dotted s (arrow_then Responder (words tokens)) (judged j.dots_ahead j.initiator true j.messages)
next-second places s dotted tokens j ahead no_second some pre st p =
    let is_ahead : s.ahead ≡ true = sym st.ahead ∙ ahead in
    let second : s.responder ≡ [] = none-is s.responder (sym st.responder ∙ false_from_ne_true j.responder no_second) in
    let next : RightLines = record { ahead = s.ahead; initiator = s.initiator; responder = tokens; messages = s.messages } in
    let before : right_lines s ≡ pre_line Initiator s.initiator = ahead-lines s is_ahead
    ∙ ap (λ (ts : List Token). pre_line Initiator s.initiator ++ pre_line Responder ts) second ∙ append-nil (pre_line Initiator s.initiator) in
    record {
      passed = next;
      matches = record { ahead = st.ahead; initiator = st.initiator; responder = sym (is-some tokens some); messages = st.messages };
      are_right = search rules;
      lines = search rules;
    }

-- a message
pub next-message : (places : List ℕ) (s : RightLines) (dotted : Bool) (tokens : List Token) (role : Role) (j : Judged) → j.dots_ahead ≡ false
    → role ≡ turn_from Initiator j.messages → j.messages < 8 → tokens ≢ [] → has_few_tokens tokens ≡ true
    → tokens ≡ with_psk_tokens places (j.messages + 1) (own_tokens tokens) → Matches j s → AreRightLines places dotted s
    → IsNextOf places dotted s (arrow_then role (words tokens)) (judged j.dots_ahead j.initiator j.responder (j.messages + 1))
next-message places s dotted tokens role j ahead turn less some few psks st p =
    let is_behind : s.ahead ≡ false = sym st.ahead ∙ ahead in
    let ms : List (List Token) = s.messages ++ tokens ∷ [] in
    let next : RightLines = record { ahead = s.ahead; initiator = s.initiator; responder = s.responder; messages = ms } in
    let count : length ms ≡ length s.messages + 1 = length-append s.messages (tokens ∷ []) in
    let same : j.messages ≡ length s.messages = st.messages in
    let here : turn_from Initiator (length s.messages) ≡ role = ap (turn_from Initiator) (sym same) ∙ sym turn in
    let number : j.messages + 1 ≡ 1 + length s.messages = omega arith in
    record {
      passed = next;
      matches = record { ahead = st.ahead; initiator = st.initiator; responder = st.responder; messages = omega arith };
      are_right = search (rules, list_all-append, have_psks-append);
      lines = search (rules, message_lines-append);
    }

-- with the party of the line
pub next-of-role : (places : List ℕ) (dotted : Bool) (s : RightLines) (tokens : List Token) (j : Judged) (party role : Role) → party ≡ role
    → IsNextOf places dotted s (arrow_then party (words tokens)) j → IsNextOf places dotted s (arrow_then role (words tokens)) j
next-of-role places dotted s tokens j party role e n = subst (λ (r : Role). IsNextOf places dotted s (arrow_then r (words tokens)) j) e n

-- a message with other psk tokens
pub wrong-psks : (places : List ℕ) (s : RightLines) (tokens : List Token) (role : Role) (j : Judged) → j.dots_ahead ≡ false
    → role ≡ turn_from Initiator j.messages → j.messages < 8 → tokens ≢ [] → has_few_tokens tokens ≡ true
    → tokens ≢ with_psk_tokens places (j.messages + 1) (own_tokens tokens) → Matches j s → IsWrong places s (arrow_then role (words tokens)) kinds.PskPlace
wrong-psks places s tokens role j ahead turn less some few psks st =
    let same : j.messages ≡ length s.messages = st.messages in (
      sym st.ahead ∙ ahead,
      (
        tokens,
        (
          some,
          ap (λ (r : Role). arrow_then r (words tokens)) (turn ∙ ap (turn_from Initiator) same),
        ),
        and_from (leb (length s.messages + 1) 8) (has_few_tokens tokens) (le-leb (length s.messages + 1) 8 (omega arith)) few,
        λ e.
            psks (e ∙ ap (λ (n : ℕ). with_psk_tokens places (n + 1) (own_tokens tokens)) (sym same)),
      ),
    )

-- the line with its arrow and its list
pub arrow-line : (bytes list : List ℕ) (role : Role) (tokens : List Token) → bytes ≡ arrow_then role list → list ≡ words tokens
    → arrow_then role (words tokens) ≡ bytes
arrow-line bytes list role tokens e f = ap (arrow_then role) (sym f) ∙ sym e

pub judged-line : (places : List ℕ) (dotted : Bool) (s : RightLines) (r : Result Judged TextFaultKind) (a b : List ℕ) → a ≡ b
    → MatchResult r (λ j. IsNextOf places dotted s a j) (λ kind. IsWrong places s a kind)
    → MatchResult r (λ j. IsNextOf places dotted s b j) (λ kind. IsWrong places s b kind)
judged-line places dotted s r a b e h = search rules

-- ---- the lines after the heading, of which some were judged right
pub record AreRight (places lines rest : List ℕ) (number : ℕ) (j : Judged) : Type 0 where
  pub passed : RightLines
  pub matches : Matches j passed
  pub are : AreRightLines places (has_dots lines) passed
  pub lines_are : lines ≡ right_lines passed ++ rest
  pub counted : number ≡ line_feeds (right_lines passed) + 2
  pub ended : IsEnded (right_lines passed)
