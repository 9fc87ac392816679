-- A text of right lines has the line after the pre-messages among its lines exactly if there are pre-messages.
use Rattle.std.proofs.Common.{rules, ◌≡◌, ◌≢◌, ◌↔◌, ℕ, Bool, true, false, ◌||◌, List, [], ◌∷◌, ◌++◌, refl, ap, sym, ◌∙◌, append_assoc, append-nil, IsTrue}
use Rattle.noise_names.proofs.Common.{list_any, Initiator, Token, message_lines, pre_lines, has_dots, or-false}
use Rattle.noise_names.proofs.Lines.{dots-line}
use Rattle.noise_names.proofs.PatternRows.{all_lines, all_rows, ending_all, ending_some, is_ending, pre_rows, some_ending}
use Rattle.noise_names.proofs.Rows.{Row, lines_of, no_feed-row}

-- rows and a text after them
has_dots-rows : (rows : List Row) (rest : List ℕ) → has_dots (lines_of rows ++ rest) ≡ list_any is_ending rows || has_dots rest
has_dots-rows [] rest = refl
has_dots-rows (r ∷ rs) rest = search (rules, append_assoc, dots-line, no_feed-row, (has_dots-rows rs rest))

-- the lines of a pattern, or some of them, and a text after them
pub has_dots-lines : (i r : List Token) (ms : List (List Token)) (rest : List ℕ)
    → has_dots ((pre_lines i r ++ message_lines Initiator ms) ++ rest) ≡ list_any is_ending (pre_rows i r) || has_dots rest
has_dots-lines i r ms rest =
    ap (λ (k : List ℕ). has_dots (k ++ rest)) (sym (all_lines i r ms))
    ∙ has_dots-rows (all_rows i r ms) rest
    ∙ ap (λ (b : Bool). b || has_dots rest) (ending_all i r ms)

pub dots_form : (i r : List Token) (ms : List (List Token)) → pre_lines i r ≢ [] ↔ IsTrue (has_dots (pre_lines i r ++ message_lines Initiator ms))
dots_form i r ms = (λ some. whole ∙ ending_some i r some, λ e. some_ending i r (sym whole ∙ e)) where
  whole : has_dots (pre_lines i r ++ message_lines Initiator ms) ≡ list_any is_ending (pre_rows i r)
  whole = ap has_dots (sym (append-nil (pre_lines i r ++ message_lines Initiator ms))) ∙ has_dots-lines i r ms [] ∙ or-false (list_any is_ending (pre_rows i r))

-- after the pre-messages that line is no longer ahead
pub not_ahead : (i r : List Token) (ms : List (List Token)) (front left : List ℕ) → front ≡ pre_lines i r ++ message_lines Initiator ms
    → (pre_lines i r ≢ [] ↔ IsTrue (has_dots (front ++ left))) → has_dots front ≡ false → has_dots left ≡ true → ⊥
not_ahead i r ms front left e form none ahead = search (rules, has_dots-lines, dots_form)
