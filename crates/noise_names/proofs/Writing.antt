-- The written text of a pattern, part by part.
use Rattle.std.proofs.Common.{rules, ◌≡◌, ℕ, ◌+◌, ◌<◌, List, [], ◌∷◌, ◌++◌, ap, sym, ◌∙◌, append_assoc, append-nil, drop, get_or, length}
use Rattle.noise_names.proofs.Common.{codes, at_drop_more, Role, Token, other, words, word_of, message_lines, token_line}

-- the words of further tokens, a comma and a space before each
abbrev pub more_words : List Token → List ℕ
more_words [] = []
more_words (t ∷ ts) = codes ", " ++ (word_of t ++ more_words ts)

pub words-first : (t : Token) (ts : List Token) → words (t ∷ ts) ≡ word_of t ++ more_words ts
words-first t [] = sym (append-nil (word_of t))
words-first t (u ∷ ts) = append_assoc (word_of t) (codes ", ") (words (u ∷ ts)) ∙ ap (λ (k : List ℕ). word_of t ++ (codes ", " ++ k)) (words-first u ts)

-- one token more was written
pub words-step : (out out' comma word before : List ℕ) (ts : List Token) (i : ℕ) (d : Token) → i < length ts → word ≡ word_of (get_or ts i d)
    → comma ≡ out ++ codes ", " → out' ≡ comma ++ word → out ++ more_words (drop i ts) ≡ before → out' ++ more_words (drop (i + 1) ts) ≡ before
words-step out out' comma word before ts i d h is c w e =
    ap (λ (k : List ℕ). k ++ more_words (drop (i + 1) ts)) (w ∙ ap (λ (k : List ℕ). k ++ word) c ∙ ap (λ (k : List ℕ). (out ++ codes ", ") ++ k) is)
    ∙ append_assoc (out ++ codes ", ") (word_of (get_or ts i d)) (more_words (drop (i + 1) ts))
    ∙ append_assoc out (codes ", ") (word_of (get_or ts i d) ++ more_words (drop (i + 1) ts))
    ∙ ap (λ (k : List ℕ). out ++ k) (sym (at_drop_more more_words ts i d h))
    ∙ e

-- one message more was written
pub lines-step : (out out' before : List ℕ) (role : Role) (ms : List (List Token)) (i : ℕ) (d : List Token) → i < length ms
    → out' ≡ out ++ token_line role (get_or ms i d) → out ++ message_lines role (drop i ms) ≡ before
    → out' ++ message_lines (other role) (drop (i + 1) ms) ≡ before
lines-step out out' before role ms i d h w e =
    ap (λ (k : List ℕ). k ++ message_lines (other role) (drop (i + 1) ms)) w
    ∙ append_assoc out (token_line role (get_or ms i d)) (message_lines (other role) (drop (i + 1) ms))
    ∙ ap (λ (k : List ℕ). out ++ k) (sym (at_drop_more (message_lines role) ms i d h))
    ∙ e

-- the first token was written
pub words-start : (tokens : List Token) (first : Token) (others : List Token) (out out' w : List ℕ) → tokens ≡ first ∷ others → out' ≡ out ++ w
    → w ≡ word_of first → out' ++ more_words others ≡ out ++ words tokens
words-start tokens first others out out' w is e f = search (rules, append_assoc, words-first)
