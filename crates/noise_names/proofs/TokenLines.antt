-- A party's line is that of one list of tokens.
use Rattle.std.proofs.Common.{rules, ◌≡◌, ℕ, ◌<◌, true, false, List, [], ◌∷◌, ◌++◌, refl, ap, sym, ◌∙◌, append_assoc, get_or, arith}
use Rattle.noise_names.proofs.Common.{list_all, Role, Initiator, Responder, Token, E, S, Ee, Es, Se, Ss, Psk, cons-same, is_lower, word_of, words, token_line}

-- two texts that differ at a place
pub apart : (xs ys : List ℕ) (i : ℕ) → xs ≡ ys → get_or xs i 0 < get_or ys i 0 → ⊥
apart xs ys i e h = let same : get_or xs i 0 ≡ get_or ys i 0 = ap (λ (k : List ℕ). get_or k i 0) e in omega arith

-- words
pub word_lower : (t : Token) → list_all is_lower (word_of t) ≡ true
word_lower E = refl
word_lower S = refl
word_lower Ee = refl
word_lower Es = refl
word_lower Se = refl
word_lower Ss = refl
word_lower Psk = refl

pub first_word_same : (t u : Token) (b c : ℕ) (x y : List ℕ) → is_lower b ≡ false → is_lower c ≡ false → word_of t ++ b ∷ x ≡ word_of u ++ c ∷ y
    → (t ≡ u) × (b ∷ x ≡ c ∷ y)
first_word_same t u b c x y hb hc e = search rules

-- what follows the first word of a list and a line feed
abbrev after : List Token → List ℕ → List ℕ
after [] rest = 10 ∷ rest
after (v ∷ vs) rest = 44 ∷ 32 ∷ (words (v ∷ vs) ++ 10 ∷ rest)

word_first : (u : Token) (us : List Token) (rest : List ℕ) → words (u ∷ us) ++ 10 ∷ rest ≡ word_of u ++ after us rest
word_first u [] rest = refl
word_first u (v ∷ vs) rest = search append_assoc

pub words_same : (t u : Token) (ts us : List Token) (x y : List ℕ) → words (t ∷ ts) ++ 10 ∷ x ≡ words (u ∷ us) ++ 10 ∷ y → (t ∷ ts ≡ u ∷ us) × (x ≡ y)
words_same t u [] [] x y e = let h = first_word_same t u 10 10 x y refl refl e in (ap (λ (v : Token). v ∷ []) h.0, cc)
words_same t u [] (v ∷ vs) x y e = search rules
words_same t u (v ∷ vs) [] x y e = search rules
words_same t u (v ∷ vs) (w ∷ ws) x y e =
    let h = first_word_same t u 44 44 (32 ∷ (words (v ∷ vs) ++ 10 ∷ x)) (32 ∷ (words (w ∷ ws) ++ 10 ∷ y)) refl refl (sym (word_first t (v ∷ vs) x) ∙ e
    ∙ word_first u (w ∷ ws) y) in
    let rest : words (v ∷ vs) ++ 10 ∷ x ≡ words (w ∷ ws) ++ 10 ∷ y = cc in
    let more = words_same v w vs ws x y rest in
    (cons-same h.0 more.0, more.1)

-- lines
pub record IsSameLine (r s : Role) (ts us : List Token) (x y : List ℕ) : Type 0 where
  pub role : r ≡ s
  pub tokens : ts ≡ us
  pub rest : x ≡ y

pub line_same : (r s : Role) (t u : Token) (ts us : List Token) (x y : List ℕ) → token_line r (t ∷ ts) ++ x ≡ token_line s (u ∷ us) ++ y
    → IsSameLine r s (t ∷ ts) (u ∷ us) x y
line_same Initiator Initiator t u ts us x y e =
    let list : (words (t ∷ ts) ++ 10 ∷ []) ++ x ≡ (words (u ∷ us) ++ 10 ∷ []) ++ y = cc in
    let h = words_same t u ts us x y (sym (append_assoc (words (t ∷ ts)) (10 ∷ []) x) ∙ list ∙ append_assoc (words (u ∷ us)) (10 ∷ []) y) in
    record { role = refl; tokens = h.0; rest = h.1 }
line_same Responder Responder t u ts us x y e =
    let list : (words (t ∷ ts) ++ 10 ∷ []) ++ x ≡ (words (u ∷ us) ++ 10 ∷ []) ++ y = cc in
    let h = words_same t u ts us x y (sym (append_assoc (words (t ∷ ts)) (10 ∷ []) x) ∙ list ∙ append_assoc (words (u ∷ us)) (10 ∷ []) y) in
    record { role = refl; tokens = h.0; rest = h.1 }
line_same Initiator Responder t u ts us x y e = absurd (apart _ _ 2 e (omega arith))
line_same Responder Initiator t u ts us x y e = absurd (apart _ _ 2 (sym e) (omega arith))
