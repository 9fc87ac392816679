-- The lines after the heading of a text as rows: the line after the pre-messages, or a party and its tokens. Each row has one line.
use Rattle.std.proofs.Common.{rules, ◌≡◌, ℕ, Bool, true, false, List, [], ◌∷◌, ◌++◌, refl, ap, sym, ◌∙◌, append_assoc, arith}
use Rattle.noise_names.proofs.Common.{list_all, and_parts, nat_tests, list_all-append, Role, Initiator, Responder, Token, cons-same, is_lower, line, word_of, words, arrow_then, dots}
use Rattle.noise_names.proofs.Lines.{first_same, is_other, no_feed}
use Rattle.noise_names.proofs.Sections.{all_weaker}
use Rattle.noise_names.proofs.TokenLines.{IsSameLine, apart, line_same, word_lower}

-- the line after the pre-messages, or a party's line
pub data Row : Type 0 where
  ending : Row
  tokens_of : Role → List Token → Row

-- its line, without the line feed
abbrev pub content : Row → List ℕ
content ending = dots
content (tokens_of party tokens) = arrow_then party (words tokens)

-- it has a token, or is the line after the pre-messages
abbrev pub is_row : Row → Bool
is_row ending = true
is_row (tokens_of party []) = false
is_row (tokens_of party (t ∷ ts)) = true

abbrev pub lines_of : List Row → List ℕ
lines_of [] = []
lines_of (r ∷ rs) = line (content r) ++ lines_of rs

-- no line feed is in its line
no_feed-append : (xs ys : List ℕ) → no_feed xs ≡ true → no_feed ys ≡ true → no_feed (xs ++ ys) ≡ true
no_feed-append xs ys h k = list_all-append is_other xs ys ∙ rw (h, k) refl

no_feed-word : (t : Token) → no_feed (word_of t) ≡ true
no_feed-word t = all_weaker is_lower is_other (word_of t) other_byte (word_lower t) where
  other_byte : (c : ℕ) → is_lower c ≡ true → is_other c ≡ true
  other_byte c h = grind (arith, nat_tests)

no_feed-words : (tokens : List Token) → no_feed (words tokens) ≡ true
no_feed-words [] = refl
no_feed-words (t ∷ []) = no_feed-word t
no_feed-words (t ∷ u ∷ ts) = search (no_feed-append, no_feed-word, (no_feed-words (u ∷ ts)))

pub no_feed-row : (r : Row) → no_feed (content r) ≡ true
no_feed-row ending = refl
no_feed-row (tokens_of Initiator tokens) = no_feed-words tokens
no_feed-row (tokens_of Responder tokens) = no_feed-words tokens

-- a row by its line
pub row_same : (r s : Row) → is_row r ≡ true → is_row s ≡ true → content r ≡ content s → r ≡ s
row_same ending ending h k e = refl
row_same ending (tokens_of Initiator ts) h k e = absurd (apart _ _ 2 (sym e) (omega arith))
row_same ending (tokens_of Responder ts) h k e = absurd (apart _ _ 2 e (omega arith))
row_same (tokens_of Initiator ts) ending h k e = absurd (apart _ _ 2 e (omega arith))
row_same (tokens_of Responder ts) ending h k e = absurd (apart _ _ 2 (sym e) (omega arith))
row_same (tokens_of party []) (tokens_of role us) h k e = absurd (let bad : false ≡ true = h in cc)
row_same (tokens_of party (t ∷ ts)) (tokens_of role []) h k e = absurd (let bad : false ≡ true = k in cc)
row_same (tokens_of party (t ∷ ts)) (tokens_of role (u ∷ us)) h k e =
    let same : IsSameLine party role (t ∷ ts) (u ∷ us) [] [] = line_same party role t u ts us [] [] (ap (λ (text : List ℕ). line text ++ []) e) in
    rows same.role same.tokens
  where
    rows : {a b : Role} {xs ys : List Token} → a ≡ b → xs ≡ ys → tokens_of a xs ≡ tokens_of b ys
    rows p q = cc

no_line : (a x : List ℕ) → [] ≡ line a ++ x → ⊥
no_line [] x e = cc
no_line (b ∷ a) x e = cc

pub rows_same : (xs ys : List Row) → list_all is_row xs ≡ true → list_all is_row ys ≡ true → lines_of xs ≡ lines_of ys → xs ≡ ys
rows_same [] [] h k e = refl
rows_same [] (y ∷ ys) h k e = absurd (no_line (content y) (lines_of ys) e)
rows_same (x ∷ xs) [] h k e = absurd (no_line (content x) (lines_of xs) (sym e))
rows_same (x ∷ xs) (y ∷ ys) h k e =
    let a = and_parts (is_row x) (list_all is_row xs) h in
    let b = and_parts (is_row y) (list_all is_row ys) k in
    let same = first_same (content x) (content y) (lines_of xs) (lines_of ys) (no_feed-row x) (no_feed-row y) e in
    cons-same (row_same x y a.0 b.0 same.0) (rows_same xs ys a.1 b.1 same.1)

-- the rows begin with those before, and the next row has this line
pub record IsNextRow (reported : List ℕ) (before rows : List Row) : Type 0 where
  pub row : Row
  pub more : List Row
  pub right : is_row row ≡ true
  pub rows_are : rows ≡ before ++ row ∷ more
  pub reported_is : reported ≡ content row

pub next_row : (reported rest : List ℕ) → no_feed reported ≡ true → (before rows : List Row) → list_all is_row before ≡ true → list_all is_row rows ≡ true
    → lines_of rows ≡ lines_of before ++ (line reported ++ rest) → IsNextRow reported before rows
next_row reported rest n [] [] h k e = absurd (no_line reported rest e)
next_row reported rest n [] (r ∷ rs) h k e =
    let same = first_same (content r) reported (lines_of rs) rest (no_feed-row r) n e in
    record { row = r; more = rs; right = (and_parts (is_row r) (list_all is_row rs) k).0; rows_are = refl; reported_is = sym same.0 }
next_row reported rest n (s ∷ ss) [] h k e = search rules
next_row reported rest n (s ∷ ss) (r ∷ rs) h k e =
    let a = and_parts (is_row s) (list_all is_row ss) h in
    let b = and_parts (is_row r) (list_all is_row rs) k in
    let same = first_same (content r) (content s) (lines_of rs) (lines_of ss ++ (line reported ++ rest)) (no_feed-row r) (no_feed-row s) (e
    ∙ append_assoc (line (content s)) (lines_of ss) (line reported ++ rest)) in
    let next : IsNextRow reported ss rs = next_row reported rest n ss rs a.1 b.1 same.1 in
    record {
      row = next.row;
      more = next.more;
      right = next.right;
      rows_are = cons-same (row_same r s b.0 a.0 same.0) next.rows_are;
      reported_is = next.reported_is;
    }
