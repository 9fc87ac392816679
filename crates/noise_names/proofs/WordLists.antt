-- Lists of words of which some were read.
use Rattle.std.proofs.Common.{rules, ◌≡◌, ◌≢◌, ℕ, ◌<◌, suc, zero, Bool, true, false, not, cond, List, [], ◌∷◌, ◌++◌, refl, ap, sym, ◌∙◌, append_assoc, append-nil, length, arith, take, eqb, leb, ◌≤◌, ◌&&◌, ◌⊎◌, inl, inr, min}
use Rattle.noise_names.proofs.Common.{codes, nat_tests, Token, E, S, Ee, Es, Se, Ss, Psk, HasTokens, has_few_tokens, is_pre_message, nil_from_length, is_psk, own_tokens, word_of, words, is_lower}
use Rattle.noise_names.specs.declared.text.fault.Words.{Words}
use Rattle.std.proofs.lemmas.List.{length-take}
use Rattle.noise_names.proofs.PskTokens.{own-append}

-- words, each with a comma and a space after it
abbrev pub with_commas : List Token → List ℕ
with_commas [] = []
with_commas (t ∷ ts) = word_of t ++ 44 ∷ 32 ∷ with_commas ts

some-append : (xs : List Token) (t : Token) (ys : List Token) → xs ++ t ∷ ys ≢ []
some-append [] t ys e = cc
some-append (x ∷ xs) t ys e = cc

words-more : (read : List Token) (t : Token) (others : List Token) → with_commas read ++ words (t ∷ others) ≡ words (read ++ t ∷ others)
words-more [] t others = refl
words-more (r ∷ rs) t others = search (rules, some-append, (words-more rs t others))

commas-push : (read : List Token) (t : Token) (x : List ℕ) → with_commas (read ++ t ∷ []) ++ x ≡ with_commas read ++ (word_of t ++ 44 ∷ 32 ∷ x)
commas-push [] t x = append_assoc (word_of t) (44 ∷ 32 ∷ []) x
commas-push (r ∷ rs) t x = search (append_assoc, (commas-push rs t x))

-- what follows the first comma
abbrev past_comma : List ℕ → List ℕ
past_comma [] = []
past_comma (c ∷ cs) = cond (eqb c 44) cs (past_comma cs)

past-word : (t : Token) (x : List ℕ) → past_comma (word_of t ++ 44 ∷ x) ≡ x
past-word E x = refl
past-word S x = refl
past-word Ee x = refl
past-word Es x = refl
past-word Se x = refl
past-word Ss x = refl
past-word Psk x = refl

past-last : (t : Token) → past_comma (word_of t) ≡ []
past-last E = refl
past-last S = refl
past-last Ee = refl
past-last Es = refl
past-last Se = refl
past-last Ss = refl
past-last Psk = refl

past-first : (r : Token) (rs : List Token) (left list : List ℕ) → with_commas (r ∷ rs) ++ left ≡ list → past_comma list ≡ 32 ∷ (with_commas rs ++ left)
past-first r rs left list e =
    ap past_comma (sym e ∙ append_assoc (word_of r) (44 ∷ 32 ∷ with_commas rs) left) ∙ past-word r (32 ∷ (with_commas rs ++ left))

-- what is left of words is words
rest-is : (read : List Token) (left : List ℕ) (t : Token) (ts : List Token) → with_commas read ++ left ≡ words (t ∷ ts)
    → (u : Token) × (us : List Token) × (left ≡ words (u ∷ us))
rest-is [] left t ts e = (t, ts, e)
rest-is (r ∷ rs) left t [] e = absurd (let none : 32 ∷ (with_commas rs ++ left) ≡ [] = sym (past-first r rs left (word_of t) e) ∙ past-last t in cc)
rest-is (r ∷ rs) left t (v ∷ vs) e =
    let h : 32 ∷ (with_commas rs ++ left) ≡ 32 ∷ words (v ∷ vs) =
    sym (past-first r rs left (word_of t ++ 44 ∷ 32 ∷ words (v ∷ vs)) (e ∙ append_assoc (word_of t) (codes ", ") (words (v ∷ vs)))) ∙ past-word t (32 ∷ words (v ∷ vs)) in
    rest-is rs left v vs (cc)

pub take-take : {A : Type 0} (n : ℕ) (xs ys : List A) → take n (take n xs ++ ys) ≡ take n (xs ++ ys)
take-take zero xs ys = refl
take-take (suc n) [] ys = refl
take-take (suc n) (x ∷ xs) ys = ap (λ zs. x ∷ zs) (take-take n xs ys)

-- some words of a list were read, and what is kept of them
pub record IsRead (list left : List ℕ) (first own : List Token) : Type 0 where
  pub read : List Token
  pub list_is : list ≡ with_commas read ++ left
  pub first_is : first ≡ take 11 read
  pub own_is : own ≡ take 9 (own_tokens read)

first-more : (read first first' : List Token) (t : Token) → first ≡ take 11 read → first' ≡ take 11 (first ++ t ∷ []) → first' ≡ take 11 (read ++ t ∷ [])
first-more read first first' t e f = f ∙ ap (λ (ts : List Token). take 11 (ts ++ t ∷ [])) e ∙ take-take 11 read (t ∷ [])

-- a token is kept among those that are no psk
abbrev pub kept_own : List Token → Token → List Token
kept_own own t = cond (is_psk t) own (take 9 (own ++ t ∷ []))

own-more : (read own own' : List Token) (t : Token) → own ≡ take 9 (own_tokens read) → own' ≡ kept_own own t → own' ≡ take 9 (own_tokens (read ++ t ∷ []))
own-more read own own' t e f = f ∙ at (is_psk t) ∙ ap (λ (ts : List Token). take 9 ts) (sym (own-append read (t ∷ []))) where
  at : (b : Bool) → cond b own (take 9 (own ++ t ∷ [])) ≡ take 9 (own_tokens read ++ cond (not b) (t ∷ []) [])
  at true = e ∙ ap (λ (ts : List Token). take 9 ts) (sym (append-nil (own_tokens read)))
  at false = ap (λ (ts : List Token). take 9 (ts ++ t ∷ [])) e ∙ take-take 9 (own_tokens read) (t ∷ [])

pub read-more : (list left after rest : List ℕ) (first own first' own' : List Token) (t : Token) → IsRead list left first own → left ≡ word_of t ++ after
    → after ≡ codes ", " ++ rest → first' ≡ take 11 (first ++ t ∷ []) → own' ≡ kept_own own t → IsRead list rest first' own'
read-more list left after rest first own first' own' t r e f g h = record {
  read = r.read ++ t ∷ [];
  list_is = r.list_is ∙ ap (λ (x : List ℕ). with_commas r.read ++ x) (e ∙ ap (λ (x : List ℕ). word_of t ++ x) f) ∙ sym (commas-push r.read t rest);
  first_is = first-more r.read first first' t r.first_is g;
  own_is = own-more r.read own own' t r.own_is h;
}

pub read-end : (list left after : List ℕ) (first own : List Token) (w : Words) (t : Token) → IsRead list left first own → left ≡ word_of t ++ after
    → length after ≡ 0 → w.first.items ≡ take 11 (first ++ t ∷ []) → w.own.items ≡ kept_own own t
    → (tokens : List Token) × HasTokens w tokens × (list ≡ words tokens)
read-end list left after first own w t r e none g h = (
  r.read ++ t ∷ [],
  record {
    some = some-append r.read t [];
    first = first-more r.read first w.first.items t r.first_is g;
    own = own-more r.read own w.own.items t r.own_is h;
  },
  r.list_is ∙ ap (λ (x : List ℕ). with_commas r.read ++ x) (e ∙ ap (λ (x : List ℕ). word_of t ++ x) (nil_from_length after none) ∙ append-nil (word_of t))
      ∙ words-more r.read t [],
)

-- what stands at the front of what is left
left-is : (list left : List ℕ) (first own : List Token) (tokens : List Token) → IsRead list left first own → tokens ≢ [] → list ≡ words tokens
    → (u : Token) × (us : List Token) × (left ≡ words (u ∷ us))
left-is list left first own [] r some e = absurd (some refl)
left-is list left first own (t ∷ ts) r some e = rest-is r.read left t ts (sym r.list_is ∙ e)

pub no-word : (list left : List ℕ) (first own : List Token) → IsRead list left first own
    → ((t : Token) (b : ℕ) (more : List ℕ) → is_lower b ≡ false → left ≡ word_of t ++ b ∷ more → ⊥) → ((t : Token) → left ≡ word_of t → ⊥)
    → (tokens : List Token) → tokens ≢ [] → list ≢ words tokens
no-word list left first own r every last tokens some e = let h = left-is list left first own tokens r some e in at h.0 h.1 h.2 where
  at : (u : Token) (us : List Token) → left ≡ words (u ∷ us) → ⊥
  at u [] f = last u f
  at u (v ∷ vs) f = every u 44 (32 ∷ words (v ∷ vs)) refl (f ∙ append_assoc (word_of u) (codes ", ") (words (v ∷ vs)))

pub no-comma : (list left after : List ℕ) (first own : List Token) (token : Token) → IsRead list left first own
    → ((t : Token) (b : ℕ) (more : List ℕ) → is_lower b ≡ false → left ≡ word_of t ++ b ∷ more → (token ≡ t) × (after ≡ b ∷ more))
    → ((t : Token) → left ≡ word_of t → (token ≡ t) × (after ≡ [])) → length after ≢ 0 → ((rest : List ℕ) → after ≢ codes ", " ++ rest)
    → (tokens : List Token) → tokens ≢ [] → list ≢ words tokens
no-comma list left after first own token r every last filled no_comma tokens some e =
    let h = left-is list left first own tokens r some e in at h.0 h.1 h.2 where
      at : (u : Token) (us : List Token) → left ≡ words (u ∷ us) → ⊥
      at u [] f = filled (ap length (last u f).1)
      at u (v ∷ vs) f =
          no_comma (words (v ∷ vs)) (every u 44 (32 ∷ words (v ∷ vs)) refl (f ∙ append_assoc (word_of u) (codes ", ") (words (v ∷ vs)))).1

-- the tokens of a pre-message are few enough that all are kept
pre-three : (t u v : Token) (ts : List Token) → is_pre_message (t ∷ u ∷ v ∷ ts) ≡ false
pre-three E E v ts = refl
pre-three E S v ts = refl
pre-three E Ee v ts = refl
pre-three E Es v ts = refl
pre-three E Se v ts = refl
pre-three E Ss v ts = refl
pre-three E Psk v ts = refl
pre-three S u v ts = refl
pre-three Ee u v ts = refl
pre-three Es u v ts = refl
pre-three Se u v ts = refl
pre-three Ss u v ts = refl
pre-three Psk u v ts = refl

pub pre-kept : (w : Words) (tokens : List Token) (b : Bool) → HasTokens w tokens → b ≡ is_pre_message w.first.items → b ≡ is_pre_message tokens
pre-kept w tokens b h e = e ∙ ap is_pre_message h.first ∙ at tokens where
  at : (ts : List Token) → is_pre_message (take 11 ts) ≡ is_pre_message ts
  at [] = refl
  at (t ∷ []) = refl
  at (t ∷ u ∷ []) = refl
  at (t ∷ u ∷ v ∷ ts) = pre-three t u v (take 8 ts) ∙ sym (pre-three t u v ts)

-- a list that is cut where it is too long
pub cut-few : (w : Words) (tokens : List Token) (few : Bool) → HasTokens w tokens
    → few ≡ not (eqb (length w.own.items) 0) && not (eqb (length w.own.items) 9) → few ≡ has_few_tokens tokens
cut-few w tokens few h e =
    let count : length w.own.items ≡ min 9 (length (own_tokens tokens)) = ap length h.own ∙ length-take 9 (own_tokens tokens) in
    e ∙ at (length w.own.items) (length (own_tokens tokens)) count
  where
    at : (m n : ℕ) → m ≡ min 9 n → not (eqb m 0) && not (eqb m 9) ≡ leb 1 n && leb n 8
    at m n e = grind (arith, nat_tests)

take-short : (xs : List Token) (n : ℕ) → length xs ≤ n → take n xs ≡ xs
take-short [] zero h = refl
take-short [] (suc n) h = refl
take-short (x ∷ xs) zero h = absurd (omega arith)
take-short (x ∷ xs) (suc n) h = ap (λ (ys : List Token). x ∷ ys) (take-short xs n (omega arith))

whole-or-long : (xs : List Token) → (take 11 xs ≡ xs) ⊎ (length (take 11 xs) ≡ 11)
whole-or-long xs = at (leb (length xs) 11) refl where
  le : leb (length xs) 11 ≡ true → length xs ≤ 11
  le h = grind (arith, nat_tests)

  eleven : leb (length xs) 11 ≡ false → min 11 (length xs) ≡ 11
  eleven h = grind (arith, nat_tests)

  at : (b : Bool) → leb (length xs) 11 ≡ b → (take 11 xs ≡ xs) ⊎ (length (take 11 xs) ≡ 11)
  at true h = inl (take-short xs 11 (le h))
  at false h = inr (length-take 11 xs ∙ eleven h)

-- tokens are those of a message that is no longer than what is kept, if what is kept is that message
pub kept-same : (w : Words) (tokens message : List Token) → HasTokens w tokens → length message ≤ 10 → message ≡ w.first.items → tokens ≡ message
kept-same w tokens message h few e = elim (whole-or-long tokens) [
  | inl same ↦ sym (e ∙ h.first ∙ same)
  | inr long ↦ absurd (let count : length message ≡ length (take 11 tokens) = ap length (e ∙ h.first) in omega arith)
]

pub same-kept : (w : Words) (tokens message : List Token) → HasTokens w tokens → length message ≤ 10 → tokens ≡ message → message ≡ w.first.items
same-kept w tokens message h few e = elim (whole-or-long tokens) [
  | inl same ↦ sym (h.first ∙ same ∙ e)
  | inr long ↦ absurd (let count : length tokens ≡ length message = ap length e in let less = length-take 11 tokens in omega arith)
]

-- the tokens of a list whose tokens other than psk are all kept
pub own-kept : (w : Words) (tokens : List Token) → HasTokens w tokens → length w.own.items ≤ 8 → w.own.items ≡ own_tokens tokens
own-kept w tokens h few = h.own ∙ at (own_tokens tokens) 9 (let count = ap length h.own in omega arith) where
  at : (xs : List Token) (n : ℕ) → length (take n xs) < n → take n xs ≡ xs
  at xs zero lt = absurd (omega arith)
  at [] (suc n) lt = refl
  at (x ∷ xs) (suc n) lt = ap (λ (ys : List Token). x ∷ ys) (at xs n (omega arith))
