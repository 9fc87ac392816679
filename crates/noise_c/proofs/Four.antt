-- A message of a valid pattern has at most four DH tokens, one of each kind.
use Rattle.std.proofs.Common.{◌≡◌, inl, inr, ℕ, zero, suc, ◌+◌, ◌<◌, ◌≤◌, List, [], ◌∷◌, ◌++◌, length, take, drop, refl, ap, sym, ◌∙◌, arith, append_assoc}
use Rattle.std.proofs.lemmas.List.Sums.{sum_by-cons}
use Rattle.std.proofs.lemmas.List.Folds.{list_any-append}
use Rattle.std.specs.Prelude.{true, false}
use Rattle.std.specs.List.{list_any}
use Rattle.noise_c.proofs.Common.{Bool, ◌||◌, cond, count_by, Token, E, S, Ee, Es, Se, Ss, Role, Plan, Place, does, place, message_places, places_before, token_places, IsValid, KeepsRules, dh_is_first, is_at, occurs, is_dh, tokens_at, cases_lt, or_right, or_left, not-true, or_parts}
use Rattle.noise_names.specs.declared.token.Token.TheVariants.{Psk}
use Rattle.noise_names.specs.declared.token.Role.TheVariants.{Initiator, Responder}
use Rattle.noise_names.specs.Tokens.{same_token, turn_from}
use Rattle.noise_names.specs.Rules.{tokens-keep-rules}

-- whether a token is among others
abbrev has : Token → List Token → Bool
has t ts = list_any (λ u. same_token u t) ts

-- how often it is
abbrev times : Token → List Token → ℕ
times t ts = count_by (λ u. same_token u t) ts

times-cons : (t u : Token) (ts : List Token) → times t (u ∷ ts) ≡ cond (same_token u t) 1 0 + times t ts
times-cons t u ts = sum_by-cons (λ (z : Token). cond (same_token z t) 1 0) u ts

dhs-cons : (u : Token) (ts : List Token) → count_by is_dh (u ∷ ts) ≡ cond (is_dh u) 1 0 + count_by is_dh ts
dhs-cons u ts = sum_by-cons (λ (z : Token). cond (is_dh z) 1 0) u ts

four-kinds : (u : Token) → cond (is_dh u) 1 0 ≡ cond (same_token u Ee) 1 0 + cond (same_token u Es) 1 0 + cond (same_token u Se) 1 0 + cond (same_token u Ss) 1 0
four-kinds E = refl
four-kinds _ = refl

-- the DH tokens are those of four kinds
by-kind : (ts : List Token) → count_by is_dh ts ≡ times Ee ts + times Es ts + times Se ts + times Ss ts
by-kind [] = refl
by-kind (u ∷ ts) =
    omega (arith, dhs-cons u ts, four-kinds u, times-cons Ee u ts, times-cons Es u ts, times-cons Se u ts, times-cons Ss u ts, by-kind ts)

same-self : (u t : Token) → same_token u t ≡ true → u ≡ t
same-self E E e = refl
same-self S S e = refl
same-self Ee Ee e = refl
same-self Es Es e = refl
same-self Se Se e = refl
same-self Ss Ss e = refl
same-self Psk Psk e = refl
same-self _ _ e = cc

-- a token is nowhere after others and some of these
abbrev NoRepeat : Token → List Token → List Token → Type 0
NoRepeat t before ts = (front back : List Token) → ts ≡ front ++ t ∷ back → has t (before ++ front) ≡ false

later : (t u : Token) (before ts : List Token) → NoRepeat t before (u ∷ ts) → NoRepeat t (before ++ u ∷ []) ts
later t u before ts n front back e =
    ap (has t) (append_assoc before (u ∷ []) front) ∙ n (u ∷ front) back (ap (λ (us : List Token). u ∷ us) e)

none-after : (t : Token) (before ts : List Token) → NoRepeat t before ts → has t before ≡ true → times t ts ≡ 0
none-after t before [] n h = refl
none-after t before (u ∷ ts) n h = by (same_token u t) refl (none-after t (before ++ u ∷ []) ts (later t u before ts n) keeps) where
  keeps : has t (before ++ u ∷ []) ≡ true
  keeps = list_any-append (λ (z : Token). same_token z t) before (u ∷ []) ∙ or_left (has t before) _ h

  by : (b : Bool) → same_token u t ≡ b → times t ts ≡ 0 → times t (u ∷ ts) ≡ 0
  by true e rest =
      let clear : has t (before ++ []) ≡ false = n [] ts (ap (λ (z : Token). z ∷ ts) (same-self u t e)) in
      let there : has t (before ++ []) ≡ true = list_any-append (λ (z : Token). same_token z t) before [] ∙ or_left (has t before) false h in
      absurd (cc)
  by false e rest = omega (arith, times-cons t u ts, ap {B = ℕ} (λ (b : Bool). cond b 1 0) e, rest)

at-most-once : (t : Token) (before ts : List Token) → NoRepeat t before ts → times t ts ≤ 1
at-most-once t before [] n = omega arith
at-most-once t before (u ∷ ts) n = by (same_token u t) refl (at-most-once t (before ++ u ∷ []) ts (later t u before ts n)) where
  by : (b : Bool) → same_token u t ≡ b → times t ts ≤ 1 → times t (u ∷ ts) ≤ 1
  by true e few =
      let rest : times t ts ≡ 0 = none-after t (before ++ u ∷ []) ts (later t u before ts n)
      (list_any-append (λ (z : Token). same_token z t) before (u ∷ [])
      ∙ or_right (has t before) (has t (u ∷ [])) (or_left (same_token u t) false e)) in
      omega (arith, times-cons t u ts, ap {B = ℕ} (λ (b : Bool). cond b 1 0) e, rest)
  by false e few = omega (arith, times-cons t u ts, ap {B = ℕ} (λ (b : Bool). cond b 1 0) e, few)

-- ---- of a valid pattern

token-has : (t : Token) (party : Role) (n i : ℕ) (ts : List Token) → occurs t (token_places party n i ts) ≡ has t ts
token-has t party n i [] = refl
token-has t party n i (u ∷ ts) = ap (λ (b : Bool). same_token u t || b) (token-has t party n (i + 1) ts)

first-of : (t : Token) (earlier : List Place) → is_dh t ≡ true → dh_is_first earlier (does t) ≡ true → occurs t earlier ≡ false
first-of Ee earlier d e = not-true (occurs Ee earlier) e
first-of Es earlier d e = not-true (occurs Es earlier) e
first-of Se earlier d e = not-true (occurs Se earlier) e
first-of Ss earlier d e = not-true (occurs Ss earlier) e
first-of _ earlier d e = cc

message-apart : (ms : List (List Token)) (i : ℕ) → i < length ms → ms ≡ take i ms ++ tokens_at ms i ∷ drop (suc i) ms
message-apart [] i h = absurd (omega arith)
message-apart (ts ∷ ms) zero h = refl
message-apart (ts ∷ ms) (suc i) h = ap (λ (us : List (List Token)). ts ∷ us) (message-apart ms i (omega (arith, h)))

no-message : (ms : List (List Token)) (i : ℕ) → length ms ≤ i → tokens_at ms i ≡ []
no-message [] i h = refl
no-message (ts ∷ ms) zero h = absurd (omega (arith, h))
no-message (ts ∷ ms) (suc i) h = no-message ms i (omega (arith, h))

module _ (p : Plan) (valid : IsValid p) where
  no-repeat : (i : ℕ) → i < length p.messages → (t : Token) → is_dh t ≡ true → NoRepeat t [] (tokens_at p.messages i)
  no-repeat i h t d front back e =
      let before : List (List Token) = take i p.messages in
      let apart : p.messages ≡ before ++ (front ++ t ∷ back) ∷ drop (suc i) p.messages =
      message-apart p.messages i h ∙ ap (λ (ts : List Token). before ++ ts ∷ drop (suc i) p.messages) e in
      let keeps : KeepsRules (places_before p before front) (place (turn_from Initiator (length before)) (does t) (length before + 1) (length front)) =
      tokens-keep-rules p valid before front t back (drop (suc i) p.messages) apart in
      let clear : occurs t (places_before p before front) ≡ false = first-of t (places_before p before front) d keeps.dh in
      let party : Role = turn_from Initiator (length before) in
      let pre : List Place = (token_places Initiator 0 0 p.initiator ++ token_places Responder 0 0 p.responder) ++ message_places Initiator 1 before in
      let here : List Place = token_places party (length before + 1) 0 front in
      sym (token-has t party (length before + 1) 0 front)
      ∙ (or_parts (occurs t pre) (occurs t here) (sym (list_any-append (λ (q : Place). is_at t q.step) pre here) ∙ clear)).1

  -- it has at most four DH tokens in a message
  pub at-most-four : (i : ℕ) → count_by is_dh (tokens_at p.messages i) ≤ 4
  at-most-four i = elim (cases_lt i (length p.messages)) [ inl h ↦ inside h | inr h ↦ outside h ] where
    inside : i < length p.messages → count_by is_dh (tokens_at p.messages i) ≤ 4
    inside h =
        let ts : List Token = tokens_at p.messages i in
        omega (
          arith,
          by-kind ts,
          at-most-once Ee [] ts (no-repeat i h Ee refl),
          at-most-once Es [] ts (no-repeat i h Es refl),
          at-most-once Se [] ts (no-repeat i h Se refl),
          at-most-once Ss [] ts (no-repeat i h Ss refl),
        )

    outside : length p.messages ≤ i → count_by is_dh (tokens_at p.messages i) ≤ 4
    outside h = omega (arith, ap (count_by is_dh) (no-message p.messages i h))
