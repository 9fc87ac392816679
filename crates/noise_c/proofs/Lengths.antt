-- A message is at most 96 bytes longer than its payload: one e, one s with a tag, and the payload's tag.
use Rattle.std.proofs.Common.{◌≡◌, ◌<◌, ◌≤◌, ◌+◌, ◌-◌, ℕ, List, [], ◌∷◌, ◌++◌, length, drop, take, true, false, refl, ap, sym, subst, ◌∙◌, arith}
use Rattle.std.specs.Prelude.{◌&&◌, ◌||◌, not, slice_index_or}
use Rattle.std.proofs.lemmas.List.{append_assoc, append-nil, drop_more, take-append-drop}
use Rattle.std.proofs.lemmas.List.Folds.{list_any-append}
use Rattle.noise_c.proofs.Common.{Bool, if◌then◌else◌, Plan, Role, Token, E, S, Ee, Es, Se, Ss, false≢true}
use Rattle.noise_c.proofs.Sides.{taken-len}
use Rattle.noise_names.specs.declared.token.Role.TheVariants.{Initiator, Responder}
use Rattle.noise_names.specs.declared.token.Token.TheVariants.{Psk}
use Rattle.noise_names.specs.Tokens.{same_role, same_token, turn_from}
use Rattle.noise_names.specs.Plan.{Place, place, does, payload, first_places, message_places, token_places}
use Rattle.noise_names.specs.Overhead.{added_len, has_key, overhead_from, overhead_of}
use Rattle.noise_names.specs.Validity.{TokensKeepRules, is_among, is_at, key_is_first}

-- what a key of this party may still take
abbrev budget : Role → Token → ℕ → List Place → ℕ
budget party t n places = if is_among party t places then 0 else n

same-party : (party : Role) (b : Bool) → ((b && same_role party party) || false) ≡ b
same-party Initiator true = refl
same-party Initiator false = refl
same-party Responder true = refl
same-party Responder false = refl

among-more : (party : Role) (t u : Token) (m i : ℕ) (earlier : List Place)
    → is_among party t (earlier ++ place party (does u) m i ∷ []) ≡ (is_among party t earlier || same_token u t)
among-more party t u m i earlier =
    list_any-append (λ (p : Place). is_at t p.step && same_role p.party party) earlier (place party (does u) m i ∷ [])
    ∙ ap (λ (z : Bool). is_among party t earlier || z) (same-party party (same_token u t))

or-true : (b : Bool) → (b || true) ≡ true
or-true true = refl
or-true false = refl

or-false : (b : Bool) → (b || false) ≡ b
or-false true = refl
or-false false = refl

-- where the token is another one
same-budget : (party : Role) (t u : Token) (n m i : ℕ) (earlier : List Place) → same_token u t ≡ false
    → budget party t n (earlier ++ place party (does u) m i ∷ []) ≡ budget party t n earlier
same-budget party t u n m i earlier other =
    ap (λ (b : Bool). if b then 0 else n)
    (among-more party t u m i earlier ∙ ap (λ (b : Bool). is_among party t earlier || b) other ∙ or-false (is_among party t earlier))

-- where it's this one
no-budget : (party : Role) (t u : Token) (n m i : ℕ) (earlier : List Place) → same_token u t ≡ true
    → budget party t n (earlier ++ place party (does u) m i ∷ []) ≡ 0
no-budget party t u n m i earlier same =
    ap (λ (b : Bool). if b then 0 else n)
    (among-more party t u m i earlier ∙ ap (λ (b : Bool). is_among party t earlier || b) same ∙ or-true (is_among party t earlier))

was-false : (b : Bool) → not b ≡ true → b ≡ false
was-false false e = refl
was-false true e = absurd (false≢true e)

whole-budget : (party : Role) (t : Token) (n : ℕ) (earlier : List Place) → not (is_among party t earlier) ≡ true → budget party t n earlier ≡ n
whole-budget party t n earlier first = ap (λ (b : Bool). if b then 0 else n) (was-false (is_among party t earlier) first)

few-or-none : (n : ℕ) (b : Bool) → (if b then 0 else n) ≤ n
few-or-none n true = omega arith
few-or-none n false = omega arith

tag-most : (b : Bool) → (if b then 16 else 0) ≤ 16
tag-most true = omega arith
tag-most false = omega arith

module _ (p : Plan) (party : Role) (m : ℕ) where
  abbrev left : List Place → ℕ
  left earlier = budget party E 32 earlier + budget party S 48 earlier

  step-len : (t : Token) (i : ℕ) (earlier : List Place) → key_is_first earlier party (does t) ≡ true
      → added_len p earlier (does t) + left (earlier ++ place party (does t) m i ∷ []) ≤ left earlier
  step-len E i earlier first =
      omega (arith, no-budget party E E 32 m i earlier refl, same-budget party S E 48 m i earlier refl, whole-budget party E 32 earlier first)
  step-len S i earlier first =
      omega (arith, same-budget party E S 32 m i earlier refl, no-budget party S S 48 m i earlier refl, whole-budget party S 48 earlier first, tag-most (has_key p earlier))
  step-len Ee i earlier first = omega (arith, same-budget party E Ee 32 m i earlier refl, same-budget party S Ee 48 m i earlier refl)
  step-len Es i earlier first = omega (arith, same-budget party E Es 32 m i earlier refl, same-budget party S Es 48 m i earlier refl)
  step-len Se i earlier first = omega (arith, same-budget party E Se 32 m i earlier refl, same-budget party S Se 48 m i earlier refl)
  step-len Ss i earlier first = omega (arith, same-budget party E Ss 32 m i earlier refl, same-budget party S Ss 48 m i earlier refl)
  step-len Psk i earlier first = omega (arith, same-budget party E Psk 32 m i earlier refl, same-budget party S Psk 48 m i earlier refl)

  -- each token keeps the rule that a key comes once
  abbrev KeysOnce : ℕ → List Place → List Token → Type 0
  KeysOnce i earlier ts = (front : List Token) (t : Token) (back : List Token) → ts ≡ front ++ t ∷ back
      → key_is_first (earlier ++ token_places party m i front) party (does t) ≡ true

  message-len : (i : ℕ) (earlier : List Place) (ts : List Token) (k : ℕ) → KeysOnce i earlier ts
      → overhead_from p earlier (token_places party m i ts ++ place party payload m k ∷ []) ≤ left earlier + 16
  message-len i earlier [] k rules = omega (arith, tag-most (has_key p earlier))
  message-len i earlier (t ∷ ts) k rules =
      let pl : Place = place party (does t) m i in
      let first : key_is_first earlier party (does t) ≡ true =
      subst (λ (z : List Place). key_is_first z party (does t) ≡ true) (append-nil earlier) (rules [] t ts refl) in
      let more : KeysOnce (i + 1) (earlier ++ pl ∷ []) ts = λ front u back e.
      subst (λ (z : List Place). key_is_first z party (does u) ≡ true) (sym (append_assoc earlier (pl ∷ []) (token_places party m (i + 1) front)))
      (rules (t ∷ front) u back (ap (λ (z : List Token). t ∷ z) e)) in
      let rest = message-len (i + 1) (earlier ++ pl ∷ []) ts k more in
      omega (arith, step-len t i earlier first, rest)

pub overhead-few : (p : Plan) → TokensKeepRules p → (n : ℕ) → n < length p.messages → overhead_of p (n + 1) ≤ 96
overhead-few p keep n less =
    let ms : List (List Token) = p.messages in
    let ts : List Token = slice_index_or ms n [] in
    let before : List (List Token) = take n ms in
    let there : ms ≡ before ++ ts ∷ drop (n + 1) ms = sym (take-append-drop n ms) ∙ ap (λ (z : List (List Token)). before ++ z) (drop_more ms n [] less) in
    let count : length before ≡ n = taken-len n ms (omega (arith, less)) in
    let party : Role = turn_from Initiator n in
    let earlier : List Place = first_places p n in
    let once : KeysOnce p party (n + 1) 0 earlier ts = λ front t back e.
    let rule = (keep before front t back (drop (n + 1) ms) (there ∙ ap (λ (z : List Token). before ++ z ∷ drop (n + 1) ms) e)).key in
    subst (λ (k : ℕ). key_is_first (earlier ++ token_places (turn_from Initiator k) (k + 1) 0 front) (turn_from Initiator k) (does t) ≡ true) count rule in
    let here : n + 1 - 1 ≡ n = omega arith in
    let len = message-len p party (n + 1) 0 earlier ts (length ts) once in
    subst (λ (k : ℕ). overhead_from p (first_places p k) (message_places (turn_from Initiator k) (n + 1) (slice_index_or ms k [] ∷ [])) ≤ 96) (sym here)
    (omega (arith, len, few-or-none 32 (is_among party E earlier), few-or-none 48 (is_among party S earlier)))
