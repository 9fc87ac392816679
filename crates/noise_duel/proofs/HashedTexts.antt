-- From what two histories hashed, back along their messages.
use Rattle.std.proofs.Common.{rules, ◌≡◌, ℕ, List, ◌∷◌, ◌++◌, length, refl, ap, sym, subst, ◌∙◌, arith, []}
use Rattle.std.specs.Prelude.{Bool, true, false, Option, Some, None, if◌then◌else◌}
use Rattle.noise_duel.proofs.Common.{is_some, unwrap_or, Token, E, S, Psk, SymmetricState, ciphertext_under, ciphertext, Remote, with_ephemeral, token_bytes, after_token, before_payload, after_tokens, keyed_after, keyed_after_tokens, hashed, OneEach, clear_keys, pre_keys, heads, tails, cons-same, History, MixHash, and_then, state_of_history, history_after_payload, history_after_token, history_after_tokens, history_with_ephemeral, history_with_premessage}
use Rattle.noise_kdf.specs.Hkdf.{second_output}
use Rattle.noise_duel.specs.HistoryStates.{front-state, token-state}

-- without a key a text travels as it is
plain_piece : (r : SymmetricState) (x : List ℕ) → is_some r.cipher.key ≡ false → ciphertext r x ≡ x
plain_piece r x e = by r.cipher.key e where
  by : (k : Option (List ℕ)) → is_some k ≡ false → ciphertext_under k r.cipher.nonce r.hash x ≡ x
  by None h = refl
  by (Some key) h = cc

ephemeral-hashed : (psks : Bool) (r : History) (x : List ℕ) → hashed (history_with_ephemeral psks r x) ≡ x ∷ hashed r
ephemeral-hashed true r x = refl
ephemeral-hashed false r x = refl

ephemeral-keyed : (psks : Bool) (r : SymmetricState) (x : List ℕ) → is_some ((with_ephemeral psks r x).cipher.key) ≡ keyed_after psks (is_some r.cipher.key) E
ephemeral-keyed true r x = refl
ephemeral-keyed false r x = refl

-- there is a key after a token where its kind says so
pub token-keyed : (psks : Bool) (r : SymmetricState) (t : Token) (x : List ℕ)
    → is_some ((after_token psks r t x).cipher.key) ≡ keyed_after psks (is_some r.cipher.key) t
token-keyed psks r E x = ephemeral-keyed psks r x
token-keyed psks r _ x = refl

pub front-keyed : (psks : Bool) (r : SymmetricState) (ts : List Token) (xs : List (List ℕ)) → OneEach ts xs
    → is_some ((after_tokens psks r ts xs).cipher.key) ≡ keyed_after_tokens psks (is_some r.cipher.key) ts
front-keyed psks r (t ∷ ts) [] h = absurd h
front-keyed psks r (t ∷ ts) (x ∷ xs) h = search (token-keyed, (front-keyed psks (after_token psks r t x) ts xs h))
front-keyed psks r [] _ h = refl

module _ (psks : Bool) where
  -- each token travels as the same bytes
  abbrev pub Alike : SymmetricState → SymmetricState → List Token → List (List ℕ) → List (List ℕ) → Type 0
  Alike r s [] [] [] = Unit {0}
  Alike r s (t ∷ ts) (x ∷ xs) (y ∷ ys) = (token_bytes r t x ≡ token_bytes s t y) × Alike (after_token psks r t x) (after_token psks s t y) ts xs ys
  Alike r s _ _ _ = ⊥

  -- ---- as many texts

  token-many : (r s : History) (t : Token) (x y : List ℕ) → length (hashed r) ≡ length (hashed s)
      → length (hashed (history_after_token psks r t x)) ≡ length (hashed (history_after_token psks s t y))
  token-many r s E x y n = ap length (ephemeral-hashed psks r x) ∙ omega (arith, n) ∙ sym (ap length (ephemeral-hashed psks s y))
  token-many r s S x y n = omega (arith, n)
  token-many r s Psk x y n = omega (arith, n)
  token-many r s _ x y n = n

  front-many : (r s : History) (ts : List Token) (xs ys : List (List ℕ)) → OneEach ts xs → OneEach ts ys → length (hashed r) ≡ length (hashed s)
      → length (hashed (history_after_tokens psks r ts xs)) ≡ length (hashed (history_after_tokens psks s ts ys))
  front-many r s [] xs ys f g n = n
  front-many r s (t ∷ ts) [] ys f g n = absurd f
  front-many r s (t ∷ ts) (x ∷ xs) [] f g n = absurd g
  front-many r s (t ∷ ts) (x ∷ xs) (y ∷ ys) f g n = front-many (history_after_token psks r t x) (history_after_token psks s t y) ts xs ys f g (token-many r s t x y n)

  pub line-many : (r s : History) (ts : List Token) (xs ys : List (List ℕ)) (p q : List ℕ) → OneEach ts xs → OneEach ts ys
      → length (hashed r) ≡ length (hashed s)
      → length (hashed (history_after_payload psks r ts xs p)) ≡ length (hashed (history_after_payload psks s ts ys q))
  line-many r s ts xs ys p q f g n = omega (arith, front-many r s ts xs ys f g n)

  pub pre-many : (r s : History) (k l : Remote) (ts : List Token) → length (hashed r) ≡ length (hashed s)
      → length (hashed (history_with_premessage psks k ts r)) ≡ length (hashed (history_with_premessage psks l ts s))
  pre-many r s k l [] n = n
  pre-many r s k l (E ∷ ts) n = search (rules, (pre-many (history_with_ephemeral psks r (unwrap_or k.e [])) (history_with_ephemeral psks s (unwrap_or l.e [])) k l ts))
  pre-many r s k l (S ∷ ts) n = pre-many (and_then r (MixHash (unwrap_or k.s []))) (and_then s (MixHash (unwrap_or l.s []))) k l ts (omega (arith, n))
  pre-many r s k l (_ ∷ ts) n = pre-many r s k l ts n

  -- ---- back along a message

  token-back : (r s : History) (t : Token) (x y : List ℕ) → hashed (history_after_token psks r t x) ≡ hashed (history_after_token psks s t y)
      → (hashed r ≡ hashed s) × (token_bytes (state_of_history r) t x ≡ token_bytes (state_of_history s) t y)
  token-back r s E x y e = search rules
  token-back r s S x y e =
      let a : List ℕ = ciphertext (state_of_history r) x in
      let b : List ℕ = ciphertext (state_of_history s) y in
      (tails a b (hashed r) (hashed s) e, heads a b (hashed r) (hashed s) e)
  token-back r s Psk x y e =
      let a : List ℕ = second_output (state_of_history r).chaining_key x in
      let b : List ℕ = second_output (state_of_history s).chaining_key y in
      (tails a b (hashed r) (hashed s) e, refl)
  token-back r s _ x y e = (e, refl)

  front-back : (r s : History) (ts : List Token) (xs ys : List (List ℕ)) → OneEach ts xs → OneEach ts ys
      → hashed (history_after_tokens psks r ts xs) ≡ hashed (history_after_tokens psks s ts ys)
      → (hashed r ≡ hashed s) × Alike (state_of_history r) (state_of_history s) ts xs ys
  front-back r s [] [] [] f g e = (e, tt)
  front-back r s [] (x ∷ xs) ys f g e = absurd f
  front-back r s (t ∷ ts) [] ys f g e = absurd f
  front-back r s (t ∷ ts) (x ∷ xs) (y ∷ ys) f g e =
      let later = front-back (history_after_token psks r t x) (history_after_token psks s t y) ts xs ys f g e in
      let here = token-back r s t x y later.0 in (
        here.0,
        (
          here.1,
          subst (λ (u : SymmetricState). Alike u (after_token psks (state_of_history s) t y) ts xs ys) (token-state psks r t x)
              (subst (λ (u : SymmetricState). Alike (state_of_history (history_after_token psks r t x)) u ts xs ys) (token-state psks s t y) later.1),
        ),
      )
  front-back r s _ _ _ f g e = absurd g

  -- what it hashed reports a message's bytes, token by token
  pub line-back : (r s : History) (ts : List Token) (xs ys : List (List ℕ)) (p q : List ℕ) → OneEach ts xs → OneEach ts ys
      → hashed (history_after_payload psks r ts xs p) ≡ hashed (history_after_payload psks s ts ys q)
      → (hashed r ≡ hashed s) × Alike (state_of_history r) (state_of_history s) ts xs ys
      × (ciphertext (after_tokens psks (state_of_history r) ts xs) p ≡ ciphertext (after_tokens psks (state_of_history s) ts ys) q)
  line-back r s ts xs ys p q f g e =
      let one : History = history_after_tokens psks r ts xs in
      let two : History = history_after_tokens psks s ts ys in
      let a : List ℕ = ciphertext (state_of_history one) p in
      let b : List ℕ = ciphertext (state_of_history two) q in
      let more = front-back r s ts xs ys f g (tails a b (hashed one) (hashed two) e) in (
        more.0,
        more.1,
        sym (ap (λ (u : SymmetricState). ciphertext u p) (front-state psks r ts xs)) ∙ heads a b (hashed one) (hashed two) e
            ∙ ap (λ (u : SymmetricState). ciphertext u q) (front-state psks s ts ys),
      )

  pub pre-back : (r s : History) (k l : Remote) (ts : List Token) → hashed (history_with_premessage psks k ts r) ≡ hashed (history_with_premessage psks l ts s)
      → (hashed r ≡ hashed s) × (pre_keys k ts ≡ pre_keys l ts)
  pre-back r s k l [] e = (e, refl)
  pre-back r s k l (E ∷ ts) e =
      let x : List ℕ = unwrap_or k.e [] in
      let y : List ℕ = unwrap_or l.e [] in
      let later = pre-back (history_with_ephemeral psks r x) (history_with_ephemeral psks s y) k l ts e in
      let here = token-back r s E x y later.0 in
      (here.0, cons-same here.1 later.1)
  pre-back r s k l (S ∷ ts) e =
      let x : List ℕ = unwrap_or k.s [] in
      let y : List ℕ = unwrap_or l.s [] in
      let later = pre-back (and_then r (MixHash x)) (and_then s (MixHash y)) k l ts e in
      (tails x y (hashed r) (hashed s) later.0, cons-same (heads x y (hashed r) (hashed s) later.0) later.1)
  pre-back r s k l (_ ∷ ts) e = pre-back r s k l ts e

  -- ---- what the same bytes report

  pub front-same : (r s : SymmetricState) (ts : List Token) (xs ys : List (List ℕ)) → Alike r s ts xs ys → before_payload psks r ts xs ≡ before_payload psks s ts ys
  front-same r s [] [] [] h = refl
  front-same r s (t ∷ ts) (x ∷ xs) (y ∷ ys) h = search ((front-same (after_token psks r t x) (after_token psks s t y) ts xs ys h.1))
  front-same r s _ _ _ h = absurd h

  static-same : (keyed : Bool) (r s : SymmetricState) (x y : List ℕ) (older others : List (List ℕ)) → is_some r.cipher.key ≡ keyed → is_some s.cipher.key ≡ keyed
      → ciphertext r x ≡ ciphertext s y → older ≡ others
      → (if keyed then [] else x ∷ []) ++ older ≡ (if keyed then [] else y ∷ []) ++ others
  static-same true r s x y older others a b e f = f
  static-same false r s x y older others a b e f = cons-same (sym (plain_piece r x a) ∙ e ∙ plain_piece s y b) f

  open-token : (keyed : Bool) (r s : SymmetricState) (t : Token) (ts : List Token) (x y : List ℕ) (xs ys : List (List ℕ)) → is_some r.cipher.key ≡ keyed
      → is_some s.cipher.key ≡ keyed
      → token_bytes r t x ≡ token_bytes s t y → clear_keys psks (keyed_after psks keyed t) ts xs ≡ clear_keys psks (keyed_after psks keyed t) ts ys
      → clear_keys psks keyed (t ∷ ts) (x ∷ xs) ≡ clear_keys psks keyed (t ∷ ts) (y ∷ ys)
  open-token keyed r s E ts x y xs ys a b e f =
      cons-same e f
  open-token keyed r s S ts x y xs ys a b e f = static-same keyed r s x y (clear_keys psks keyed ts xs) (clear_keys psks keyed ts ys) a b e f
  open-token keyed r s _ ts x y xs ys a b e f = f

  -- the public keys that travel as they are
  pub open-same : (keyed : Bool) (r s : SymmetricState) (ts : List Token) (xs ys : List (List ℕ)) → is_some r.cipher.key ≡ keyed → is_some s.cipher.key ≡ keyed
      → Alike r s ts xs ys → clear_keys psks keyed ts xs ≡ clear_keys psks keyed ts ys
  open-same keyed r s [] [] [] a b h = refl
  open-same keyed r s (t ∷ ts) (x ∷ xs) (y ∷ ys) a b h =
      open-token keyed r s t ts x y xs ys a b h.0
      (open-same (keyed_after psks keyed t) (after_token psks r t x) (after_token psks s t y) ts xs ys
      (token-keyed psks r t x ∙ ap (λ (k : Bool). keyed_after psks k t) a) (token-keyed psks s t y ∙ ap (λ (k : Bool). keyed_after psks k t) b) h.1)
  open-same keyed r s _ _ _ a b h = absurd h
