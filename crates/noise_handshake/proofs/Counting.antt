-- The nonce counts the texts under a key, one message after another.
use Rattle.std.proofs.Common.{rules, ◌≡◌, ◌≤◌, ◌<◌, ℕ, zero, suc, ◌+◌, ◌*◌, List, [], ◌∷◌, length, take, refl, ap, sym, ◌∙◌, arith}
use Rattle.std.specs.Prelude.{Bool, true, false, if◌then◌else◌}
use Rattle.noise_handshake.proofs.Common.{SymmetricState, keyed, nonce_now, with_ephemeral, after_token, after_tokens, after_ciphertext, Carry, Token, E, S, Ee, Es, Se, Ss, Plan, has_psk, has_key, keyed_after, keyed_after_tokens, nonce_after, nonce_after_tokens, nonce_after_message, nonce_after_messages, nonce_due, passed_places, tokens_at}
use Rattle.noise_names.specs.declared.token.Token.TheVariants.{Psk}
use Rattle.noise_state.specs.Cipher.{next_nonce}
use Rattle.noise_handshake.specs.inner.Keyed.{keyed_after_messages}
use Rattle.noise_handshake.proofs.Places.{has_key-passed}
use Rattle.noise_handshake.proofs.Widths.{after_token-keyed, after_tokens-keyed}

-- ---- what a message leaves

with_ephemeral-counted : (has_psks : Bool) (r : SymmetricState) (x : List ℕ) → nonce_now (with_ephemeral has_psks r x) ≡ (if has_psks then 0 else nonce_now r)
with_ephemeral-counted true r x = refl
with_ephemeral-counted false r x = refl

pub after_token-counted : (has_psks : Bool) (r : SymmetricState) (t : Token) (x : List ℕ)
    → nonce_now (after_token has_psks r t x) ≡ nonce_after has_psks (keyed r) (nonce_now r) t
after_token-counted has_psks r E x = with_ephemeral-counted has_psks r x
after_token-counted has_psks r S x = refl
after_token-counted has_psks r Ee x = refl
after_token-counted has_psks r Es x = refl
after_token-counted has_psks r Se x = refl
after_token-counted has_psks r Ss x = refl
after_token-counted has_psks r Psk x = refl

after_tokens-counted : (has_psks : Bool) (r : SymmetricState) (ts : List Token) (xs : List (List ℕ)) → Carry ts xs
    → nonce_now (after_tokens has_psks r ts xs) ≡ nonce_after_tokens has_psks (keyed r) (nonce_now r) ts
after_tokens-counted has_psks r [] xs h = refl
after_tokens-counted has_psks r (t ∷ ts) [] h = absurd h
after_tokens-counted has_psks r (t ∷ ts) (x ∷ xs) h =
    let next : SymmetricState = after_token has_psks r t x in
    after_tokens-counted has_psks next ts xs h.1
    ∙ ap (λ (b : Bool). nonce_after_tokens has_psks b (nonce_now next) ts) (after_token-keyed has_psks r t x)
    ∙ ap (λ (n : ℕ). nonce_after_tokens has_psks (keyed_after has_psks (keyed r) t) n ts) (after_token-counted has_psks r t x)

-- its tokens, and then any ciphertext
pub message-counted : (has_psks : Bool) (r : SymmetricState) (ts : List Token) (xs : List (List ℕ)) (bytes : List ℕ) → Carry ts xs
    → nonce_now (after_ciphertext (after_tokens has_psks r ts xs) bytes) ≡ nonce_after_message has_psks (keyed r) (nonce_now r) ts
message-counted has_psks r ts xs bytes h =
    ap (λ (b : Bool). next_nonce b (nonce_now (after_tokens has_psks r ts xs))) (after_tokens-keyed has_psks r ts xs h)
    ∙ ap (next_nonce (keyed_after_tokens has_psks (keyed r) ts)) (after_tokens-counted has_psks r ts xs h)

-- ---- one message after another

keyed-more : (has_psks k : Bool) (ms : List (List Token)) (i : ℕ) → i < length ms
    → keyed_after_messages has_psks k (take (suc i) ms) ≡ keyed_after_tokens has_psks (keyed_after_messages has_psks k (take i ms)) (tokens_at ms i)
keyed-more has_psks k [] i h = absurd (omega arith)
keyed-more has_psks k (ts ∷ ms) zero h = refl
keyed-more has_psks k (ts ∷ ms) (suc i) h = keyed-more has_psks (keyed_after_tokens has_psks k ts) ms i (omega arith)

nonce-more : (has_psks k : Bool) (n : ℕ) (ms : List (List Token)) (i : ℕ) → i < length ms
    → nonce_after_messages has_psks k n (take (suc i) ms)
    ≡ nonce_after_message has_psks (keyed_after_messages has_psks k (take i ms)) (nonce_after_messages has_psks k n (take i ms)) (tokens_at ms i)
nonce-more has_psks k n [] i h = absurd (omega arith)
nonce-more has_psks k n (ts ∷ ms) zero h = refl
nonce-more has_psks k n (ts ∷ ms) (suc i) h =
    search ((nonce-more has_psks (keyed_after_tokens has_psks k ts) (nonce_after_message has_psks k n ts) ms i (omega arith)))

next : (i : ℕ) → i + 1 ≡ suc i
next i = omega arith

module _ (p : Plan) where
  pub keyed-passed : (i : ℕ) → i ≤ length p.messages
      → keyed_after_messages (has_psk p) (has_key p (passed_places p 0)) (take i p.messages) ≡ has_key p (passed_places p i)
  keyed-passed zero h = refl
  keyed-passed (suc i) h =
      keyed-more (has_psk p) (has_key p (passed_places p 0)) p.messages i (omega arith)
      ∙ ap (λ (b : Bool). keyed_after_tokens (has_psk p) b (tokens_at p.messages i)) (keyed-passed i (omega arith))
      ∙ sym (has_key-passed p i (omega arith)) ∙ ap (λ (k : ℕ). has_key p (passed_places p k)) (next i)

  -- the nonce after one message more
  pub due-next : (i : ℕ) → i < length p.messages
      → nonce_due p (i + 1) ≡ nonce_after_message (has_psk p) (has_key p (passed_places p i)) (nonce_due p i) (tokens_at p.messages i)
  due-next i h = search (rules, nonce-more, keyed-passed)

-- the bound after one message more
pub bound-after : (passed n more length : ℕ) → n ≤ 11 * passed → more ≤ n + length + 1 → length ≤ 10 → more ≤ 11 * (passed + 1)
bound-after passed n more length h e short = omega (arith, h, e, short)

-- a token encrypts at most one text, and a message at most one more than it has tokens
next-most : (keyed : Bool) (n : ℕ) → next_nonce keyed n ≤ n + 1
next-most true n = omega arith
next-most false n = omega arith

begun-most : (has_psks : Bool) (n : ℕ) → (if has_psks then 0 else n) ≤ n + 1
begun-most true n = omega arith
begun-most false n = omega arith

pub nonce-most : (has_psks keyed : Bool) (n : ℕ) (t : Token) → nonce_after has_psks keyed n t ≤ n + 1
nonce-most has_psks keyed n E = begun-most has_psks n
nonce-most has_psks keyed n S = next-most keyed n
nonce-most has_psks keyed n Ee = omega arith
nonce-most has_psks keyed n Es = omega arith
nonce-most has_psks keyed n Se = omega arith
nonce-most has_psks keyed n Ss = omega arith
nonce-most has_psks keyed n Psk = omega arith

nonces-most : (has_psks keyed : Bool) (n : ℕ) (ts : List Token) → nonce_after_tokens has_psks keyed n ts ≤ n + length ts
nonces-most has_psks keyed n [] = omega arith
nonces-most has_psks keyed n (t ∷ ts) = search (rules, (nonces-most has_psks (keyed_after has_psks keyed t) (nonce_after has_psks keyed n t) ts))

-- so a message leaves a nonce
pub after_tokens-most : (has_psks : Bool) (r state : SymmetricState) (ts : List Token) (xs : List (List ℕ)) → Carry ts xs
    → state ≡ after_tokens has_psks r ts xs → nonce_now state ≤ nonce_now r + length ts
after_tokens-most has_psks r state ts xs h e =
    omega (arith, ap nonce_now e ∙ after_tokens-counted has_psks r ts xs h, nonces-most has_psks (keyed r) (nonce_now r) ts)

pub message-most : (has_psks keyed : Bool) (n : ℕ) (ts : List Token) → nonce_after_message has_psks keyed n ts ≤ n + length ts + 1
message-most has_psks keyed n ts = search (rules, nonces-most)
