-- Tokens and psks.
use Rattle.std.proofs.Common.{rules, ◌≡◌, ℕ, List, [], ◌∷◌, ◌++◌, drop, get_or, refl, sym, subst}
use Rattle.std.specs.Prelude.{is_some}
use Rattle.noise_handshake.proofs.Common.{Result, MatchResult, Token, SymmetricState, Cause, Remote, token_bytes, after_token, Reader, Fits, known_after, first_psk, cause_of, Fails}
use Rattle.noise_names.specs.declared.token.Token.TheVariants.{Psk}
use Rattle.noise_state.specs.Symmetric.{mix_key_and_hash}

pub first_psk-read : (psks : List (List ℕ)) → get_or psks 0 [] ≡ first_psk psks
first_psk-read [] = refl
first_psk-read (x ∷ xs) = refl

-- what a psk token is read as
pub psk-read : (state : SymmetricState) (v : Reader) (known : Remote) (psks : List (List ℕ)) (r : SymmetricState)
    (t : Token) (m k : List ℕ)
    → t ≡ Psk → k ≡ first_psk psks → state ≡ mix_key_and_hash r k
    → (x : List ℕ) × Fits v known psks t x × (m ≡ token_bytes r t x ++ m) × (state ≡ after_token v.has_psks r t x) × (known ≡ known_after known t x)
psk-read state v known psks r t m k e f h =
    subst (λ (u : Token). (x : List ℕ) × Fits v known psks u x × (m ≡ token_bytes r u x ++ m) × (state ≡ after_token v.has_psks r u x)
    × (known ≡ known_after known u x))
    (sym e) (k, f, refl, h, refl)

-- a result's fact, at the token that it was read as
pub read-as : (state : SymmetricState) (v : Reader) (known known2 : Remote) (psks : List (List ℕ)) (r : SymmetricState)
    (m : List ℕ) (result : Result ℕ Cause) (t u : Token) → u ≡ t
    → MatchResult result
    (λ n. (x : List ℕ) × Fits v known psks t x × (m ≡ token_bytes r t x ++ drop n m) × (state ≡ after_token v.has_psks r t x)
    × (known2 ≡ known_after known t x))
    (λ cause. Fails v known psks r t m × (cause ≡ cause_of (is_some r.cipher.key) t m))
    → MatchResult result
    (λ n. (x : List ℕ) × Fits v known psks u x × (m ≡ token_bytes r u x ++ drop n m) × (state ≡ after_token v.has_psks r u x)
    × (known2 ≡ known_after known u x))
    (λ cause. Fails v known psks r u m × (cause ≡ cause_of (is_some r.cipher.key) u m))
read-as state v known known2 psks r m result t u e h = search rules
