-- What the private functions of reading return and leave, by the state before.
use Rattle.std.specs.Prelude.{◌≡◌, ℕ, ◌+◌, ◌<◌, List, ◌++◌, length, drop, slice_range, Bool, Option, Some, is_some, IsTrue}
use Rattle.std.specs.Prelude.{Result, MatchOption, MatchResult}
use Rattle.noise_names.specs.declared.token.Role.{Role}
use Rattle.noise_names.specs.declared.token.Token.{Token}
use Rattle.noise_names.specs.declared.token.Token.TheVariants.{S}
use Rattle.noise_state.specs.declared.symmetric.SymmetricState.{SymmetricState}
use Rattle.noise_state.specs.Symmetric.{ciphertext}
use Rattle.noise_state.specs.Symmetric.{after_ciphertext}
use Rattle.noise_keys.specs.declared.keys.Own.{Own}
use Rattle.noise_handshake.specs.declared.faults.Cause.{Cause}
use Rattle.noise_handshake.specs.declared.faults.Cause.TheVariants.{Short}
use Rattle.noise_handshake.specs.declared.remote.Remote.{Remote}
use Rattle.noise_handshake.specs.declared.stop.Stop.{Stop}
use Rattle.noise_handshake.specs.Message.{with_ephemeral, token_bytes, after_token, after_tokens, after_payload}
use Rattle.noise_handshake.specs.Party.{Reader, BeginsAs, Fits, Reads, Stops, cause_of, known_after, remote_after}
use Rattle.noise_handshake.specs.inner.Known.{are_known}
use Rattle.noise_handshake.specs.inner.Listening.{BeginsBefore, Fails, ReaderWants, StopsKnowing}

-- a static key that fills these bytes, opened
abbrev pub OpensKey : SymmetricState → SymmetricState → List ℕ → Option (List ℕ) → Type 0
OpensKey r state bytes key = MatchOption key ((x : List ℕ) → bytes ≡ ciphertext r x → ⊥)
    (λ x. (length x ≡ 32) × (bytes ≡ ciphertext r x) × (state ≡ after_ciphertext r (ciphertext r x)))

-- the token `e` at the front of these bytes
abbrev pub ReadsE : Bool → SymmetricState → SymmetricState → Remote → Remote → List ℕ → Result ℕ Cause → Type 0
ReadsE has_psks r state known after bytes result = MatchResult result
    (λ n. (x : List ℕ) × (length x ≡ 32) × (bytes ≡ x ++ drop n bytes)
    × (state ≡ with_ephemeral has_psks r x)
    × (after ≡ record known { e = Some x }))
    (λ cause. ((x rest : List ℕ) → length x ≡ 32 → bytes ≡ x ++ rest → ⊥) × (cause ≡ Short))

-- the token `s`
abbrev pub ReadsS : SymmetricState → SymmetricState → Remote → Remote → List ℕ → Result ℕ Cause → Type 0
ReadsS r state known after bytes result = MatchResult result
    (λ n. (x : List ℕ) × (length x ≡ 32) × (bytes ≡ ciphertext r x ++ drop n bytes)
    × (state ≡ after_ciphertext r (ciphertext r x))
    × (after ≡ record known { s = Some x }))
    (λ cause. ((x rest : List ℕ) → length x ≡ 32 → bytes ≡ ciphertext r x ++ rest → ⊥)
    × (cause ≡ cause_of (is_some r.cipher.key) S bytes))

-- any token
abbrev pub ReadsToken : Reader → SymmetricState → SymmetricState → Remote → Remote → List (List ℕ) → Token → List ℕ
    → Result ℕ Cause → Type 0
ReadsToken v r state known after psks t bytes result = MatchResult result
    (λ n. (x : List ℕ) × Fits v known psks t x × (bytes ≡ token_bytes r t x ++ drop n bytes)
    × (state ≡ after_token v.has_psks r t x)
    × (after ≡ known_after known t x))
    (λ cause. Fails v known psks r t bytes × (cause ≡ cause_of (is_some r.cipher.key) t bytes))

-- tokens from a place in a message on
abbrev pub ReadsTokens : Reader → SymmetricState → SymmetricState → Remote → Remote → List (List ℕ) → List Token
    → List ℕ → ℕ
    → Result ℕ (ℕ × Cause) → Type 0
ReadsTokens v r state known after psks ts message place result = MatchResult result
    (λ n. (xs : List (List ℕ)) × BeginsAs v known psks r ts xs (drop place message) (drop (place + n) message)
    × (state ≡ after_tokens v.has_psks r ts xs) × (after ≡ remote_after known ts xs))
    (λ stop. StopsKnowing v known psks r ts (drop place message) stop.0 stop.1 after)

-- the tokens before token k
abbrev pub ReadsBefore : Reader → SymmetricState → Remote → List (List ℕ) → List Token → ℕ → List ℕ
    → Result (Option (List ℕ)) Stop → Type 0
ReadsBefore v r known psks ts k message result = MatchResult result
    (λ s. BeginsBefore v known psks r ts message k s)
    (λ stop. (stop.token < k) × Stops v known psks r ts message stop.token stop.cause
    × ReaderWants v known psks r ts message stop.want)

-- a message, with its payload at a place
abbrev pub ReadsMessage : Reader → SymmetricState → SymmetricState → Remote → Remote → List (List ℕ) → List Token
    → List ℕ
    → List ℕ → Result (ℕ × ℕ) (ℕ × Cause) → Type 0
ReadsMessage v r state known after psks ts message new result = MatchResult result
    (λ place. let payload = slice_range new place.0 place.1 in (xs : List (List ℕ))
    × Reads v known psks r ts message xs payload
    × (state ≡ after_payload v.has_psks r ts xs payload)
    × (after ≡ remote_after known ts xs))
    (λ stop. StopsKnowing v known psks r ts message stop.0 stop.1 after)

-- the DH result that reading lacked at token k, where these keys of the other party were known there
abbrev pub IsWantAt : Role → Remote → List Token → ℕ → Cause → Option (Own × List ℕ) → Type 0
IsWantAt role here ts k cause want = (v : Reader) (before : Remote) (psks : List (List ℕ)) (r : SymmetricState)
    (message : List ℕ) → v.role ≡ role → IsTrue (are_known role (is_some before.e) (is_some before.s) ts)
    → StopsKnowing v before psks r ts message k cause here → ReaderWants v before psks r ts message want
