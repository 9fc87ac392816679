-- What the private functions of writing return and leave, by the state before.
use Rattle.std.specs.Prelude.{◌≡◌, ℕ, List, take, Option, Result, MatchOption, MatchResult}
use Rattle.noise_names.specs.declared.token.Token.{Token}
use Rattle.noise_state.specs.declared.symmetric.SymmetricState.{SymmetricState}
use Rattle.noise_handshake.specs.declared.remote.Remote.{Remote}
use Rattle.noise_handshake.specs.Message.{token_bytes, after_token, before_payload, after_tokens, message_bytes, after_payload}
use Rattle.noise_handshake.specs.Writing.{Writer, Gives, Given, LacksDhResultAt}

-- what a token of the party's own carries, or no text is given
abbrev pub GivesOrNone : Writer → Remote → List (List ℕ) → Token → Option (List ℕ) → Type 0
GivesOrNone w known psks t text =
    MatchOption text ((x : List ℕ) → Gives w known psks t x → ⊥) (λ x. Gives w known psks t x)

-- a token, at the front of a buffer
abbrev pub WritesToken : Writer → SymmetricState → SymmetricState → Remote → List (List ℕ) → Token → List ℕ
    → Option ℕ → Type 0
WritesToken w r state known psks t out result = MatchOption result
    ((x : List ℕ) → Gives w known psks t x → ⊥)
    (λ n. (x : List ℕ) × Gives w known psks t x × (take n out ≡ token_bytes r t x)
    × (state ≡ after_token w.has_psks r t x))

-- tokens
abbrev pub WritesTokens : Writer → SymmetricState → SymmetricState → Remote → List (List ℕ) → List Token → List ℕ
    → Result ℕ ℕ → Type 0
WritesTokens w r state known psks ts out result = MatchResult result
    (λ n. (xs : List (List ℕ)) × Given w known psks ts xs × (take n out ≡ before_payload w.has_psks r ts xs)
    × (state ≡ after_tokens w.has_psks r ts xs))
    (λ k. LacksDhResultAt w known psks ts k)

-- a message with this payload
abbrev pub WritesMessage : Writer → SymmetricState → SymmetricState → Remote → List (List ℕ) → List Token → List ℕ
    → List ℕ
    → Result ℕ ℕ → Type 0
WritesMessage w r state known psks ts payload out result = MatchResult result
    (λ n. (xs : List (List ℕ)) × Given w known psks ts xs × (take n out ≡ message_bytes w.has_psks r ts xs payload)
    × (state ≡ after_payload w.has_psks r ts xs payload))
    (λ k. LacksDhResultAt w known psks ts k)
