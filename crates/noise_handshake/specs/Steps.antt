-- What is told of the tokens of a message (Noise 5.3): each with the bytes that it travels as, and the state after it.
use Rattle.std.specs.Prelude.{ℕ, ◌+◌, List, [], ◌∷◌, length, Bool}
use Rattle.noise_names.specs.declared.token.Token.{Token}
use Rattle.noise_state.specs.declared.symmetric.SymmetricState.{SymmetricState}
use Rattle.noise_handshake.specs.Message.{token_bytes, after_token}

-- These go by what a `Steps` is after one token.
module _ {S : Type 0} (after : S → Token → ℕ → ℕ → SymmetricState → S) where
  -- after a token that carries this text, from this place of the message on
  abbrev pub after_step : Bool → SymmetricState → ℕ → Token → List ℕ → S → S
  after_step has_psks r from t x s =
      after s t from (from + length (token_bytes r t x)) (after_token has_psks r t x)

  -- after tokens that carry these texts, from this place on
  abbrev pub after_steps : Bool → SymmetricState → ℕ → List Token → List (List ℕ) → S → S
  after_steps has_psks r from [] xs s = s
  after_steps has_psks r from (t ∷ ts) [] s = s
  after_steps has_psks r from (t ∷ ts) (x ∷ xs) s =
      after_steps has_psks (after_token has_psks r t x) (from + length (token_bytes r t x)) ts xs
      (after_step has_psks r from t x s)
