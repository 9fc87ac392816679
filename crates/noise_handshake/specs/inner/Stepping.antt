-- What reading and writing tokens tell of them, by the state before.
use Rattle.std.specs.Prelude.{◌≡◌, ℕ, List, drop, take, Result, MatchResult}
use Rattle.noise_names.specs.declared.token.Token.{Token}
use Rattle.noise_state.specs.declared.symmetric.SymmetricState.{SymmetricState}
use Rattle.noise_handshake.specs.declared.faults.Cause.{Cause}
use Rattle.noise_handshake.specs.declared.remote.Remote.{Remote}
use Rattle.noise_handshake.specs.Party.{Reader, BeginsAs}
use Rattle.noise_handshake.specs.Steps.{after_steps}
use Rattle.noise_handshake.specs.Writing.{Writer, Given}

module _ {S : Type 0} (after : S → Token → ℕ → ℕ → SymmetricState → S) where
  -- of these tokens of the other party, from a place in the message on
  abbrev pub TellsFront : Reader → SymmetricState → Remote → List (List ℕ) → List Token → List ℕ → ℕ → S → S → Type 0
  TellsFront v r known psks ts message place old new = (xs : List (List ℕ)) (rest : List ℕ)
      → BeginsAs v known psks r ts xs (drop place message) rest → new ≡ after_steps after v.has_psks r place ts xs old

  -- of all tokens, or of those before the one at which reading stops
  abbrev pub TellsRead : Reader → SymmetricState → Remote → List (List ℕ) → List Token → List ℕ → ℕ
      → Result ℕ (ℕ × Cause)
      → S → S → Type 0
  TellsRead v r known psks ts message place result old new = MatchResult result
      (λ n. TellsFront v r known psks ts message place old new)
      (λ stop. TellsFront v r known psks (take stop.0 ts) message place old new)

  -- of these tokens of the party's own, from a place on
  abbrev pub TellsGiven : Writer → SymmetricState → Remote → List (List ℕ) → List Token → ℕ → S → S → Type 0
  TellsGiven w r known psks ts place old new = (xs : List (List ℕ)) → Given w known psks ts xs
      → new ≡ after_steps after w.has_psks r place ts xs old

  -- of all tokens, or of those before the first DH without a result
  abbrev pub TellsWritten : Writer → SymmetricState → Remote → List (List ℕ) → List Token → ℕ → Result ℕ ℕ → S → S
      → Type 0
  TellsWritten w r known psks ts place result old new = MatchResult result
      (λ n. TellsGiven w r known psks ts place old new)
      (λ k. TellsGiven w r known psks (take k ts) place old new)
