-- What following a message leaves, whose payload isn't asked for.
use Rattle.std.specs.Prelude.{◌≡◌, ℕ, ◌+◌, ◌≤◌, List, length, Bool, Option, MatchOption}
use Rattle.noise_names.specs.declared.token.Token.{Token}
use Rattle.noise_names.specs.Plan.{has_psk}
use Rattle.noise_state.specs.declared.symmetric.SymmetricState.{SymmetricState}
use Rattle.noise_state.specs.Standing.{keyed, nonce_now}
use Rattle.noise_state.specs.Symmetric.{after_ciphertext}
use Rattle.noise_handshake.specs.declared.following.Front.{Front}
use Rattle.noise_handshake.specs.declared.remote.Remote.{Remote}
use Rattle.noise_handshake.specs.HandshakeValue.{HandshakeValue, tokens_due}
use Rattle.noise_handshake.specs.Length.{keyed_after_tokens}
use Rattle.noise_handshake.specs.Message.{before_payload, after_tokens}
use Rattle.noise_handshake.specs.Nonces.{nonce_after_message}
use Rattle.noise_handshake.specs.Steps.{after_steps}
use Rattle.noise_handshake.specs.inner.Known.{KnowsRemote}

-- The next message has few tokens, and leaves a state and keys of the other party like these.
pub record Leaves {K : Type 0} (h : HandshakeValue K) (state : SymmetricState) (remote : Remote) : Type 0 where
  pub key : keyed state ≡ keyed_after_tokens (has_psk h.pattern) (keyed h.state) (tokens_due h)
  pub counted : nonce_now state
      ≡ nonce_after_message (has_psk h.pattern) (keyed h.state) (nonce_now h.state) (tokens_due h)
  pub knows : KnowsRemote (record h { remote = remote; passed = h.passed + 1 })
  pub few : length (tokens_due h) ≤ 10

-- Its tokens and any ciphertext do.
abbrev pub TokensLeave : {K : Type 0} → HandshakeValue K → Front → Type 0
TokensLeave h f = (bytes : List ℕ) → Leaves h (after_ciphertext f.state bytes) f.remote

-- It is what tokens leave that carry these texts, with these keys of the other party.
pub record IsFront (f : Front) (has_psks : Bool) (r : SymmetricState) (ts : List Token) (xs : List (List ℕ))
    (known : Remote) : Type 0 where
  pub from : f.from ≡ length (before_payload has_psks r ts xs)
  pub state : f.state ≡ after_tokens has_psks r ts xs
  pub remote : f.remote ≡ known

-- There is one, and the tokens were told.
module _ {S : Type 0} (after : S → Token → ℕ → ℕ → SymmetricState → S) where
  abbrev pub Fronts : Option Front → Bool → SymmetricState → List Token → List (List ℕ) → Remote → S → S → Type 0
  Fronts front has_psks r ts xs known old new = MatchOption front ⊥ (λ f. IsFront f has_psks r ts xs known)
      × (new ≡ after_steps after has_psks r 0 ts xs old)
