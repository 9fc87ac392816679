-- What going past a message returns and leaves that has passed between the parties.
use Rattle.std.specs.Prelude.{◌≡◌, ℕ, List, length, Option, Some}
use Rattle.noise_names.specs.declared.token.Token.{Token}
use Rattle.noise_names.specs.Plan.{has_psk}
use Rattle.noise_keys.specs.Keys.{KeyPairs}
use Rattle.noise_state.specs.declared.symmetric.SymmetricState.{SymmetricState}
use Rattle.noise_handshake.specs.HandshakeValue.{HandshakeValue}
use Rattle.noise_handshake.specs.Matching.{Matches}
use Rattle.noise_handshake.specs.Message.{before_payload}
use Rattle.noise_handshake.specs.Party.{Party, tokens_now}
use Rattle.noise_handshake.specs.Steps.{after_steps}

module _ {S K : Type 0} (after : S → Token → ℕ → ℕ → SymmetricState → S) (pairs : K → KeyPairs) where
  -- The payload of the party's next message, whose tokens carry these texts, begins here; the tokens were told, and the
  -- handshake is that of this party.
  abbrev pub GoesPast : Party → List (List ℕ) → Option ℕ → S → S → HandshakeValue K → Party → Type 0
  GoesPast v xs from old new h next =
      (from ≡ Some (length (before_payload (has_psk v.pattern) v.state (tokens_now v) xs)))
      × (new ≡ after_steps after (has_psk v.pattern) v.state 0 (tokens_now v) xs old)
      × Matches pairs h next
