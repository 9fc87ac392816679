-- At which token a party lacks a DH result (Noise 5.3).
use Rattle.std.specs.Prelude.{◌≡◌, ℕ, List, length, true, Some, slice_get}
use Rattle.noise_names.specs.declared.token.Token.{Token}
use Rattle.noise_keys.specs.declared.keys.Own.{Own}
use Rattle.noise_keys.specs.KeyTokens.{has_token, token_of}
use Rattle.noise_handshake.specs.Counterparts.{is_dh}
use Rattle.noise_handshake.specs.Party.{Party, tokens_now}
use Rattle.noise_handshake.specs.Writing.{LacksDhResult}

-- a party has each public key that its message sends, in 32 bytes
abbrev pub HasKeysToSend : Party → Type 0
HasKeysToSend v = (x : Own) → has_token (token_of x) (tokens_now v) ≡ true
    → (key : List ℕ) × (v.own x ≡ Some key) × (length key ≡ 32)

-- The token at which it lacks a DH result is a DH.
abbrev pub LacksAtDh : Type 0
LacksAtDh = (v : Party) (place : ℕ) → HasKeysToSend v → LacksDhResult v place
    → (t : Token) × (slice_get (tokens_now v) place ≡ Some t) × (is_dh t ≡ true)
