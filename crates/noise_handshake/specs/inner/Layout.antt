-- The layout of a message: the places and widths of Noise 5.3, token by token.
use Rattle.std.specs.Prelude.{◌≡◌, ℕ, ◌+◌, ◌<◌, Bool, List, [], ◌∷◌, length, count_by}
use Rattle.noise_names.specs.declared.token.Token.{Token}
use Rattle.noise_names.specs.Tokens.{is_psk}
use Rattle.noise_names.specs.Plan.{Plan, has_psk}
use Rattle.noise_names.specs.Overhead.{has_key}
use Rattle.noise_handshake.specs.declared.layout.PlacedToken.{PlacedToken}
use Rattle.noise_handshake.specs.declared.layout.MessageLayout.{MessageLayout}
use Rattle.noise_handshake.specs.Length.{keyed_after, token_width, added_width}
use Rattle.noise_handshake.specs.Passed.{passed_places}
use Rattle.noise_handshake.specs.Party.{tokens_at}

-- the tokens of a message, or of its rest from this place on
abbrev pub placed_from : Bool → Bool → ℕ → List Token → List PlacedToken
placed_from has_psks keyed place [] = []
placed_from has_psks keyed place (t ∷ ts) =
    record { token = t; place = place; width = token_width keyed t }
    ∷ placed_from has_psks (keyed_after has_psks keyed t) (place + token_width keyed t) ts

abbrev pub tokens_of : List PlacedToken → List Token
tokens_of [] = []
tokens_of (p ∷ ps) = p.token ∷ tokens_of ps

-- These tokens stand one after another from this place on, each as wide as it travels, where there is a key before the
-- first or not.
abbrev pub ArePlaced : Bool → Bool → ℕ → List PlacedToken → Type 0
ArePlaced has_psks keyed place [] = Unit {0}
ArePlaced has_psks keyed place (p ∷ ps) =
    (p.place ≡ place) × (p.width ≡ token_width keyed p.token)
    × ArePlaced has_psks (keyed_after has_psks keyed p.token) (place + p.width) ps

-- The layout of a message of these tokens, where there is a key before it or not.
pub record IsLaid (has_psks keyed : Bool) (ts : List Token) (laid : MessageLayout) : Type 0 where
  pub tokens : laid.tokens.items ≡ placed_from has_psks keyed 0 ts
  pub overhead : laid.overhead ≡ added_width has_psks keyed ts
  pub psks : laid.psks ≡ count_by is_psk ts

-- The layout of the message of a pattern after so many, if there is one.
abbrev pub LaysNext : Plan → ℕ → MessageLayout → Type 0
LaysNext p passed laid = passed < length p.messages
    → IsLaid (has_psk p) (has_key p (passed_places p passed)) (tokens_at p.messages passed) laid
