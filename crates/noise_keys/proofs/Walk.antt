-- Where a key's token stands, along the code's walk over a pattern.
use Rattle.std.proofs.Common.{rules, ◌≡◌, ℕ, ◌+◌, List, ◌∷◌}
use Rattle.std.specs.Prelude.{Bool, true, false, ◌&&◌}
use Rattle.noise_names.specs.declared.token.Role.{Role}
use Rattle.noise_names.specs.declared.token.Token.{Token}
use Rattle.noise_names.specs.Tokens.{other, same_role}
use Rattle.noise_names.specs.Plan.{message_places}
use Rattle.noise_names.specs.Validity.{is_among}
use Rattle.noise_keys.specs.KeyTokens.{has_token}
use Rattle.noise_keys.specs.TokenPlaces.{matches-message_places}

-- a walk finds one at once, or goes on
pub found-here : (party role : Role) (t : Token) (n : ℕ) (ts : List Token) (ms all : List (List Token)) (b : Bool) → all ≡ ts ∷ ms
    → b ≡ (same_role party role && has_token t ts) → b ≡ true
    → true ≡ is_among role t (message_places party n all)
found-here party role t n ts ms all b split e h = search (rules, matches-message_places)

pub found-later : (party role : Role) (t : Token) (n : ℕ) (ts : List Token) (ms all : List (List Token)) (b rest : Bool) → all ≡ ts ∷ ms
    → b ≡ (same_role party role && has_token t ts) → b ≡ false
    → rest ≡ is_among role t (message_places (other party) (n + 1) ms) → rest ≡ is_among role t (message_places party n all)
found-later party role t n ts ms all b rest split e h k = search (rules, matches-message_places)
