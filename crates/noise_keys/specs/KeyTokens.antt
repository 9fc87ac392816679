-- Which token sends a key, and which own key a DH token takes (Noise 5.3).
use Rattle.std.specs.Prelude.{Bool, List}
use Rattle.std.specs.List.{list_any}
use Rattle.noise_names.specs.declared.token.Role.{Role}
use Rattle.noise_names.specs.declared.token.Role.TheVariants.{Initiator, Responder}
use Rattle.noise_names.specs.declared.token.Token.{Token}
use Rattle.noise_names.specs.declared.token.Token.TheVariants.{E, S, Es, Se, Ss}
use Rattle.noise_names.specs.Tokens.{same_token}
use Rattle.noise_keys.specs.declared.keys.Own.{Own}
use Rattle.noise_keys.specs.declared.keys.Own.TheVariants.{Ephemeral, Static}

-- the token that sends such a key
abbrev pub token_of : Own → Token
token_of Ephemeral = E
token_of Static = S

-- whether a token is among these
abbrev pub has_token : Token → List Token → Bool
has_token t tokens = list_any (λ u. same_token u t) tokens

-- the own key of a DH token (the table of Noise 5.3)
abbrev pub own_at : Role → Token → Own
own_at Initiator Se = Static
own_at Initiator Ss = Static
own_at Responder Es = Static
own_at Responder Ss = Static
own_at _ _ = Ephemeral
