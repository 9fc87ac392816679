-- Whether there is a key after messages (Noise, 5.2).
use Rattle.std.specs.Prelude.{Bool, List, [], ◌∷◌}
use Rattle.noise_names.specs.declared.token.Token.{Token}
use Rattle.noise_handshake.specs.Length.{keyed_after_tokens}

-- where there is one before them or not
abbrev pub keyed_after_messages : Bool → Bool → List (List Token) → Bool
keyed_after_messages has_psks keyed [] = keyed
keyed_after_messages has_psks keyed (ts ∷ ms) = keyed_after_messages has_psks (keyed_after_tokens has_psks keyed ts) ms
