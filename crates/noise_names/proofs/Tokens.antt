-- Tokens are compared.
use Rattle.std.proofs.Common.{◌≡◌, true, refl, subst, rules}
use Rattle.std.specs.Bool.{Decides}
use Rattle.noise_names.proofs.Common.{Token, E, S, Ee, Es, Se, Ss, Psk}
use denote.Enum.Bare.{same_true}
use Rattle.noise_names.specs.contracts.token.Token.{the_type}
use Rattle.noise_names.specs.contracts.token.TokenPartialEq.TheImpl.{eq-value}

token_same : (x : Token) → eq-value.it x x ≡ true
token_same E = refl
token_same S = refl
token_same Ee = refl
token_same Es = refl
token_same Se = refl
token_same Ss = refl
token_same Psk = refl

pub token-Decides : (x y : Token) → Decides (eq-value.it x y) (x ≡ y)
token-Decides x y = (λ h. same_true the_type (search rules) x y h, λ e. subst (λ (z : Token). eq-value.it x z ≡ true) e (token_same x))
