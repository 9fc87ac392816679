-- What the private functions of writing say of a party that speaks.
use Rattle.std.specs.Prelude.{◌≡◌, ℕ, List, Bool, true, Option, is_some, MatchOption}
use Rattle.noise_names.specs.declared.token.Token.{Token}
use Rattle.noise_names.specs.declared.token.Token.TheVariants.{E, S}
use Rattle.noise_names.specs.declared.token.Role.{Role}
use Rattle.noise_names.specs.Plan.{has_psk}
use Rattle.noise_keys.specs.declared.keys.Own.{Own}
use Rattle.noise_keys.specs.declared.keys.Own.TheVariants.{Ephemeral, Static}
use Rattle.noise_handshake.specs.declared.remote.Remote.{Remote}
use Rattle.noise_handshake.specs.Party.{Party, Speaks, tokens_now}
use Rattle.noise_handshake.specs.Wanting.{LacksDhResultFor}
use Rattle.noise_handshake.specs.Writing.{Writer, LacksDhResultAt}

-- whether the party has the key of its own that a token sends
abbrev pub has_own : (Own → Option (List ℕ)) → Token → Bool
has_own own E = is_some (own Ephemeral)
has_own own S = is_some (own Static)
has_own own _ = true

-- The first token without a text is a DH without this result; or each token has a text.
abbrev pub WriterWants : Writer → Remote → List (List ℕ) → List Token → Option (Own × List ℕ) → Type 0
WriterWants w known psks ts want = MatchOption want ((k : ℕ) → LacksDhResultAt w known psks ts k → ⊥)
    (λ lacking. LacksDhResultFor w known psks ts lacking.0 lacking.1)

-- A party that speaks, with these parts, for a party.
pub record Speaking (v : Party) (role : Role) (has_psks : Bool) (own : Own → Option (List ℕ))
    (agree : Own → List ℕ → Option (List ℕ))
    (psks : List (List ℕ)) (known : Remote) (tokens : List Token) : Type 0 where
  pub speaks : Speaks v
  pub role_is : role ≡ v.role
  pub psks_is : has_psks ≡ has_psk v.pattern
  pub own_is : own ≡ v.own
  pub agree_is : agree ≡ v.agree
  pub psks_are : psks ≡ v.psks
  pub known_is : known ≡ v.remote
  pub tokens_are : tokens ≡ tokens_now v
