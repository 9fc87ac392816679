-- What mixing a pre-message asks of the keys.
use Rattle.std.specs.Prelude.{◌≡◌, true, is_some}
use Rattle.noise_names.specs.declared.token.Role.{Role}
use Rattle.noise_names.specs.declared.token.Token.TheVariants.{E, S}
use Rattle.noise_names.specs.Plan.{Plan}
use Rattle.noise_handshake.specs.declared.remote.Remote.{Remote}
use Rattle.noise_handshake.specs.Setup.{has_before}

-- these are the keys of the party's pre-message
pub record HasPre (p : Plan) (party : Role) (keys : Remote) : Type 0 where
  pub e : has_before p party E ≡ true → is_some keys.e ≡ true
  pub s : has_before p party S ≡ true → is_some keys.s ≡ true
