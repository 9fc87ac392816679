-- The key of the other party that a DH asks for.
use Rattle.std.proofs.Common.{◌≡◌, List, ℕ, Option, refl}
use Rattle.noise_names.specs.declared.token.Role.{Role}
use Rattle.noise_names.specs.declared.token.Role.TheVariants.{Initiator, Responder}
use Rattle.noise_names.specs.declared.token.Token.{Token}
use Rattle.noise_names.specs.declared.token.Token.TheVariants.{E, S, Ee, Es, Se, Ss, Psk}
use Rattle.noise_names.specs.Tokens.{other}
use Rattle.noise_keys.specs.declared.keys.Own.{Own}
use Rattle.noise_keys.specs.KeyTokens.{own_at}
use Rattle.noise_handshake.specs.Party.{remote_at}
use Rattle.noise_handshake.specs.Setup.{public_keys}

-- it is one of the other party's own
pub remote-own : (role : Role) (theirs : Own → Option (List ℕ)) (t : Token)
    → remote_at role (public_keys theirs) t ≡ theirs (own_at (other role) t)
remote-own Initiator theirs E = refl
remote-own Initiator theirs S = refl
remote-own Initiator theirs Ee = refl
remote-own Initiator theirs Es = refl
remote-own Initiator theirs Se = refl
remote-own Initiator theirs Ss = refl
remote-own Initiator theirs Psk = refl
remote-own Responder theirs E = refl
remote-own Responder theirs S = refl
remote-own Responder theirs Ee = refl
remote-own Responder theirs Es = refl
remote-own Responder theirs Se = refl
remote-own Responder theirs Ss = refl
remote-own Responder theirs Psk = refl
