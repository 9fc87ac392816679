-- Which public keys of the other party are known when a token comes (Noise, 5.3).
use Rattle.std.specs.Prelude.{◌≡◌, Bool, true, ◌&&◌, ◌||◌, List, [], ◌∷◌, is_some}
use Rattle.noise_names.specs.declared.token.Role.{Role}
use Rattle.noise_names.specs.declared.token.Role.TheVariants.{Initiator, Responder}
use Rattle.noise_names.specs.declared.token.Token.{Token}
use Rattle.noise_names.specs.declared.token.Token.TheVariants.{E, S, Es, Se, Ss, Psk}
use Rattle.noise_names.specs.Tokens.{other, same_token}
use Rattle.noise_names.specs.Validity.{is_among}
use Rattle.noise_handshake.specs.HandshakeValue.{HandshakeValue}
use Rattle.noise_handshake.specs.Passed.{passed_places}

-- whether the remote key of a DH is known, where an ephemeral and a static key of the other party are known or not
abbrev pub remote_known : Role → Bool → Bool → Token → Bool
remote_known Initiator e s Es = s
remote_known Initiator e s Ss = s
remote_known Responder e s Se = s
remote_known Responder e s Ss = s
remote_known _ e s _ = e

-- the same of any token; the others ask for none
abbrev pub is_known : Role → Bool → Bool → Token → Bool
is_known role e s E = true
is_known role e s S = true
is_known role e s Psk = true
is_known role e s dh = remote_known role e s dh

-- whether the other party's key of token u is known after a token of that party
abbrev pub has_after : Token → Bool → Token → Bool
has_after u known t = same_token t u || known

-- after its tokens
abbrev pub has_after_tokens : Token → Bool → List Token → Bool
has_after_tokens u known [] = known
has_after_tokens u known (t ∷ ts) = has_after_tokens u (has_after u known t) ts

-- each DH among the other party's tokens finds its remote key
abbrev pub are_known : Role → Bool → Bool → List Token → Bool
are_known role e s [] = true
are_known role e s (t ∷ ts) = is_known role e s t && are_known role (has_after E e t) (has_after S s t) ts

-- A key of the other party is known exactly if its token stands in its pre-message or in a message that has passed.
pub record KnowsRemote {K : Type 0} (h : HandshakeValue K) : Type 0 where
  pub e : is_some h.remote.e ≡ is_among (other h.role) E (passed_places h.pattern h.passed)
  pub s : is_some h.remote.s ≡ is_among (other h.role) S (passed_places h.pattern h.passed)
