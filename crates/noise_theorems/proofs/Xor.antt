-- The toy keys have a DH result at each DH.
use Rattle.std.proofs.Common.{◌≡◌, refl, ℕ, List, Option, Some}
use Rattle.noise_theorems.proofs.Common.{true, is_some, IsSome, Role, Initiator, Responder, Own, public_keys, dh_result_of, remote_at, XorKeysHaveDhResults}
use Rattle.noise_names.specs.declared.token.Token.{Token}
use Rattle.noise_names.specs.declared.token.Token.TheVariants.{Ee, Es, Se, Ss}
use Rattle.noise_keys.specs.declared.keys.Own.TheVariants.{Ephemeral, Static}
use Rattle.noise_keys.specs.Keys.{key_of, xor_dh_result}
use Rattle.noise_handshake.specs.Counterparts.{is_dh}

gives : (e s : Option (List ℕ)) (x : Own) (l : Option (List ℕ)) → IsSome e → IsSome s → IsSome l
    → is_some (dh_result_of (λ own remote. xor_dh_result (key_of own e s) remote) x l) ≡ true
gives (Some e) (Some s) Ephemeral (Some l) he hs hl = refl
gives (Some e) (Some s) Static (Some l) he hs hl = refl
gives _ _ x _ he hs hl = absurd (cc)

there : (role : Role) (e s : Option (List ℕ)) (t : Token) → is_dh t ≡ true → IsSome e → IsSome s
    → IsSome (remote_at role (public_keys (λ own. key_of own e s)) t)
there Initiator e s Ee d f g = f
there Initiator e s Es d f g = g
there Initiator e s Se d f g = f
there Initiator e s Ss d f g = g
there Responder e s Ee d f g = f
there Responder e s Es d f g = f
there Responder e s Se d f g = g
there Responder e s Ss d f g = g
there role e s _ d f g = absurd (cc)

pub xor-keys-have-dh-results : XorKeysHaveDhResults
xor-keys-have-dh-results p a b ae as-is be bs t d o = search (gives, there)
