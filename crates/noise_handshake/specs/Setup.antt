-- How a handshake starts, and what is wrong with a setup (Noise 5.3, 9.2).
use Rattle.std.specs.Prelude.{ℕ, ◌+◌, ◌==◌, List, [], ◌∷◌, Bool, false, not, ◌&&◌, ◌||◌, Option, Some, None, is_some, is_none, count_by, if◌then◌else◌}
use Rattle.noise_names.specs.declared.token.Role.{Role}
use Rattle.noise_names.specs.declared.token.Role.TheVariants.{Initiator, Responder}
use Rattle.noise_names.specs.declared.token.Token.{Token}
use Rattle.noise_names.specs.declared.token.Token.TheVariants.{E, S}
use Rattle.noise_names.specs.Tokens.{other, is_psk, same_role}
use Rattle.noise_names.specs.Plan.{Plan, pre_of, places_of}
use Rattle.noise_names.specs.Names.{name_bytes}
use Rattle.noise_names.specs.Validity.{is_among}
use Rattle.noise_state.specs.declared.symmetric.SymmetricState.{SymmetricState}
use Rattle.noise_keys.specs.declared.keys.Own.{Own}
use Rattle.noise_keys.specs.declared.keys.Own.TheVariants.{Ephemeral, Static}
use Rattle.noise_keys.specs.KeyTokens.{has_token}
use Rattle.noise_handshake.specs.declared.remote.Remote.{Remote}
use Rattle.noise_keys.specs.declared.faults.SetupFault.{SetupFault}
use Rattle.noise_keys.specs.declared.faults.SetupFault.TheVariants.{EphemeralMissing, StaticMissing, RemoteMissing, RemoteUnexpected, PskCount}
use Rattle.noise_handshake.specs.Party.{Party, start}

-- how many psks these messages take: one for each psk token
abbrev pub psks_of : List (List Token) → ℕ
psks_of [] = 0
psks_of (tokens ∷ more) = count_by is_psk tokens + psks_of more

-- the public keys of a party's own
abbrev pub public_keys : (Own → Option (List ℕ)) → Remote
public_keys own = record { e = own Ephemeral; s = own Static }

-- the public keys of a party, for a role with these keys of its own and these of the other party
abbrev pub keys_of : Role → Role → Remote → Remote → Remote
keys_of party role own remote = if same_role party role then own else remote

-- the state at the start, for a role with these keys
abbrev pub start_of : Plan → Role → List ℕ → Remote → Remote → SymmetricState
start_of p role prologue own remote =
    start (name_bytes (record { base = p.base; places = p.places })) p prologue (keys_of Initiator role own remote)
    (keys_of Responder role own remote)

-- the party at the start
abbrev pub party_at_start : Plan → Role → List ℕ → (Own → Option (List ℕ)) → (Own → List ℕ → Option (List ℕ)) → Remote
    → List (List ℕ) → Party
party_at_start p role prologue own agree remote psks = record {
  pattern = p;
  role = role;
  psks = psks;
  own = own;
  agree = agree;
  remote = remote;
  passed = 0;
  state = start_of p role prologue (public_keys own) remote;
  ended = false;
}

-- whether the party's token t stands in the pattern, pre-messages counted, and the key isn't there
abbrev pub lacks_own : Plan → Role → Token → Option (List ℕ) → Bool
lacks_own p role t key = is_among role t (places_of p) && is_none key

-- whether a party's pre-message has token t
abbrev pub has_before : Plan → Role → Token → Bool
has_before p role t = has_token t (pre_of role p)

-- whether a key of the other party's pre-message isn't there
abbrev pub lacks_remote : Plan → Role → Remote → Bool
lacks_remote p role remote = (has_before p (other role) E && is_none remote.e)
    || (has_before p (other role) S && is_none remote.s)

-- whether a key of the other party is there that isn't in its pre-message
abbrev pub has_unexpected : Plan → Role → Remote → Bool
has_unexpected p role remote = (is_some remote.e && not (has_before p (other role) E))
    || (is_some remote.s && not (has_before p (other role) S))

-- what is wrong with a setup, the first of these
abbrev pub setup_fault : Plan → Role → (Own → Option (List ℕ)) → Remote → ℕ → Option SetupFault
setup_fault p role own remote psks =
    if lacks_own p role E (own Ephemeral) then Some EphemeralMissing
    else if lacks_own p role S (own Static) then Some StaticMissing
    else if lacks_remote p role remote then Some RemoteMissing
    else if has_unexpected p role remote then Some RemoteUnexpected
    else if not (psks == psks_of p.messages) then Some PskCount
    else None
