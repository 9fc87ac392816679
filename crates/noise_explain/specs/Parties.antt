-- What a party puts into a handshake (Noise, 7.1), and what somebody has to have who takes its part.
use Rattle.std.specs.Prelude.{ℕ, zero, suc, ◌%◌, ◌==◌, Bool, true, false, not, ◌&&◌, ◌||◌, List, length, if◌then◌else◌}
use Rattle.std.specs.List.{list_any}
use Rattle.noise_names.specs.declared.token.Role.{Role}
use Rattle.noise_names.specs.declared.token.Role.TheVariants.{Initiator, Responder}
use Rattle.noise_names.specs.declared.token.Token.{Token}
use Rattle.noise_names.specs.declared.token.Token.TheVariants.{E, S}
use Rattle.noise_names.specs.Plan.{Plan, pre_of}
use Rattle.noise_names.specs.Tokens.{same_role, same_token}
use Rattle.noise_explain.specs.MixedKeys.{are_enough, tokens_after}
use Rattle.noise_explain.specs.declared.mixed.Keys.{Keys}
use Rattle.noise_explain.specs.declared.mixed.Mixed.{Mixed}
use Rattle.noise_explain.specs.declared.parties.Part.{Part}
use Rattle.noise_explain.specs.declared.parties.Part.TheVariants.{Neither, Ephemeral, Static, Both}

abbrev pub has_token : Token → List Token → Bool
has_token t tokens = list_any (λ u. same_token u t) tokens

-- the party that sends the message after k others (7.1)
abbrev pub sender_after : ℕ → Role
sender_after k = if k % 2 == 0 then Initiator else Responder

-- whether a party sends this key in the first k messages
abbrev pub has_sent : Plan → Role → Token → ℕ → Bool
has_sent p party key zero = false
has_sent p party key (suc k) =
    has_sent p party key k || (same_role (sender_after k) party && has_token key (tokens_after p k))

-- whether it sends one that the other party doesn't know before, so that whoever takes its part may choose another
abbrev pub chooses : Plan → Role → Token → ℕ → Bool
chooses p party key k = not (has_token key (pre_of party p)) && has_sent p party key k

-- whether a party has put in an ephemeral key, by its pre-message or the first k messages
abbrev pub is_fresh : Plan → Role → ℕ → Bool
is_fresh p party k = has_token E (pre_of party p) || has_sent p party E k

-- the ephemeral key of a party, and its static one where that is asked for
abbrev pub keys_of : Role → Bool → Keys
keys_of Initiator has_s =
    record { initiator_e = true; initiator_s = has_s; responder_e = false; responder_s = false }
keys_of Responder has_s =
    record { initiator_e = false; initiator_s = false; responder_e = true; responder_s = has_s }

-- its static key alone
abbrev pub static_of : Role → Keys
static_of Initiator =
    record { initiator_e = false; initiator_s = true; responder_e = false; responder_s = false }
static_of Responder =
    record { initiator_e = false; initiator_s = false; responder_e = false; responder_s = true }

-- the fewest keys of its own choice that are enough for these DHs; an e that it sends is one of them
abbrev pub own_part : Plan → Role → ℕ → Mixed → Part
own_part p party k m =
    if not (chooses p party E k)
    then (if chooses p party S k && are_enough m (static_of party) then Static else Neither)
    else (if are_enough m (keys_of party false) then Ephemeral
    else (if chooses p party S k && are_enough m (keys_of party true) then Both
    else Neither))

-- the DHs that need another key than a party's ephemeral one, which is in ee, and in es or se
abbrev pub without_e : Role → Mixed → Mixed
without_e Initiator m = record m { ee = false; es = false }
without_e Responder m = record m { ee = false; se = false }

-- whether a DH mixes the static key of a party
abbrev pub is_mixed : Role → Mixed → Bool
is_mixed Initiator m = m.se || m.ss
is_mixed Responder m = m.es || m.ss

-- whether a static key of this party is named, and none of these DHs mixes it
abbrev pub is_unmixed : Plan → Role → Mixed → Bool
is_unmixed p party m =
    (has_token S (pre_of party p) || has_sent p party S (length p.messages)) && not (is_mixed party m)
