-- What is said of a broken rule (Noise, 7.3 and 9.3).
use Rattle.std.specs.Prelude.{ℕ, ◌-◌, ◌==◌, Bool, ◌&&◌, ◌||◌, not, List, [], ◌++◌, Option, None, Some, codes, decimal, length, nat_le, slice_get, take, unwrap_or, if◌then◌else◌}
use Rattle.noise_names.specs.declared.faults.RuleFault.{RuleFault}
use Rattle.noise_names.specs.declared.token.Role.{Role}
use Rattle.noise_names.specs.declared.token.Role.TheVariants.{Initiator, Responder}
use Rattle.noise_names.specs.declared.token.Token.{Token}
use Rattle.noise_names.specs.declared.token.Token.TheVariants.{E, S, Ee, Es, Se, Ss}
use Rattle.noise_names.specs.Plan.{Plan, pre_of}
use Rattle.noise_names.specs.Text.{word_of}
use Rattle.noise_names.specs.Tokens.{same_role}
use Rattle.noise_vectors.specs.VectorText.{role_word}
use Rattle.noise_explain.specs.FramePieces.{sender_of}
use Rattle.noise_explain.specs.MixedKeys.{mixed_before, tokens_after}
use Rattle.noise_explain.specs.Parties.{has_sent, has_token, sender_after}
use Rattle.noise_explain.specs.Shown.{sentence_line}
use Rattle.noise_explain.specs.declared.mixed.Mixed.{Mixed}

-- the party that breaks it: who sends the message, or of the transport the first message
abbrev pub rule_sender : Plan → RuleFault → Role
rule_sender p fault =
    if nat_le fault.message (length p.messages) then sender_of fault.message
    else (if fault.token == 0 then Initiator else Responder)

-- the token at the place, if one stands there
abbrev pub rule_token : Plan → RuleFault → Option Token
rule_token p fault = slice_get (unwrap_or (slice_get p.messages (fault.message - 1)) []) fault.token

-- ---- keys

-- the initiator's key of a DH, and the responder's
abbrev pub dh_keys : Token → Token × Token
dh_keys Es = (E, S)
dh_keys Se = (S, E)
dh_keys Ss = (S, S)
dh_keys _ = (E, E)

-- whether a party's key is known before token i of the message after k others
abbrev pub is_known : Plan → Role → Token → ℕ → ℕ → Bool
is_known p party key k i =
    has_token key (pre_of party p) || has_sent p party key k
    || (same_role (sender_after k) party && has_token key (take i (tokens_after p k)))

-- whose key a DH lacks, and which one
abbrev pub missing_key : Plan → RuleFault → Token → Role × Token
missing_key p fault dh =
    if is_known p Initiator (dh_keys dh).0 (fault.message - 1) fault.token
    then (Responder, (dh_keys dh).1) else (Initiator, (dh_keys dh).0)

-- the DH of a party's static key that is mixed, and that of its ephemeral key that isn't
abbrev pub unfresh : Role → Mixed → Token × Token
unfresh Initiator m = if m.se && not m.ee then (Se, Ee) else (Ss, Es)
unfresh Responder m = if m.es && not m.ee then (Es, Ee) else (Ss, Se)

-- ---- words

abbrev pub token_place : RuleFault → Token → List ℕ
token_place fault token =
    codes "Rule " ++ decimal fault.rule ++ codes " is broken at message " ++ decimal fault.message ++ codes ", token "
    ++ word_of token ++ codes "."

abbrev pub transport_place : RuleFault → Role → List ℕ
transport_place fault role =
    codes "Rule " ++ decimal fault.rule ++ codes " is broken at the first transport message of the " ++ role_word role
    ++ codes "."

abbrev pub place_words : Plan → RuleFault → Option Token → List ℕ
place_words p fault (Some token) = token_place fault token
place_words p fault None =
    if nat_le fault.message (length p.messages)
    then codes "Rule " ++ decimal fault.rule ++ codes " is broken at the payload of message " ++ decimal fault.message
    ++ codes "."
    else transport_place fault (rule_sender p fault)

abbrev pub key_missing : Token → Role × Token → List ℕ
key_missing dh (role, key) =
    word_of dh ++ codes " needs the " ++ role_word role ++ codes "'s " ++ word_of key
    ++ codes ", which is neither sent before this place nor named above \"...\"."

abbrev pub key_again : Plan → Role → Token → List ℕ
key_again p role key =
    if has_token key (pre_of role p)
    then codes "The " ++ role_word role ++ codes "'s " ++ word_of key ++ codes " is named above \"...\" already."
    else codes "The " ++ role_word role ++ codes " has sent " ++ word_of key ++ codes " already."

-- what is said of rules 4 and 5, which need no token
abbrev pub fresh_words : Plan → RuleFault → List ℕ
fresh_words p fault =
    let dhs : Token × Token = unfresh (rule_sender p fault) (mixed_before p (fault.message - 1) fault.token) in
    codes "The " ++ role_word (rule_sender p fault)
    ++ (if fault.rule == 4
    then codes " encrypts here, " ++ word_of dhs.0 ++ codes " is mixed in, and " ++ word_of dhs.1
    ++ codes " isn't: what it encrypts could depend on no fresh key of its own."
    else codes " encrypts here after psk, and has sent no e: the same key and nonce could come again.")

abbrev pub token_words : Plan → RuleFault → Option Token → List ℕ
token_words p fault None = fresh_words p fault
token_words p fault (Some token) =
    if fault.rule == 1 then key_missing token (missing_key p fault token)
    else (if fault.rule == 2 then key_again p (rule_sender p fault) token
    else (if fault.rule == 3
    then word_of token ++ codes " is mixed in already, and adds nothing the second time."
    else fresh_words p fault))

-- the two lines of a broken rule: its place, and what is wrong there
abbrev pub rule_lines : Plan → RuleFault → List ℕ
rule_lines p fault =
    sentence_line (place_words p fault (rule_token p fault)) ++ sentence_line (token_words p fault (rule_token p fault))
