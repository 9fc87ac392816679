-- When a pattern is valid: five rules on what comes before a place (Noise, 7.3 and 9.3; the choice of the five is this
-- library's).
use Rattle.std.specs.Prelude.{◌≡◌, ℕ, Bool, true, false, not, ◌&&◌, ◌||◌, List, [], ◌∷◌, ◌++◌, if◌then◌else◌, IsTrue, Option, Some, None}
use Rattle.std.specs.List.{list_any}
use Rattle.noise_names.specs.declared.token.Role.{Role}
use Rattle.noise_names.specs.declared.token.Role.TheVariants.{Initiator, Responder}
use Rattle.noise_names.specs.declared.token.Token.{Token}
use Rattle.noise_names.specs.declared.token.Token.TheVariants.{E, S, Ee, Es, Se, Ss, Psk}
use Rattle.noise_names.specs.declared.faults.RuleFault.{RuleFault}
use Rattle.noise_names.specs.Tokens.{same_role, same_token}
use Rattle.noise_names.specs.Plan.{Plan, Step, does, payload, transport, Place, place_after, places_of, places_before}

-- whether a place is that of token t
abbrev pub is_at : Token → Step → Bool
is_at t (does u) = same_token u t
is_at t payload = false
is_at t transport = false

-- whether the party's token t is among the places
abbrev pub is_among : Role → Token → List Place → Bool
is_among party t places = list_any (λ p. is_at t p.step && same_role p.party party) places

-- whether token t stands among the places, whoever's it is
abbrev pub occurs : Token → List Place → Bool
occurs t places = list_any (λ p. is_at t p.step) places

-- where the first stands, so does the second
abbrev pub comes_with : Bool → Bool → Bool
comes_with first second = not first || second

-- rule 1: both public keys of a DH token come earlier (7.3, first rule)
abbrev pub keys_match : List Place → Step → Bool
keys_match earlier (does Ee) = is_among Initiator E earlier && is_among Responder E earlier
keys_match earlier (does Es) = is_among Initiator E earlier && is_among Responder S earlier
keys_match earlier (does Se) = is_among Initiator S earlier && is_among Responder E earlier
keys_match earlier (does Ss) = is_among Initiator S earlier && is_among Responder S earlier
keys_match earlier _ = true

-- rule 2: a party has one ephemeral and one static key (7.3, second rule)
abbrev pub key_is_first : List Place → Role → Step → Bool
key_is_first earlier party (does E) = not (is_among party E earlier)
key_is_first earlier party (does S) = not (is_among party S earlier)
key_is_first earlier party _ = true

-- rule 3: a DH is done once (7.3, third rule)
abbrev pub dh_is_first : List Place → Step → Bool
dh_is_first earlier (does Ee) = not (occurs Ee earlier)
dh_is_first earlier (does Es) = not (occurs Es earlier)
dh_is_first earlier (does Se) = not (occurs Se earlier)
dh_is_first earlier (does Ss) = not (occurs Ss earlier)
dh_is_first earlier _ = true

-- whether a party may encrypt after these places, as far as its DHs go: one of its static key comes with one of its
-- ephemeral key (7.3, fourth rule)
abbrev pub dh_is_fresh : List Place → Role → Bool
dh_is_fresh earlier Initiator =
    comes_with (occurs Se earlier) (occurs Ee earlier) && comes_with (occurs Ss earlier) (occurs Es earlier)
dh_is_fresh earlier Responder =
    comes_with (occurs Es earlier) (occurs Ee earlier) && comes_with (occurs Ss earlier) (occurs Se earlier)

-- whether a party may encrypt after these places, as far as psks go: one comes with an ephemeral key of the party (9.3)
abbrev pub psk_is_fresh : List Place → Role → Bool
psk_is_fresh earlier party = comes_with (occurs Psk earlier) (is_among party E earlier)

-- a place that encrypts, if there is a key: a static key, a payload, transport
abbrev pub encrypts : Step → Bool
encrypts (does S) = true
encrypts payload = true
encrypts transport = true
encrypts _ = false

-- rule n, if it is broken
abbrev pub unless_satisfied : ℕ → Bool → List ℕ
unless_satisfied n satisfied = if satisfied then [] else n ∷ []

-- the rules that a place breaks after the earlier ones, the lowest first
abbrev pub broken_rules : List Place → Place → List ℕ
broken_rules earlier p =
    unless_satisfied 1 (keys_match earlier p.step)
    ++ unless_satisfied 2 (key_is_first earlier p.party p.step)
    ++ unless_satisfied 3 (dh_is_first earlier p.step)
    ++ unless_satisfied 4 (comes_with (encrypts p.step) (dh_is_fresh earlier p.party))
    ++ unless_satisfied 5 (comes_with (encrypts p.step) (psk_is_fresh earlier p.party))

-- no place of these breaks a rule after those before it (7.3, 9.3)
abbrev pub AllKeepRules : List Place → Type 0
AllKeepRules places =
    (earlier : List Place) (p : Place) (later : List Place)
    → places ≡ earlier ++ p ∷ later → broken_rules earlier p ≡ []

abbrev pub IsValid : Plan → Type 0
IsValid plan = AllKeepRules (places_of plan)

-- the place breaks none of the five rules after the earlier ones
pub record KeepsRules (earlier : List Place) (p : Place) : Type 0 where
  pub keys : IsTrue (keys_match earlier p.step)
  pub key : IsTrue (key_is_first earlier p.party p.step)
  pub dh : IsTrue (dh_is_first earlier p.step)
  pub fresh_dh : IsTrue (comes_with (encrypts p.step) (dh_is_fresh earlier p.party))
  pub fresh_psk : IsTrue (comes_with (encrypts p.step) (psk_is_fresh earlier p.party))

-- each token of the messages breaks none of them after the places before it
abbrev pub TokensKeepRules : Plan → Type 0
TokensKeepRules plan =
    (before : List (List Token)) (front : List Token) (token : Token) (back : List Token) (after : List (List Token)) →
    plan.messages ≡ before ++ (front ++ token ∷ back) ∷ after →
    KeepsRules (places_before plan before front) (place_after before front token)

-- the fault of a place that breaks these rules, or else the next fault
abbrev pub fault_or : List ℕ → Place → Option RuleFault → Option RuleFault
fault_or [] p next = next
fault_or (rule ∷ _) p next = Some (record { rule = rule; message = p.message; token = p.token })

-- the first fault of the places after the earlier ones, where broken gives the rules that a place breaks after others
abbrev pub first_fault_by : (List Place → Place → List ℕ) → List Place → List Place → Option RuleFault
first_fault_by broken earlier [] = None
first_fault_by broken earlier (p ∷ later) =
    fault_or (broken earlier p) p (first_fault_by broken (earlier ++ p ∷ []) later)

unfoldable pub first_fault_from : List Place → List Place → Option RuleFault
first_fault_from earlier places = first_fault_by broken_rules earlier places

-- the first fault of a pattern: of the earliest place that breaks a rule the lowest rule that it breaks
abbrev pub first_fault : Plan → Option RuleFault
first_fault plan = first_fault_from [] (places_of plan)

-- the fault is reported of the earliest place that breaks a rule, with the lowest rule that is broken there
pub record IsFirstFault (plan : Plan) (fault : RuleFault) : Type 0 where
  pub earlier : List Place
  pub at : Place
  pub later : List Place
  pub places : places_of plan ≡ earlier ++ at ∷ later
  pub before : AllKeepRules earlier
  pub higher : List ℕ
  pub lowest : broken_rules earlier at ≡ fault.rule ∷ higher
  pub message : fault.message ≡ at.message
  pub token : fault.token ≡ at.token
