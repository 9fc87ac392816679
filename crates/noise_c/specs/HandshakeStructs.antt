-- What the struct of a handshake matches.
use Rattle.std.specs.Prelude.{◌≡◌, ◌⊎◌, ◌↔◌, ◌<◌, ℕ, ◌≤◌, ◌==◌, nat_eq, nat_lt, Bool, true, false, not, List, [], ◌∷◌, ◌++◌, length, take, map, Option, Some, None, Result, IfOk, IfErr, IsOk, if◌then◌else◌, replicate, drop, ◌-◌, ◌+◌, count_by, slice_set}
use Rattle.std.specs.List.{ends_with}
use Rattle.noise_names.specs.declared.token.Role.{Role}
use Rattle.noise_names.specs.declared.token.Role.TheVariants.{Initiator, Responder}
use Rattle.noise_names.specs.Names.{Section, Names}
use Rattle.noise_names.specs.Plan.{Plan}
use Rattle.noise_names.specs.Tokens.{is_psk}
use Rattle.noise_names.specs.Text.{Spells}
use Rattle.noise_names.specs.Fundamental.{fundamental_of}
use Rattle.noise_names.specs.Limits.{Placed}
use Rattle.noise_names.specs.Validity.{IsValid}
use Rattle.noise_state.specs.Standing.{state_of}
use Rattle.noise_keys.specs.declared.keys.Own.{Own}
use Rattle.noise_keys.specs.declared.keys.Own.TheVariants.{Ephemeral, Static}
use Rattle.noise_handshake.specs.declared.faults.Cause.{Cause}
use Rattle.noise_handshake.specs.declared.faults.ReadFault.{ReadFault}
use Rattle.noise_keys.specs.declared.faults.SetupFault.{SetupFault}
use Rattle.noise_handshake.specs.declared.faults.WriteFault.{WriteFault}
use Rattle.noise_handshake.specs.declared.remote.Remote.{Remote}
use Rattle.noise_handshake.specs.declared.faults.Want.{Want}
use Rattle.noise_handshake.specs.declared.faults.Want.TheVariants.{DhResult, Psk}
use Rattle.noise_keys.specs.Keys.{KeyPairs, key_of}
use Rattle.noise_keys.specs.Table.{Table, TableEntry, dh_result_in}
use Rattle.noise_handshake.specs.HandshakeValue.{HandshakeValue, is_turn, message_len_of}
use Rattle.noise_handshake.specs.Parts.{HasProgress}
use Rattle.noise_handshake.specs.declared.parts.Progress.{Progress}
use Rattle.noise_handshake.specs.Late.{with_later, late_fault, IsLateWhole}
use Rattle.noise_handshake.specs.Setup.{party_at_start, psks_of}
use Rattle.noise_handshake.specs.Party.{Party, Accepts, Refuses, tokens_at}
use Rattle.noise_handshake.specs.Writing.{Writes}
use Rattle.noise_handshake.specs.Matching.{IsParty, after_message, after_own, DoesNotRead, ended_party, DoesNotWrite}
use Rattle.noise_c.specs.declared.structs.NoiseKey.{NoiseKey}
use Rattle.noise_c.specs.declared.structs.NoiseAnswer.{NoiseAnswer}
use Rattle.noise_c.specs.declared.structs.NoiseHandshake.{NoiseHandshake}
use Rattle.noise_c.specs.declared.structs.NoiseSetup.{NoiseSetup}
use Rattle.noise_c.specs.declared.codes.numbers.TheConstants.{EPHEMERAL_MISSING, HANDSHAKE, LENGTH, NAME, NOT_DUE, OK, PATTERN, PSK_COUNT, STRUCT, WANTED, WANTED_PSK}
use Rattle.noise_c.specs.declared.structs.NoiseStageResult.{NoiseStageResult}
use Rattle.noise_c.specs.declared.structs.NoiseResult.{NoiseResult}
use Rattle.noise_c.specs.Codes.{cause_code, read_code, write_code, setup_code}

-- a key, if there is one
abbrev pub key_from_c : NoiseKey → Option (List ℕ)
key_from_c k = if k.present == 0 then None else Some k.bytes

-- no key: zeros
abbrev pub zero_key : NoiseKey
zero_key = record { present = 0; bytes = replicate 32 0 }

-- how C has a key
abbrev pub key_to_c : Option (List ℕ) → NoiseKey
key_to_c None = zero_key
key_to_c (Some bytes) = record { present = 1; bytes = bytes }

-- an entry without a DH result
abbrev pub no_dh_result : NoiseAnswer
no_dh_result = record { of_static = 0; remote = replicate 32 0; answer = replicate 32 0 }

abbrev pub own_in : ℕ → Own
own_in of_static = if of_static == 0 then Ephemeral else Static

abbrev pub role_in : ℕ → Role
role_in responder = if responder == 0 then Initiator else Responder

abbrev pub entry_in : NoiseAnswer → TableEntry
entry_in a = record { own = own_in a.of_static; remote = a.remote; answer = a.answer }

-- the public keys, and the DH results that were handed in
abbrev pub table_in : NoiseHandshake → Table
table_in k = record { e = key_from_c k.e; s = key_from_c k.s; entries = map entry_in (take k.answer_count k.answers) }

abbrev pub public_in : Table → Own → Option (List ℕ)
public_in t own = key_of own t.e t.s

abbrev pub agreement_in : Table → Own → List ℕ → Option (List ℕ)
agreement_in t own remote = dh_result_in t.entries own remote

-- both
abbrev pub pairs_in : Table → KeyPairs
pairs_in t = record { public = public_in t; agree = agreement_in t }

abbrev pub text_from_c : NoiseHandshake → List ℕ
text_from_c k = take k.text_len k.text

-- the pattern of a protocol name (8): a fundamental one (7.4 and 7.5), with psk tokens at the name's places (9.4)
pub record IsPatternOfName (name : List ℕ) (p : Plan) : Type 0 where
  pub section : Section
  pub names : Names name section
  pub plain : Plan
  pub known : fundamental_of section.base ≡ Some plain
  pub placed : Placed plain section.places p

-- whether these bytes are a pattern text and no protocol name: the last one is a line feed
abbrev pub is_text : List ℕ → Bool
is_text bytes = ends_with nat_eq bytes (10 ∷ [])

-- the pattern of a pattern text (7.1), or else of a protocol name
abbrev pub IsOfKind : Bool → List ℕ → Plan → Type 0
IsOfKind true bytes p = Spells bytes p
IsOfKind false bytes p = IsPatternOfName bytes p

abbrev pub IsPatternOf : List ℕ → Plan → Type 0
IsPatternOf bytes p = IsOfKind (is_text bytes) bytes p

-- neither a pattern text nor a protocol name of a pattern
pub record IsNoName (bytes : List ℕ) : Type 0 where
  pub name : is_text bytes ≡ false
  pub none : (p : Plan) → IsPatternOf bytes p → ⊥

-- a pattern text that spells no pattern
pub record IsNoText (bytes : List ℕ) : Type 0 where
  pub text : is_text bytes ≡ true
  pub none : (p : Plan) → IsPatternOf bytes p → ⊥

-- of a pattern that isn't valid (7.3, 9.3)
pub record IsNotValid (bytes : List ℕ) : Type 0 where
  pub pattern : Plan
  pub named : IsPatternOf bytes pattern
  pub broken : IsValid pattern → ⊥

-- why these bytes are of no valid pattern: NAME or PATTERN
abbrev pub IsPatternFault : List ℕ → ℕ → Type 0
IsPatternFault bytes code = ((code ≡ NAME) × IsNoName bytes) ⊎ ((code ≡ PATTERN) × (IsNoText bytes ⊎ IsNotValid bytes))

-- why these bytes are of no valid pattern, where they are a protocol name, and where they are a pattern text
abbrev pub IsNameFault : List ℕ → ℕ → Type 0
IsNameFault name code = ((code ≡ NAME) × ((q : Plan) → IsPatternOfName name q → ⊥))
    ⊎ ((code ≡ PATTERN) × ((q : Plan) × IsPatternOfName name q × (IsValid q → ⊥)))

abbrev pub IsSpellingFault : List ℕ → ℕ → Type 0
IsSpellingFault text code = (code ≡ PATTERN)
    × (((q : Plan) → Spells text q → ⊥) ⊎ ((q : Plan) × Spells text q × (IsValid q → ⊥)))

-- The only pattern that some bytes are of, if it is valid; then they are no longer than this. Else the number of the
-- fault.
pub record FindsPattern (IsOf : Plan → Type 0) (longest len : ℕ) (IsFault : ℕ → Type 0)
    (r : Result Plan ℕ) : Type 0 where
  pub named : IfOk r (λ p. IsOf p)
  pub valid : IfOk r (λ p. IsValid p)
  pub one : IfOk r (λ p. (q : Plan) → IsOf q → q ≡ p)
  pub short : IfOk r (λ _. len ≤ longest)
  pub found : (q : Plan) → IsOf q → IsValid q → IsOk r
  pub fault : IfErr r (λ code. IsFault code)

-- the psks that were handed in and that no message has used yet
abbrev pub held_psks : NoiseHandshake → List (List ℕ)
held_psks k = drop (9 - k.psk_count) k.psks

-- the handshake
abbrev pub handshake_from_c : Plan → NoiseHandshake → HandshakeValue Table
handshake_from_c p k = record {
  pattern = p;
  role = role_in k.responder;
  keys = table_in k;
  remote = record { e = key_from_c k.remote_e; s = key_from_c k.remote_s };
  psks = held_psks k;
  passed = k.passed;
  ended = not (k.ended == 0);
  state = state_of
      (record { chaining_key = k.chaining_key; hash = k.hash; key = key_from_c k.cipher; nonce = k.nonce });
}

-- A call has left this: its mark is that of a handshake of this layout; no more text, DH results and psks than there is
-- room for, and what a handshake of the named pattern may hold.
pub record IsUsable (k : NoiseHandshake) : Type 0 where
  pub mark : k.mark ≡ HANDSHAKE
  pub text : k.text_len ≤ 416
  pub answers : k.answer_count ≤ 8
  pub psks : k.psk_count ≤ 9
  pub pattern : Plan
  pub named : IsPatternOf (text_from_c k) pattern
  pub valid : IsValid pattern
  pub whole : IsLateWhole pairs_in (handshake_from_c pattern k)

-- The struct matches the state, by a pattern of its name: with the state's later psks, which it may lack.
pub record KeepsParty (k : NoiseHandshake) (p : Plan) (v : Party) : Type 0 where
  pub pattern : IsPatternOf (text_from_c k) p
  pub later : List (List ℕ)
  pub matches : IsParty pairs_in (with_later (handshake_from_c p k) later) v

-- for each state that it matches, and the pattern by which it does
abbrev pub ForParty : NoiseHandshake → (Plan → Party → Type 0) → Type 0
ForParty k P = (p : Plan) (v : Party) → KeepsParty k p v → P p v

-- for the pattern of its name
abbrev pub ForPattern : NoiseHandshake → (Plan → Type 0) → Type 0
ForPattern k P = (p : Plan) → IsPatternOf (text_from_c k) p → P p

-- how many psk tokens its next message has
abbrev pub psks_due : Plan → NoiseHandshake → ℕ
psks_due p k = count_by is_psk (tokens_at p.messages k.passed)

-- A message has used a psk for each of its psk tokens. All the others are held, for the psk tokens that are to come.
abbrev pub KeepsPsks : NoiseHandshake → NoiseHandshake → Type 0
KeepsPsks old new = ForPattern old (λ p. (psks_due p old ≤ length (held_psks old))
    × (held_psks new ≡ drop (psks_due p old) (held_psks old)))

-- What no message changes is as it was: the text, the role, the own public keys, the DH results and the bytes of the
-- psks. Where there is no key there are zeros.
abbrev pub KeepsRest : NoiseHandshake → NoiseHandshake → Type 0
KeepsRest old new = new ≡ record old {
  remote_e = key_to_c (key_from_c new.remote_e);
  remote_s = key_to_c (key_from_c new.remote_s);
  psk_count = new.psk_count;
  passed = new.passed;
  ended = new.ended;
  chaining_key = new.chaining_key;
  hash = new.hash;
  cipher = key_to_c (key_from_c new.cipher);
  nonce = new.nonce;
}

-- the length of its next message with a payload of this length, if one is due
abbrev pub HasMessageLen : NoiseHandshake → ℕ → Option ℕ → Type 0
HasMessageLen k payload len = ForPattern k (λ p. message_len_of (handshake_from_c p k) payload ≡ len)

-- The length is reported, NOT_DUE where no message is due.
pub record ReportsMessageLen (k : NoiseHandshake) (payload old new code : ℕ) : Type 0 where
  pub unusable : code ≡ STRUCT ↔ (IsUsable k → ⊥)
  pub len : code ≡ OK → HasMessageLen k payload (Some new)
  pub not_due : code ≡ NOT_DUE → HasMessageLen k payload None
  pub unchanged : OK < code → new ≡ old
  pub codes : (code ≡ OK) ⊎ (code ≡ STRUCT) ⊎ (code ≡ NOT_DUE)

-- The struct holds this progress and so many of its psks, and all else as before: a handshake with this progress is
-- that of the struct.
pub record StoresProgress (progress : Progress) (left : ℕ) (old new : NoiseHandshake) : Type 0 where
  pub mark : new.mark ≡ old.mark
  pub text : text_from_c new ≡ text_from_c old
  pub same : (h : HandshakeValue Table) → HasProgress h progress → h.keys ≡ table_in old
      → h.role ≡ role_in old.responder
      → h.psks ≡ drop (9 - left) old.psks → handshake_from_c h.pattern new ≡ h
  pub text_len : new.text_len ≡ old.text_len
  pub answers : new.answer_count ≡ old.answer_count
  pub psks : new.psk_count ≡ left
  pub rest : (new.psks ≡ old.psks) × (new.answers ≡ old.answers)
  pub only : KeepsRest old new

-- The payload was accepted, and the struct matches the state after the message.
pub record WasRead (p : Plan) (v : Party) (message payload : List ℕ) (k : NoiseHandshake) : Type 0 where
  pub carried : List (List ℕ)
  pub accepts : Accepts v message carried payload
  pub keeps : KeepsParty k p (after_message v carried payload)

-- The party doesn't read a message now, for a fault of this number.
pub record WasDeclined (v : Party) (message : List ℕ) (code : ℕ) : Type 0 where
  pub fault : ReadFault
  pub code_is : code ≡ read_code fault
  pub declines : DoesNotRead v message fault

-- what a refused message leaves of the struct, where it ends the handshake and where it doesn't, and of the party
abbrev pub struct_left : Bool → NoiseHandshake → NoiseHandshake
struct_left true k = record k { ended = 1 }
struct_left false k = k

abbrev pub party_left : Bool → Party → Party
party_left true v = ended_party v
party_left false v = v

-- The message was refused at this token, for the cause of this number, and the struct matches the state after that.
pub record WasRefused (ends : Bool) (p : Plan) (v : Party) (message : List ℕ) (code token : ℕ) (k : NoiseHandshake)
    : Type 0 where
  pub cause : Cause
  pub code_is : code ≡ cause_code cause
  pub refuses : Refuses v message token cause
  pub keeps : KeepsParty k p (party_left ends v)

-- A payload of this length was withheld for a fault of this number.
pub record WasWithheld (v : Party) (payload code : ℕ) : Type 0 where
  pub fault : WriteFault
  pub code_is : code ≡ write_code fault
  pub withholds : DoesNotWrite v payload fault

-- The payload was written as this message, and the struct matches the state after it.
pub record WasWritten (p : Plan) (v : Party) (payload message : List ℕ) (k : NoiseHandshake) : Type 0 where
  pub carried : List (List ℕ)
  pub writes : Writes v payload carried message
  pub keeps : KeepsParty k p (after_own v carried payload)

-- the struct has this DH result after the others, and is otherwise unchanged
pub record IsAdded (old new : NoiseHandshake) (entry : TableEntry) : Type 0 where
  pub text : text_from_c new ≡ text_from_c old
  pub handshake : (p : Plan) → handshake_from_c p new
      ≡ record (handshake_from_c p old) {
        keys = record (table_in old) { entries = (table_in old).entries ++ entry ∷ [] };
      }

-- the struct has this psk after the others, and is otherwise unchanged
pub record IsGiven (old new : NoiseHandshake) (psk : List ℕ) : Type 0 where
  pub text : text_from_c new ≡ text_from_c old
  pub handshake : (p : Plan) → handshake_from_c p new ≡ with_later (handshake_from_c p old) (psk ∷ [])

-- the struct has this DH result after the others but the first, and is otherwise unchanged
pub record IsAddedForFirst (old new : NoiseHandshake) (entry : TableEntry) : Type 0 where
  pub text : text_from_c new ≡ text_from_c old
  pub handshake : (p : Plan) → handshake_from_c p new
      ≡ record (handshake_from_c p old) {
        keys = record (table_in old) { entries = drop 1 (table_in old).entries ++ entry ∷ [] };
      }

-- The struct has this DH result behind the others, and the ninth in place of the first. All else is as it was.
abbrev pub supplied : NoiseHandshake → NoiseAnswer → NoiseHandshake
supplied k last =
    if k.answer_count == 8 then record k { answers = drop 1 k.answers ++ last ∷ [] }
    else record k { answers = slice_set k.answers k.answer_count last; answer_count = k.answer_count + 1 }

-- A DH result is supplied to a struct with the mark of a handshake; the ninth takes the place of the first. A struct
-- that a call has left remains one.
pub record Supplies (old new : NoiseHandshake) (entry : TableEntry) (code : ℕ) : Type 0 where
  pub other : code ≡ STRUCT ↔ ((old.mark ≡ HANDSHAKE) × (old.answer_count ≤ 8) → ⊥)
  pub added : code ≡ OK → old.answer_count < 8 → IsAdded old new entry
  pub replaced : code ≡ OK → old.answer_count ≡ 8 → IsAddedForFirst old new entry
  pub mark : new.mark ≡ old.mark
  pub unchanged : OK < code → new ≡ old
  pub stays : IsUsable old → IsUsable new
  pub codes : (code ≡ OK) ⊎ (code ≡ STRUCT)

-- the psk is stored after the others
pub record StoresPsk (old new : NoiseHandshake) (psk : List ℕ) : Type 0 where
  pub given : IsGiven old new psk
  pub mark : new.mark ≡ old.mark
  pub text_len : new.text_len ≡ old.text_len
  pub answers : new.answer_count ≡ old.answer_count
  pub few : new.psk_count ≤ 9

-- the psk is that of the first token that lacks one, among those that are still to come
pub record SetsPsk (old new : NoiseHandshake) (psk : List ℕ) (code : ℕ) : Type 0 where
  pub unusable : code ≡ STRUCT ↔ (IsUsable old → ⊥)
  pub lacks : (u : IsUsable old) → code ≡ OK ↔ (old.psk_count < psks_of (drop old.passed u.pattern.messages))
  pub given : code ≡ OK → IsGiven old new psk
  pub unchanged : OK < code → new ≡ old
  pub codes : (code ≡ OK) ⊎ (code ≡ STRUCT) ⊎ (code ≡ PSK_COUNT)

-- the struct lacks the last of its psks, and is otherwise unchanged
pub record LacksLastPsk (old new : NoiseHandshake) : Type 0 where
  pub text : text_from_c new ≡ text_from_c old
  pub handshake : (p : Plan) → handshake_from_c p new
      ≡ record (handshake_from_c p old) { psks = take (old.psk_count - 1) (handshake_from_c p old).psks }

-- The last psk is taken back, if there is one. A state that the struct matched it still matches.
pub record TakesPskBack (old new : NoiseHandshake) : Type 0 where
  pub lacks : LacksLastPsk old new
  pub matches : (p : Plan) (v : Party) → KeepsParty old p v → KeepsParty new p v
  pub stays : IsUsable old → IsUsable new

-- That is done in a struct that a call has left; others stay as they are.
pub record UnsetsPsk (old new : NoiseHandshake) (code : ℕ) : Type 0 where
  pub unusable : code ≡ STRUCT ↔ (IsUsable old → ⊥)
  pub lacks : code ≡ OK → LacksLastPsk old new
  pub unchanged : OK < code → new ≡ old
  pub codes : (code ≡ OK) ⊎ (code ≡ STRUCT)

-- a state that the struct matched, and whose psks go on with this one, it still matches
abbrev pub GoesOn : NoiseHandshake → NoiseHandshake → List ℕ → Type 0
GoesOn old new psk = (p : Plan) (v : Party) (later : List (List ℕ))
    → v.psks ≡ (handshake_from_c p old).psks ++ psk ∷ later → KeepsParty old p v → KeepsParty new p v

-- the other party's static key that is reported, if it is known
abbrev pub remote_reported : NoiseResult → Option (List ℕ)
remote_reported results = if results.remote_known == 0 then None else Some results.remote

-- What is wanted is reported, with this number.
abbrev pub ReportsWant : Want → NoiseResult → ℕ → Type 0
ReportsWant (DhResult own key) results code =
    (code ≡ WANTED) × (own_in results.of_static ≡ own) × (results.remote ≡ key)
ReportsWant (Psk remote) results code = (code ≡ WANTED_PSK) × (remote_reported results ≡ remote)

-- Of a DH result that is wanted, 0 or 1 is reported for the key pair, and the other party's key; all else is unchanged.
pub record ReportsDhResult (old new : NoiseResult) : Type 0 where
  pub flag : new.of_static ≤ 1
  pub rest : new ≡ record old { of_static = new.of_static; remote = new.remote }

-- Of a psk that is wanted, the other party's static key is reported with 1, or zeros with 0; all else is unchanged.
pub record ReportsRemote (old new : NoiseResult) : Type 0 where
  pub flag : new.remote_known ≤ 1
  pub zeros : new.remote_known ≡ 0 → new.remote ≡ replicate 32 0
  pub rest : new ≡ record old { remote = new.remote; remote_known = new.remote_known }

-- the public keys that are handed in, with no DH result yet
abbrev pub table_of : NoiseSetup → Table
table_of setup = record { e = key_from_c setup.e; s = key_from_c setup.s; entries = [] }

abbrev pub remote_of : NoiseSetup → Remote
remote_of setup = record { e = key_from_c setup.remote_e; s = key_from_c setup.remote_s }

-- the psks that are handed in
abbrev pub psks_in : NoiseSetup → List (List ℕ)
psks_in setup = take setup.psk_count setup.psks

-- the state at the start, whose psks are those that are handed in, and these
abbrev pub begun_in : Plan → List ℕ → NoiseSetup → List (List ℕ) → Party
begun_in p prologue setup later =
    party_at_start p (role_in setup.responder) prologue (public_in (table_of setup)) (agreement_in (table_of setup))
    (remote_of setup) (psks_in setup ++ later)

-- what is wrong with what is handed in, which may have fewer psks than the pattern has psk tokens
abbrev pub fault_in : Plan → NoiseSetup → Option SetupFault
fault_in p setup =
    late_fault p (role_in setup.responder) (public_in (table_of setup)) (remote_of setup) (length (psks_in setup))

abbrev pub code_of : Option SetupFault → ℕ
code_of None = 0
code_of (Some fault) = setup_code fault

-- the number that a start with a valid pattern returns: LENGTH, PSK_COUNT for more than there is room for, the fault of
-- the setup, or OK
abbrev pub start_code : Plan → List ℕ → NoiseSetup → ℕ
start_code p prologue setup =
    if nat_lt 65535 (length prologue) then LENGTH
    else if nat_lt 9 setup.psk_count then PSK_COUNT
    else code_of (fault_in p setup)

-- nothing of another handshake is left: zeros in front of the psks, and no DH result
pub record IsBlank (setup : NoiseSetup) (new : NoiseHandshake) : Type 0 where
  pub psks : take (9 - setup.psk_count) new.psks ≡ replicate (9 - setup.psk_count) (replicate 32 0)
  pub dh_results : new.answers ≡ replicate 8 no_dh_result

-- the struct holds what a handshake doesn't change: the text, the role, the public keys, no DH result yet, and the psks
pub record StoresStart (text : List ℕ) (setup : NoiseSetup) (new : NoiseHandshake) : Type 0 where
  pub mark : new.mark ≡ HANDSHAKE
  pub text_is : text_from_c new ≡ text
  pub len : new.text_len ≤ 416
  pub answers : new.answer_count ≤ 8
  pub role : new.responder ≡ setup.responder
  pub keys : table_in new ≡ table_of setup
  pub psks : drop (9 - setup.psk_count) new.psks ≡ psks_in setup

-- a handshake with each of the patterns of the text has begun
pub record IsStarted (text prologue : List ℕ) (setup : NoiseSetup) (new : NoiseHandshake) : Type 0 where
  pub begun_is : (p : Plan) → IsPatternOf text p → (later : List (List ℕ))
      → KeepsParty new p (begun_in p prologue setup later)
  pub usable : IsUsable new
  pub text_is : text_from_c new ≡ text
  pub blank : IsBlank setup new

-- one of the numbers of a start
abbrev pub IsStartCode : ℕ → Type 0
IsStartCode n = (n ≡ OK) ⊎ (n ≡ NAME) ⊎ (n ≡ PATTERN) ⊎ ((EPHEMERAL_MISSING ≤ n) × (n ≤ PSK_COUNT)) ⊎ (n ≡ LENGTH)

-- where the handshake stands
pub record ReportsStage (h : HandshakeValue Table) (results : NoiseStageResult) : Type 0 where
  pub messages : results.messages ≡ length h.pattern.messages
  pub passed : results.passed ≡ h.passed
  pub ended : results.ended ≡ (if h.ended then 1 else 0)
  pub writes_next : results.writes_next ≡ (if is_turn h.role h.passed then 1 else 0)

-- A query returns STRUCT exactly where no call has left the struct, and then this is unchanged, else OK.
pub record IsQuery (usable : Type 0) (code : ℕ) (unchanged : Type 0) : Type 0 where
  pub unusable : code ≡ STRUCT ↔ (usable → ⊥)
  pub unchanged_is : OK < code → unchanged
  pub codes : (code ≡ OK) ⊎ (code ≡ STRUCT)
