-- What the struct of a half of a transport matches.
use Rattle.std.specs.Prelude.{◌≡◌, ◌≢◌, ◌↔◌, ◌⊎◌, ◌<◌, ℕ, List, length, take, drop, slice_range, true, ◌==◌, ◌+◌, nat_lt, not, ◌&&◌, ◌||◌, Bool, false, Option, IfSome, MatchOption, is_some, Some, option_map, if◌then◌else◌}
use Rattle.noise_names.specs.declared.token.Role.{Role}
use Rattle.noise_names.specs.declared.token.Role.TheVariants.{Initiator, Responder}
use Rattle.noise_session.specs.TransportValue.{TransportState, SenderMatches, ReceiverMatches, next_message, due_message, unopened_fault}
use Rattle.noise_session.specs.Halves.{HalfValue, sender_fault, receiver_fault}
use Rattle.noise_c.specs.declared.structs.NoiseHalf.{NoiseHalf}
use Rattle.noise_c.specs.declared.structs.NoiseResult.{NoiseResult}
use Rattle.noise_c.specs.declared.codes.numbers.TheConstants.{EXHAUSTED, LENGTH, OK, ONE_WAY, RECEIVER, ROOM, SENDER, SHORT, STRUCT, TAG, TOO_LONG}
use Rattle.noise_c.specs.TransportCodes.{sealing_code, open_code}

-- the struct holds this value where it is known, and nothing else
pub record IsFromC {A : Type 0} (o : Option A) (is_known : Bool) (value : A) : Type 0 where
  pub known : is_some o ≡ is_known
  pub same : IfSome o (λ x. x ≡ value)

-- the bytes before and after these places are unchanged
abbrev pub IsAround : List ℕ → List ℕ → ℕ → ℕ → Type 0
IsAround old new from to = (take from new ≡ take from old) × (drop to new ≡ drop to old)

-- the struct is known, and holds this value
pub record IsToC {A : Type 0} (is_known : Bool) (stored value : A) : Type 0 where
  pub known : is_known ≡ true
  pub same : stored ≡ value

-- A number for each role: memory of zeros has neither.
abbrev pub is_party : ℕ → Bool
is_party party = (party == 1) || (party == 2)

abbrev pub party_in : ℕ → Role
party_in party = if party == 1 then Initiator else Responder

-- A call has left this as a half of this kind: its mark is that of the kind in this layout, and it is of one of the two
-- parties.
abbrev pub is_half : ℕ → NoiseHalf → Bool
is_half mark k = (k.mark == mark) && is_party k.party

-- the half
abbrev pub half_from_c : NoiseHalf → HalfValue
half_from_c k = record {
  role = party_in k.party;
  one_way = not (k.one_way == 0);
  interval = k.interval;
  key = Some k.key;
  nonce = k.nonce;
}

-- the number of sealing, by the lengths of the payload and of what there is room for
abbrev pub sender_seal_code : NoiseHalf → ℕ → ℕ → ℕ
sender_seal_code k payload room =
    if not (is_half SENDER k) then STRUCT
    else if nat_lt room (payload + 16) then ROOM
    else sealing_code (sender_fault (half_from_c k) payload)

-- the number of a message of this length that isn't looked into
abbrev pub receiver_open_refusal : NoiseHalf → ℕ → Option ℕ
receiver_open_refusal k message =
    if not (is_half RECEIVER k) then Some STRUCT
    else if nat_lt 65535 message then Some LENGTH
    else option_map open_code (receiver_fault (half_from_c k))

-- one message more, which may have changed the key
abbrev pub CountsOne : NoiseHalf → NoiseHalf → Type 0
CountsOne old new = half_from_c new ≡ record (half_from_c old) { key = (half_from_c new).key; nonce = old.nonce + 1 }

-- the message is the next one that is sealed, of this payload
abbrev pub SealsNext : NoiseHalf → NoiseHalf → List ℕ → List ℕ → Type 0
SealsNext old new payload message = (v : TransportState) → SenderMatches (half_from_c old) v
    → (message ≡ next_message v payload) × SenderMatches (half_from_c new) (record v { sent = v.sent + 1 })

-- the message is the next one that is opened, and it has this payload
abbrev pub OpensNext : NoiseHalf → NoiseHalf → List ℕ → List ℕ → Type 0
OpensNext old new message payload = (v : TransportState) → ReceiverMatches (half_from_c old) v
    → (message ≡ due_message v payload) × ReceiverMatches (half_from_c new) (record v { received = v.received + 1 })

-- the other party makes it of no payload now
abbrev pub IsForged : NoiseHalf → List ℕ → Type 0
IsForged old message = (v : TransportState) → ReceiverMatches (half_from_c old) v
    → (payload : List ℕ) → message ≢ due_message v payload

-- the numbers of sealing and of opening
abbrev pub IsSealCode : ℕ → Type 0
IsSealCode n = (n ≡ OK) ⊎ (n ≡ TOO_LONG) ⊎ (n ≡ EXHAUSTED) ⊎ (n ≡ ROOM) ⊎ (n ≡ ONE_WAY) ⊎ (n ≡ STRUCT)

abbrev pub IsOpenCode : ℕ → Type 0
IsOpenCode n = (n ≡ OK) ⊎ (n ≡ SHORT) ⊎ (n ≡ TAG) ⊎ (n ≡ EXHAUSTED) ⊎ (n ≡ ONE_WAY) ⊎ (n ≡ STRUCT) ⊎ (n ≡ LENGTH)

-- A payload of n bytes is sealed into the first bytes of a buffer, or what is wrong is the number.
pub record Seals (n : ℕ) (payload : List ℕ) (old new : NoiseHalf) (out after : List ℕ)
    (results next : NoiseResult) (code : ℕ) : Type 0 where
  pub code_is : code ≡ sender_seal_code old n (length out)
  pub place : code ≡ OK → next ≡ record results { from = 0; len = n + 16 }
  pub seals : code ≡ OK → SealsNext old new payload (take (n + 16) after)
  pub beyond : drop (n + 16) after ≡ drop (n + 16) out
  pub counted : code ≡ OK → CountsOne old new
  pub known : code ≡ OK → is_half SENDER new ≡ true
  pub unchanged : OK < code → (new ≡ old) × (after ≡ out) × (next ≡ results)
  pub codes : IsSealCode code

-- A message is opened in place, or what is wrong is the number.
pub record HalfOpensInPlace (old new : NoiseHalf) (message after : List ℕ)
    (results next : NoiseResult) (code : ℕ) : Type 0 where
  pub code_is : MatchOption (receiver_open_refusal old (length message))
      ((code ≡ OK) ⊎ (code ≡ open_code (unopened_fault (length message)))) (λ refusal. code ≡ refusal)
  pub place : code ≡ OK → (next ≡ record results { from = 0; len = next.len }) × (next.len + 16 ≡ length after)
  pub opens : code ≡ OK → OpensNext old new message (slice_range after next.from (next.from + next.len))
  pub forged : (code ≡ SHORT) ⊎ (code ≡ TAG) → IsForged old message
  pub beyond : code ≡ OK → drop next.len after ≡ drop next.len message
  pub counted : code ≡ OK → CountsOne old new
  pub known : code ≡ OK → is_half RECEIVER new ≡ true
  pub unchanged : OK < code → (new ≡ old) × (after ≡ message) × (next ≡ results)
  pub codes : IsOpenCode code

-- A nonce is reported exactly where the struct is known.
pub record ReportsNonce (known : Bool) (nonce old new code : ℕ) : Type 0 where
  pub unusable : code ≡ STRUCT ↔ known ≡ false
  pub nonce_is : code ≡ OK → new ≡ nonce
  pub unchanged : OK < code → new ≡ old
  pub codes : (code ≡ OK) ⊎ (code ≡ STRUCT)
