-- What a handshake matches, and what follows for a message.
use Rattle.std.proofs.Common.{rules, ◌≡◌, ℕ, ◌<◌, ◌≤◌, List, Bool, true, false, length, refl}
use Rattle.std.specs.Prelude.{if◌then◌else◌}
use Rattle.noise_handshake.proofs.Common.{Option, None, Some, Token, Role, Initiator, other, turn_from, has_psk, Own, Remote, Cause, ReadFault, Party, Reader, reader, Listens, Reads, Stops, Accepts, Refuses, tokens_now, Listening, HandshakeValue, read_fault, party_of}
use Rattle.noise_handshake.specs.declared.faults.ReadFault.TheVariants as read
use Rattle.noise_keys.specs.Keys.{KeyPairs}
use Rattle.noise_handshake.proofs.Advancing.{unended-read}

-- whose turn it is
abbrev pub Reported : (ended all ours : Bool) → Option ReadFault → Type 0
Reported ended all ours (Some read.Ended) = ended ≡ true
Reported ended all ours (Some read.Done) = (ended ≡ false) × (all ≡ true)
Reported ended all ours (Some read.NotYourTurn) = (ended ≡ false) × (all ≡ false) × (ours ≡ true)
Reported ended all ours (Some (read.Refused token cause)) = ⊥
Reported ended all ours None = (ended ≡ false) × (all ≡ false) × (ours ≡ false)

pub reported : (ended all ours : Bool)
    → Reported ended all ours (if ended then Some read.Ended else if all then Some read.Done else if ours then Some read.NotYourTurn else None)
reported true all ours = refl
reported false true ours = (refl, refl)
reported false false true = (refl, refl, refl)
reported false false false = (refl, refl, refl)

-- where a message is due there is one
pub due : {K : Type 0} (h : HandshakeValue K) → h.passed ≤ length h.pattern.messages → read_fault h ≡ None → h.passed < length h.pattern.messages
due h w e = search rules

-- and it is the other party's turn
pub reads-turn : {K : Type 0} (h : HandshakeValue K) → read_fault h ≡ None → turn_from Initiator h.passed ≡ other h.role
reads-turn h e = search rules

module _ {K : Type 0} (pairs : K → KeyPairs) (h : HandshakeValue K) where
  -- a message of the other party is due
  pub listens : h.passed ≤ length h.pattern.messages → read_fault h ≡ None → Listens (party_of pairs h)
  listens w e = record { going = unended-read h e; more = due h w e; turn = reads-turn h e }

  pub listening : (has_psks : Bool) (psks : List (List ℕ)) (tokens : List Token) → Listens (party_of pairs h) → has_psks ≡ has_psk h.pattern → psks ≡ h.psks
      → tokens ≡ tokens_now (party_of pairs h)
      → Listening (party_of pairs h) h.role has_psks (pairs h.keys).agree psks h.remote tokens
  listening has_psks psks tokens l b d e = record {
    listens = l;
    role_is = refl;
    psks_is = b;
    agree_is = refl;
    psks_are = d;
    known_is = refl;
    tokens_are = e;
  }

-- what holds of a party's parts holds of the party that it listens for
module _ (v : Party) (role : Role) (has_psks : Bool) (agree : Own → List ℕ → Option (List ℕ)) (psks : List (List ℕ)) (known : Remote) (tokens : List Token)
    (l : Listening v role has_psks agree psks known tokens) where
  pub for-view : (P : Reader → Remote → List (List ℕ) → List Token → Type 0) → P (record { role = role; has_psks = has_psks; agree = agree }) known psks tokens
      → P (reader v) v.remote v.psks (tokens_now v)
  for-view P h = search rules

  pub accepted : (m : List ℕ) (xs : List (List ℕ)) (payload : List ℕ) → length m ≤ 65535
      → Reads (record { role = role; has_psks = has_psks; agree = agree }) known psks v.state tokens m xs payload → Accepts v m xs payload
  accepted m xs payload fits h = record {
    listens = l.listens;
    fits = fits;
    reads = for-view (λ w k s ts. Reads w k s v.state ts m xs payload) h;
  }

  pub refused : (m : List ℕ) (k : ℕ) (cause : Cause)
      → Stops (record { role = role; has_psks = has_psks; agree = agree }) known psks v.state tokens m k cause → Refuses v m k cause
  refused m k cause h = record { listens = l.listens; stops = for-view (λ w z s ts. Stops w z s v.state ts m k cause) h }
