-- What events make of the datagrams of two parties: over sets of accepted nonces and counts of seals.
use Rattle.std.specs.Prelude.{◌≡◌, ℕ, List, [], ◌∷◌, length, Some, None, Ok, Err, slice_get}
use Rattle.noise_names.specs.declared.token.Role.{Role}
use Rattle.noise_names.specs.Tokens.{other}
use Rattle.noise_session.specs.declared.faults.SendFault.{SendFault}
use Rattle.noise_session.specs.declared.datagram_fault.DatagramFault.{DatagramFault}
use Rattle.noise_session.specs.Datagrams.{Opens, accepting, datagram, nonce_named, unsealed}
use Rattle.noise_events.specs.DatagramEvents.{DatagramEvent, Seal, Open, Raw}
use Rattle.noise_duel.specs.DatagramNotes.{DatagramNote, Sealed, SealFault, Payload, Rejected, Missing}
use Rattle.noise_duel.specs.DatagramSides.{DatagramSide, DatagramSides, sealed_datagrams, opening, party, sealing, with_party}

-- A party seals a payload at the count of its seals, or doesn't (Noise 5.1, 7.4 and 11.4).
pub data PartySeals : DatagramSide → List ℕ → DatagramNote → DatagramSide → Type 0 where
  seals : (s : DatagramSide) (payload : List ℕ)
      → unsealed s.state.role s.state.one_way s.state.sent (length payload) ≡ None
      → PartySeals s payload (Sealed (length s.sealed) (datagram s.state.state s.state.role s.state.sent payload))
      (sealing s payload)
  seals_nothing : (s : DatagramSide) (payload : List ℕ) (why : SendFault)
      → unsealed s.state.role s.state.one_way s.state.sent (length payload) ≡ Some why
      → PartySeals s payload (SealFault why) s

-- A party opens bytes as one datagram, or doesn't (Noise 11.4).
pub data PartyOpens : DatagramSide → List ℕ → DatagramNote → DatagramSide → Type 0 where
  opens : (s : DatagramSide) (bytes payload : List ℕ)
      → Opens s.state bytes (Ok payload) (accepting s.state (nonce_named bytes))
      → PartyOpens s bytes (Payload payload) (opening s bytes payload)
  rejects : (s : DatagramSide) (bytes : List ℕ) (why : DatagramFault)
      → Opens s.state bytes (Err why) s.state → PartyOpens s bytes (Rejected why) s

-- One event, what is noted of it, and the two parties after it.
pub data DatagramHappens : DatagramSides → DatagramEvent → Role × DatagramNote → DatagramSides → Type 0 where
  is_sealed : (d : DatagramSides) (role : Role) (payload : List ℕ) (note : DatagramNote) (next : DatagramSide)
      → PartySeals (party d role) payload note next
      → DatagramHappens d (Seal role payload) (role, note) (with_party d role next)
  is_delivered : (d : DatagramSides) (role : Role) (n : ℕ) (bytes : List ℕ) (note : DatagramNote) (next : DatagramSide)
      → slice_get (sealed_datagrams (party d (other role))) n ≡ Some bytes → PartyOpens (party d role) bytes note next
      → DatagramHappens d (Open role n) (role, note) (with_party d role next)
  is_missing : (d : DatagramSides) (role : Role) (n : ℕ) → slice_get (sealed_datagrams (party d (other role))) n ≡ None
      → DatagramHappens d (Open role n) (role, Missing n) d
  is_put_in : (d : DatagramSides) (role : Role) (bytes : List ℕ) (note : DatagramNote) (next : DatagramSide)
      → PartyOpens (party d role) bytes note next
      → DatagramHappens d (Raw role bytes) (role, note) (with_party d role next)

-- Events, one after another.
pub data DatagramRun : DatagramSides → List DatagramEvent → List (Role × DatagramNote) → DatagramSides → Type 0 where
  ends : (d : DatagramSides) → DatagramRun d [] [] d
  begins : (d next last : DatagramSides) (event : DatagramEvent) (events : List DatagramEvent)
      (note : Role × DatagramNote) (notes : List (Role × DatagramNote))
      → DatagramHappens d event note next → DatagramRun next events notes last
      → DatagramRun d (event ∷ events) (note ∷ notes) last

-- A run is determined: of two parties and a list of events one list of notes and one pair of parties comes.
abbrev pub DatagramRunOnce : Type 0
DatagramRunOnce = (d x y : DatagramSides) (events : List DatagramEvent) (ms ns : List (Role × DatagramNote))
    → DatagramRun d events ms x → DatagramRun d events ns y → (ms ≡ ns) × (x ≡ y)
