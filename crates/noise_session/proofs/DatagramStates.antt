-- What sealing and opening make of the bytes of a datagram, and of a state.
use Rattle.std.proofs.Common.{rules, ◌≡◌, ◌≢◌, ℕ, ◌+◌, ◌-◌, ◌≤◌, Bool, false, List, [], ◌∷◌, ◌++◌, take, Option, Some, None, Ok, Err, refl, sym, ◌∙◌, ap, arith}
use Rattle.noise_session.proofs.Common.{HalfValue, receiver_fault, w64, to_be_bytes, Role, SymmetricState, ciphertext_under, Ring, split_key, transport_message, last_nonce, width_of, is_old, Recalls, DatagramState, Opens, nonce_named, accepting, datagram_fault, datagram_receiver_fault, ring_fault, window_fault, other, DatagramReceiverValue, DatagramReceiverMatches}
use Rattle.noise_session.specs.declared.datagram_fault.DatagramFault.{DatagramFault}
use Rattle.noise_session.specs.declared.datagram_fault.DatagramFault.TheVariants as fault
use Rattle.noise_session.specs.Datagrams.{unopened}
use Rattle.noise_session.specs.Datagrams.Opens.{opened, refused, forged}
use Rattle.noise_session.specs.DatagramCalls.{IsUnderKey}
use Rattle.noise_session.proofs.Ringing.{ring-reported}

-- ---- bytes
pub sealed-front : (p q message : List ℕ) (n m : ℕ) → p ≡ to_be_bytes w64 m → take n q ≡ message → take (8 + n) (p ++ q) ≡ to_be_bytes w64 m ++ message
sealed-front p q message n m is made = search rules

-- a datagram that is long enough has a nonce
pub has-nonce : (n : ℕ) → 24 ≤ n → 8 ≤ n
has-nonce n long = omega arith

-- so many bytes from the ninth on
pub payload-there : (n : ℕ) → 8 + n - 8 ≡ n
payload-there n = omega arith

pub piece-transport_message : (key : Option (List ℕ)) (n m : ℕ) (r : SymmetricState) (writer : Role) (payload : List ℕ) → key ≡ Some (split_key r writer) → n ≡ m
    → ciphertext_under key n [] payload ≡ transport_message r writer 0 m payload
piece-transport_message key n m r writer payload keyed same = search rules

-- ---- why nothing is opened
-- a half has the faults of the state that it matches
pub fault-reported : (h : DatagramReceiverValue) (v : DatagramState) (bytes : List ℕ) → DatagramReceiverMatches h v
    → datagram_receiver_fault h bytes ≡ datagram_fault v bytes
fault-reported h v bytes p =
    ap (λ (r : Role). unopened r h.one_way (ring_fault h.recent) bytes) p.role
    ∙ ap (λ (w : Bool). unopened v.role w (ring_fault h.recent) bytes) p.one_way
    ∙ ap (λ (o : Option DatagramFault). unopened v.role v.one_way (λ _. o) bytes)
    (ring-reported h.recent v.accepted (nonce_named bytes) p.recent ∙ ap (λ (w : ℕ). window_fault w v.accepted (nonce_named bytes)) p.width)

pub opened-there : (h : DatagramReceiverValue) (v : DatagramState) (bytes payload : List ℕ) → DatagramReceiverMatches h v
    → datagram_receiver_fault h bytes ≡ None → IsUnderKey h bytes payload → Opens v bytes (Ok payload) (accepting v (nonce_named bytes))
opened-there h v bytes payload p none is =
    opened v bytes payload (sym (fault-reported h v bytes p) ∙ none)
    (is ∙ piece-transport_message h.key (nonce_named bytes) (nonce_named bytes) v.state (other v.role) payload p.key refl)

pub refused-there : (h : DatagramReceiverValue) (v : DatagramState) (bytes : List ℕ) (why : DatagramFault) → DatagramReceiverMatches h v
    → Some why ≡ datagram_receiver_fault h bytes → Opens v bytes (Err why) v
refused-there h v bytes why p is = refused v bytes why (sym (is ∙ fault-reported h v bytes p))

pub forged-there : (h : DatagramReceiverValue) (v : DatagramState) (bytes : List ℕ) → DatagramReceiverMatches h v
    → datagram_receiver_fault h bytes ≡ None → ((payload : List ℕ) → IsUnderKey h bytes payload → ⊥) → Opens v bytes (Err fault.Tag) v
forged-there h v bytes p none never =
    forged v bytes (sym (fault-reported h v bytes p) ∙ none) (λ payload is.
    never payload (is ∙ sym (piece-transport_message h.key (nonce_named bytes) (nonce_named bytes) v.state (other v.role) payload p.key refl)))

-- the half that opens, at the nonce that a datagram names
pub half-listens : (h : HalfValue) (d : DatagramReceiverValue) (bytes : List ℕ) → h.role ≡ d.role → h.one_way ≡ d.one_way
    → datagram_receiver_fault d bytes ≡ None → h.nonce ≢ last_nonce → receiver_fault h ≡ None
half-listens h d bytes role one_way none apart = search rules

pub young-here : (h : DatagramReceiverValue) (v : DatagramState) (bytes : List ℕ) (n : ℕ) → DatagramReceiverMatches h v → datagram_fault v bytes ≡ None
    → n ≡ nonce_named bytes → is_old (width_of h.recent.window) v.accepted n ≡ false
young-here h v bytes n p none same = search rules

-- ---- states after a call
pub half-opened : (h : DatagramReceiverValue) (v : DatagramState) (key : Option (List ℕ)) (recent : Ring) (n m : ℕ) → DatagramReceiverMatches h v → key ≡ h.key
    → recent.window ≡ h.recent.window → n ≡ m → Recalls recent (n ∷ v.accepted)
    → DatagramReceiverMatches (record h { key = key; recent = recent }) (accepting v m)
half-opened h v key recent n m p same window named recalls = search rules
