-- What the calls of a transport are, by those of its two halves; and the bytes after a message.
use Rattle.std.proofs.Common.{rules, ◌≡◌, ◌≤◌, ℕ, ◌+◌, ◌∙◌, ◌++◌, Bool, List, length, take, drop, Result, Ok, Err, sym, ap, subst}
use Rattle.noise_session.proofs.Common.{IfOk, OnOk, OnErr, MatchResult, take_at, drop_at, drop-drop, Role, SendFault, OpenFault, HalfValue, SenderSeals, ReceiverOpens, TransportSeals, TransportOpens, IsCounted, one_sent, one_received, TransportValue, TransportState, TransportMatches, SenderMatches, ReceiverMatches, sending_half, receiving_half}

-- a half of the same party
pub same_party : (h : HalfValue) (role : Role) (one_way : Bool) (interval : ℕ) → h.role ≡ role → h.one_way ≡ one_way → h.interval ≡ interval
    → h ≡ record h { role = role; one_way = one_way; interval = interval }
same_party h role one_way interval a b c = search rules

-- a call of a half changes its key and its nonce alone
key-and-nonce : {T E : Type 0} (r : Result T E) (h next : HalfValue) → OnOk r (IsCounted h next) → OnErr r (next ≡ h)
    → next ≡ record h { key = next.key; nonce = next.nonce }
key-and-nonce (Ok x) h next counted unchanged = search
key-and-nonce (Err e) h next counted unchanged = search rules

-- ---- the transport after a call of its sending half
abbrev after_sealing : TransportValue → HalfValue → TransportValue
after_sealing t h =
    record t { role = h.role; one_way = h.one_way; interval = h.interval; send_key = h.key; send_nonce = h.nonce }

sealed-unchanged : (r : Result ℕ SendFault) (t : TransportValue) (h : HalfValue) (A : Type 0) → OnErr r ((h ≡ sending_half t) × A) → OnErr r (after_sealing t h ≡ t)
sealed-unchanged (Ok n) t h A e = tt
sealed-unchanged (Err f) t h A e = ap (after_sealing t) e.0

sealed-matches : (r : Result ℕ SendFault) (t : TransportValue) (h : HalfValue) (v : TransportState) (P : ℕ → Type 0) → TransportMatches t v
    → IfOk r (λ n. P n × SenderMatches h (one_sent v)) → OnOk r (TransportMatches (after_sealing t h) (one_sent v))
sealed-matches (Ok n) t h v P s k = search
sealed-matches (Err f) t h v P s k = tt

pub transport_seals : (t u : TransportValue) (h : HalfValue) (n : ℕ) (payload out after : List ℕ) (r : Result ℕ SendFault) → t ≡ u
    → SenderSeals (sending_half t) h n payload out after r → TransportSeals u (after_sealing t h) n payload out after r
transport_seals t u h n payload out after r is s = subst (λ (z : TransportValue). TransportSeals z (after_sealing t h) n payload out after r) is (record {
  half = s;
  others = ap (after_sealing t) (key-and-nonce r (sending_half t) h s.counted (unchanged-half r s.unchanged));
  unchanged = sealed-unchanged r t h (after ≡ out) s.unchanged;
  matches = λ v p. sealed-matches r t h v _ p (s.seals v p.sender);
})
  where
    unchanged-half : (q : Result ℕ SendFault) → OnErr q ((h ≡ sending_half t) × (after ≡ out)) → OnErr q (h ≡ sending_half t)
    unchanged-half (Ok m) e = tt
    unchanged-half (Err f) e = e.0

-- ---- the transport after a call of its receiving half
abbrev after_opening : TransportValue → HalfValue → TransportValue
after_opening t h = record t { receive_key = h.key; receive_nonce = h.nonce }

opened-unchanged : {T : Type 0} (r : Result T OpenFault) (t : TransportValue) (h : HalfValue) → OnErr r (h ≡ receiving_half t) → OnErr r (after_opening t h ≡ t)
opened-unchanged (Ok x) t h e = tt
opened-unchanged (Err f) t h e = ap (after_opening t) e

opened-matches : {T : Type 0} (r : Result T OpenFault) (t : TransportValue) (h : HalfValue) (v : TransportState) (P : T → Type 0) (Q : OpenFault → Type 0)
    → TransportMatches t v → MatchResult r (λ x. P x × ReceiverMatches h (one_received v)) Q → OnOk r (TransportMatches (after_opening t h) (one_received v))
opened-matches (Ok x) t h v P Q s k = search
opened-matches (Err f) t h v P Q s k = tt

pub transport_opens : {T : Type 0} (t u : TransportValue) (h next : HalfValue) (message : List ℕ) (r : Result T OpenFault) (payload_in : T → List ℕ) → t ≡ u
    → h ≡ receiving_half t → ReceiverOpens h next message r payload_in → TransportOpens u (after_opening t next) message r payload_in
transport_opens t u h next message r payload_in viewed is o = search rules

-- the payload, where it was copied to the front
copied-there : (payload copied out : List ℕ) → copied ≡ payload → take (length payload) (copied ++ drop (length payload) out) ≡ payload
copied-there payload copied out same = take_at copied (drop (length payload) out) (length payload) (ap length same) ∙ same

-- what is after the message, where the payload was copied to the front
after-copy : (r : Result ℕ SendFault) (payload copied out new : List ℕ) → copied ≡ payload
    → IfOk r (λ n. drop n new ≡ drop n (copied ++ drop (length payload) out)) → IfOk r (λ n. (n ≡ length payload + 16) × (n ≤ length new))
    → IfOk r (λ n. drop n new ≡ drop n out)
after-copy (Err fault) payload copied out new same rest len = tt
after-copy (Ok n) payload copied out new same rest len =
    let m : ℕ = length payload in
    let all = copied ++ drop m out in
    let is : drop (m + 16) all ≡ drop (m + 16) out =
    sym (drop-drop 16 m all) ∙ ap (drop 16) (drop_at copied (drop m out) m (ap length same)) ∙ drop-drop 16 m out in
    rest ∙ subst (λ (k : ℕ). drop k all ≡ drop k out) (sym len.0) is

-- a payload that was copied to the front is sealed there
pub seals-copied : (h next : HalfValue) (payload copied out new : List ℕ) (k : ℕ) → copied ≡ payload
    → SenderSeals h next (length payload) (take (length payload) (copied ++ drop (length payload) out)) (copied ++ drop (length payload) out) new (Ok k)
    → SenderSeals h next (length payload) payload out new (Ok k)
seals-copied h next payload copied out new k same sealed =
    let all = copied ++ drop (length payload) out in
    let s = subst (λ (x : List ℕ). SenderSeals h next (length payload) x all new (Ok k)) (copied-there payload copied out same) sealed in
    record {
      fault = s.fault;
      below = s.below;
      len = s.len;
      rest = after-copy (Ok k) payload copied out new same s.rest s.len;
      counted = s.counted;
      unchanged = tt;
      sealed = s.sealed;
      renewed = s.renewed;
      seals = s.seals;
    }
