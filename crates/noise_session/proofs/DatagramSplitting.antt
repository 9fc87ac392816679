-- What the calls of datagrams are, by those of their two halves; and the bytes after a datagram.
use Rattle.std.proofs.Common.{rules, ◌≡◌, ℕ, ◌+◌, ◌∙◌, List, Bool, Result, Ok, Err, ap, sym, subst}
use Rattle.noise_session.proofs.Common.{IfOk, OnOk, OnErr, MatchResult, Role, SendFault, DatagramsValue, DatagramSenderValue, DatagramReceiverValue, datagram_sending_half, datagram_receiving_half, DatagramState, DatagramsMatch, DatagramSenderMatches, DatagramReceiverMatches, Opens, accepting, nonce_named}
use Rattle.noise_session.specs.declared.datagram_fault.DatagramFault.{DatagramFault}
use Rattle.noise_session.specs.DatagramCalls.{DatagramSenderSeals, DatagramReceiverOpens, DatagramsSeal, DatagramsOpen}

-- a half of the same party
pub same_party : (h : DatagramReceiverValue) (role : Role) (one_way : Bool) → h.role ≡ role → h.one_way ≡ one_way
    → h ≡ record h { role = role; one_way = one_way }
same_party h role one_way a b =
    ap (λ (r : Role). record h { role = r }) a ∙ ap (λ (w : Bool). record h { role = role; one_way = w }) b

-- ---- the datagrams after a call of their half that seals
abbrev after_sealing : DatagramsValue → DatagramSenderValue → DatagramsValue
after_sealing d h = record d { role = h.role; one_way = h.one_way; send_key = h.key; send_nonce = h.nonce }

sealed-unchanged : (r : Result ℕ SendFault) (d : DatagramsValue) (h : DatagramSenderValue) (A : Type 0) → OnErr r ((h ≡ datagram_sending_half d) × A)
    → OnErr r (after_sealing d h ≡ d)
sealed-unchanged (Ok n) d h A e = tt
sealed-unchanged (Err f) d h A e = ap (after_sealing d) e.0

sealed-matches : (r : Result ℕ SendFault) (d : DatagramsValue) (h : DatagramSenderValue) (v : DatagramState) (P : ℕ → Type 0) → DatagramsMatch d v
    → IfOk r (λ n. P n × DatagramSenderMatches h (record v { sent = v.sent + 1 })) → OnOk r (DatagramsMatch (after_sealing d h) (record v { sent = v.sent + 1 }))
sealed-matches (Ok n) d h v P s k = search
sealed-matches (Err f) d h v P s k = tt

pub datagrams_seal : (d u : DatagramsValue) (h : DatagramSenderValue) (n : ℕ) (payload out after : List ℕ) (r : Result ℕ SendFault) → d ≡ u
    → DatagramSenderSeals (datagram_sending_half d) h n payload out after r → DatagramsSeal u (after_sealing d h) n payload out after r
datagrams_seal d u h n payload out after r is s = search rules

-- ---- the datagrams after a call of their half that opens
abbrev after_opening : DatagramsValue → DatagramReceiverValue → DatagramsValue
after_opening d h = record d { receive_key = h.key; recent = h.recent }

opened-unchanged : {T : Type 0} (r : Result T DatagramFault) (d : DatagramsValue) (h : DatagramReceiverValue) → OnErr r (h ≡ datagram_receiving_half d)
    → OnErr r (after_opening d h ≡ d)
opened-unchanged (Ok x) d h e = tt
opened-unchanged (Err f) d h e = ap (after_opening d) e

opened-matches : {T : Type 0} (r : Result T DatagramFault) (d : DatagramsValue) (h : DatagramReceiverValue) (v : DatagramState) (m : ℕ) (P : T → Type 0)
    (Q : DatagramFault → Type 0) → DatagramsMatch d v → MatchResult r (λ x. P x × DatagramReceiverMatches h (accepting v m)) Q
    → OnOk r (DatagramsMatch (after_opening d h) (accepting v m))
opened-matches (Ok x) d h v m P Q s k = search
opened-matches (Err f) d h v m P Q s k = tt

pub datagrams_open : {T : Type 0} (d u : DatagramsValue) (h next : DatagramReceiverValue) (bytes : List ℕ) (r : Result T DatagramFault)
    (payload_in : T → List ℕ) → d ≡ u → h ≡ datagram_receiving_half d → DatagramReceiverOpens h next bytes r payload_in
    → DatagramsOpen u (after_opening d next) bytes r payload_in
datagrams_open d u h next bytes r payload_in viewed is o =
    let here : h ≡ datagram_receiving_half u = is ∙ ap datagram_receiving_half viewed in
    let left : datagram_receiving_half (after_opening d next) ≡ next = search rules in
    record {
      half = subst (λ (z : DatagramReceiverValue). DatagramReceiverOpens z (datagram_receiving_half (after_opening d next)) bytes r payload_in) here
          (subst (λ (z : DatagramReceiverValue). DatagramReceiverOpens h z bytes r payload_in) (sym left) o);
      others = search rules;
      unchanged = search rules;
      matches = λ v m. opened-matches r d next v (nonce_named bytes) (λ x. Opens v bytes (Ok (payload_in x)) (accepting v (nonce_named bytes)))
          (λ why. Opens v bytes (Err why) v) (subst (λ (z : DatagramsValue). DatagramsMatch z v) (sym viewed) m)
          (o.opens v (subst (λ (z : DatagramReceiverValue). DatagramReceiverMatches z v) (sym here) m.receiver));
    }
