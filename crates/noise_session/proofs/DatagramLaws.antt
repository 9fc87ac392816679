-- Each nonce is opened once, and what is sealed is opened.
use Rattle.std.proofs.Common.{rules, ◌≡◌, ◌≢◌, ℕ, ◌+◌, ◌≤◌, ◌<◌, ◌^◌, Bool, true, false, List, [], ◌++◌, length, Option, Some, None, Ok, Err, refl, sym, ◌∙◌, ap, subst, arith, eqb, MatchOption}
use Rattle.std.specs.Prelude.{◌&&◌, ◌==◌, nat_lt, if◌then◌else◌}
use Rattle.std.proofs.lemmas.Nat.{from_be_bytes-to_be_bytes_8}
use Rattle.noise_session.proofs.Common.{nat_le, w64, to_be_bytes, false≢true, or_right, ne_eqb, ltb-false, leb-false, le-ltb, Role, Initiator, Responder, other, same_role, nonce_of, SymmetricState, SendFault, transport_key, transport_message, last_nonce, is_accepted, window_fault, DatagramState, Opens, Runs, AreOnce, AreParties, IsSealed, datagram, nonce_named, accepting, unsealed, datagram_fault}
use Rattle.noise_aead.specs.Sealed.{length-sealed}
use Rattle.noise_session.specs.declared.datagram_fault.DatagramFault.{DatagramFault}
use Rattle.noise_session.specs.Datagrams.Opens.{opened, refused, forged}
use Rattle.noise_session.specs.Datagrams.Runs.{ends, seals, opens, refuses}
use Rattle.noise_session.specs.DatagramFaults.{fault-free, no-fault}
use Rattle.noise_names.specs.Roles.{other-other}
use Rattle.noise_session.proofs.Counterparts.{heard-there}
use Rattle.noise_session.specs.declared.faults.SendFault.TheVariants as send
use Rattle.noise_session.specs.declared.datagram_fault.DatagramFault.TheVariants as fault

-- ---- once
opened-as : (v : DatagramState) (bytes payload : List ℕ) (w : DatagramState) → Opens v bytes (Ok payload) w
    → (datagram_fault v bytes ≡ None) × (w ≡ accepting v (nonce_named bytes))
opened-as v bytes payload w (opened _ _ _ none is) = (none, refl)

refused-as : (v w : DatagramState) (bytes : List ℕ) (why : DatagramFault) → Opens v bytes (Err why) w → w ≡ v
refused-as v w bytes why (refused _ _ _ is) = refl
refused-as v w bytes why (forged _ _ none never) = refl

-- a nonce that was opened isn't opened again
not-again : (v w : DatagramState) (nonces : List ℕ) → Runs v nonces w → (n : ℕ) → is_accepted v.accepted n ≡ true → is_accepted nonces n ≡ false
not-again v w nonces (ends _) n there = refl
not-again v w nonces (seals _ _ _ r) n there = not-again (record v { sent = v.sent + 1 }) w nonces r n there
not-again v w nonces (opens _ x _ bytes payload rest o r) n there =
    let is = opened-as v bytes payload x o in
    let set = ap (λ (u : DatagramState). is_accepted u.accepted n) is.1 in
    let apart : nonce_named bytes ≢ n = λ same. false≢true (sym (fault-free v bytes is.0).fresh ∙ ap (is_accepted v.accepted) same ∙ there) in
    rw (ne_eqb (nonce_named bytes) n apart) (not-again x w rest r n (set ∙ or_right (eqb (nonce_named bytes) n) (is_accepted v.accepted n) there))
not-again v w nonces (refuses _ x _ bytes _ why o r) n there =
    not-again x w nonces r n (ap (λ (u : DatagramState). is_accepted u.accepted n) (refused-as v x bytes why o) ∙ there)

pub once : (v w : DatagramState) (nonces : List ℕ) → Runs v nonces w → AreOnce nonces
once v w nonces (ends _) = tt
once v w nonces (seals _ _ _ r) = once (record v { sent = v.sent + 1 }) w nonces r
once v w nonces (opens _ x _ bytes payload rest o r) = search (rules, opened-as, not-again, (once x w rest r))
once v w nonces (refuses _ x _ bytes _ why o r) = once x w nonces r

-- ---- sealed and opened
record IsDue (role : Role) (one_way : Bool) (nonce n : ℕ) : Type 0 where
  pub heard : (one_way && same_role role Responder) ≡ false
  pub room : n + 24 ≤ 65543
  pub low : nonce < last_nonce

due : (role : Role) (one_way : Bool) (nonce n : ℕ) → unsealed role one_way nonce n ≡ None → IsDue role one_way nonce n
due role one_way nonce n e =
    let last : Option SendFault = if nat_le last_nonce nonce then Some send.Exhausted else None in
    let long : Option SendFault = if nat_lt 65543 (n + 24) then Some send.TooLong else last in
    let a = no-fault (one_way && same_role role Responder) send.OneWay long e in
    let b = no-fault (nat_lt 65543 (n + 24)) send.TooLong last a.1 in
    let c = no-fault (nat_le last_nonce nonce) send.Exhausted None b.1 in
    record { heard = a.0; room = ltb-false 65543 (n + 24) b.0; low = leb-false last_nonce nonce c.0 }

past : {X : Type 0} (b : Bool) (x : X) (rest : Option X) → b ≡ false → (if b then Some x else rest) ≡ rest
past true x rest e = cc
past false x rest e = refl

named : (n : ℕ) (rest : List ℕ) → n < 2 ^ 64 → nonce_named (to_be_bytes w64 n ++ rest) ≡ n
named n rest low = from_be_bytes-to_be_bytes_8 n low

reported : (w : DatagramState) (bytes payload : List ℕ) (n : ℕ) (o : Option DatagramFault) → datagram_fault w bytes ≡ o
    → nonce_named bytes ≡ n → IsSealed w bytes payload
    → MatchOption o (Opens w bytes (Ok payload) (accepting w n)) (λ why. Opens w bytes (Err why) w)
reported w bytes payload n None e is sealed = subst (λ (k : ℕ). Opens w bytes (Ok payload) (accepting w k)) is (opened w bytes payload e sealed)
reported w bytes payload n (Some why) e is sealed = refused w bytes why e

module _ (v w : DatagramState) (payload : List ℕ) (p : AreParties v w) (d : IsDue v.role v.one_way v.sent (length payload)) where
  bytes : List ℕ
  bytes = datagram v.state v.role v.sent payload

  is-named : nonce_named bytes ≡ v.sent
  unfolding bytes
  is-named = let low = d.low in named v.sent (transport_message v.state v.role 0 v.sent payload) (omega arith)

  long : length bytes ≡ length payload + 24
  unfolding bytes
  long = omega (arith, length-sealed (transport_key v.state v.role 0 v.sent) (nonce_of v.sent) [] payload)

  fault-there : datagram_fault w bytes ≡ window_fault w.width w.accepted v.sent
  fault-there =
      let room = d.room in
      let low = d.low in
      let size = long in
      let name = is-named in
      let window = window_fault w.width w.accepted (nonce_named bytes) in
      let reserved : Option DatagramFault = if nonce_named bytes == last_nonce then Some fault.Reserved else window in
      let ended_party : Option DatagramFault = if nat_lt 65543 (length bytes) then Some fault.TooLong else reserved in
      let short : Option DatagramFault = if nat_lt (length bytes) 24 then Some fault.Short else ended_party in
      let heard : (w.one_way && same_role w.role Initiator) ≡ false = rw (p.role, p.one_way) (heard-there v.one_way v.role d.heard) in
      let apart : nonce_named bytes ≢ last_nonce = λ same. absurd (omega arith) in
      past (w.one_way && same_role w.role Initiator) fault.OneWay short heard
      ∙ past (nat_lt (length bytes) 24) fault.Short ended_party (le-ltb (length bytes) 24 (omega arith))
      ∙ past (nat_lt 65543 (length bytes)) fault.TooLong reserved (le-ltb 65543 (length bytes) (omega arith))
      ∙ past (nonce_named bytes == last_nonce) fault.Reserved window (ne_eqb (nonce_named bytes) last_nonce apart)
      ∙ ap (window_fault w.width w.accepted) is-named

  is-sealed : IsSealed w bytes payload
  unfolding bytes
  is-sealed =
      ap (λ (r : SymmetricState). transport_message r v.role 0 v.sent payload) (sym p.state)
      ∙ ap (λ (role : Role). transport_message w.state role 0 v.sent payload) (sym (ap other p.role ∙ other-other v.role))
      ∙ ap (λ (n : ℕ). transport_message w.state (other w.role) 0 n payload) (sym is-named)

  comes : MatchOption (window_fault w.width w.accepted v.sent) (Opens w bytes (Ok payload) (accepting w v.sent)) (λ why. Opens w bytes (Err why) w)
  comes = reported w bytes payload v.sent (window_fault w.width w.accepted v.sent) fault-there is-named is-sealed

pub sealed-opened : (v w : DatagramState) (payload : List ℕ) → AreParties v w → unsealed v.role v.one_way v.sent (length payload) ≡ None
    → MatchOption (window_fault w.width w.accepted v.sent)
    (Opens w (datagram v.state v.role v.sent payload) (Ok payload) (accepting w v.sent))
    (λ why. Opens w (datagram v.state v.role v.sent payload) (Err why) w)
unfolding bytes
sealed-opened v w payload p none = comes v w payload p (due v.role v.one_way v.sent (length payload) none)
