-- The struct matches what the handshake stood for.
use Rattle.std.proofs.Common.{◌≡◌, ℕ, ◌+◌, ◌-◌, ◌++◌, ◌≤◌, List, length, drop, take, length-append, drop-drop, ap, sym, subst, ◌∙◌, arith, slice_range}
use Rattle.noise_c.proofs.Common.{drop-append_seam, count_by, SymmetricState, Remote, party_with, Plan, IsValid, HandshakeValue, message_len_of, with_later, IsLateWhole, Table, Party, Accepts, IsParty, after_message, after_own, Writes, NoiseHandshake, pairs_in, text_from_c, handshake_from_c, IsPatternOf, IsUsable, KeepsParty, WasRead, WasWritten}
use Rattle.std.proofs.lemmas.List.{drop-append-le, take-append-drop}
use Rattle.noise_names.specs.Tokens.{is_psk}
use Rattle.noise_handshake.specs.Calls.{HasRead, HasWritten}
use Rattle.noise_handshake.specs.HandshakeValue.{HasPsks, after_read, after_written, gone_on, tokens_due}
use Rattle.noise_handshake.specs.Matching.{party_of}
use Rattle.noise_handshake.specs.Opening.{IsOpenedOf, OpenedValue}
use Rattle.noise_c.specs.HandshakeStructs.{KeepsPsks, held_psks, psks_due}
use Rattle.noise_c.specs.declared.codes.numbers.TheConstants.{HANDSHAKE}

module _ (old new : NoiseHandshake) (h h2 : HandshakeValue Table) (p : Plan) (v : Party) (one : (q : Plan) → IsPatternOf (text_from_c old) q → q ≡ h.pattern) (same : h ≡ handshake_from_c h.pattern old)
    (stays : h2.pattern ≡ h.pattern) (name : text_from_c new ≡ text_from_c old) (stored : handshake_from_c h2.pattern new ≡ h2) (k : KeepsParty old p v) where
  -- the handshake that was opened matches the state
  pub opened : IsParty pairs_in (with_later h k.later) v
  opened = subst (λ (z : HandshakeValue Table). IsParty pairs_in (with_later z k.later) v) (ap (λ (q : Plan). handshake_from_c q old) (one p k.pattern) ∙ sym same) k.matches

  -- and what it became is stored in the struct
  pub keeps : (w : Party) → IsParty pairs_in (with_later h2 k.later) w → KeepsParty new p w
  keeps w s = record {
    pattern = subst (λ (z : List ℕ). IsPatternOf z p) (sym name) k.pattern;
    later = k.later;
    matches = subst (λ (z : HandshakeValue Table). IsParty pairs_in (with_later z k.later) w) (sym (ap (λ (q : Plan). handshake_from_c q new) (one p k.pattern ∙ sym stays) ∙ stored)) s;
  }

  module _ (xs : List (List ℕ)) (payload : List ℕ) (few : HasPsks h) where
    psks-with : drop (count_by is_psk (tokens_due h)) h.psks ++ k.later ≡ drop (count_by is_psk (tokens_due h)) (h.psks ++ k.later)
    psks-with = sym (drop-append-le (count_by is_psk (tokens_due h)) h.psks k.later few)

    is-after-read : h2 ≡ after_read h xs payload → IsParty pairs_in (with_later h2 k.later) (after_message v xs payload)
    is-after-read e =
        ap (λ (z : HandshakeValue Table). party_with pairs_in k.later z) e
        ∙ ap (λ (u : List (List ℕ)). record (after_message (party_with pairs_in k.later h) xs payload) { psks = u }) psks-with
        ∙ ap (λ (z : Party). after_message z xs payload) opened

    is-after-written : h2 ≡ after_written h xs payload → IsParty pairs_in (with_later h2 k.later) (after_own v xs payload)
    is-after-written e =
        ap (λ (z : HandshakeValue Table). party_with pairs_in k.later z) e
        ∙ ap (λ (u : List (List ℕ)). record (after_own (party_with pairs_in k.later h) xs payload) { psks = u }) psks-with
        ∙ ap (λ (z : Party). after_own z xs payload) opened

  pub was-read : (message new_message : List ℕ) (start end : ℕ) → start ≤ end
      → HasRead (party_with pairs_in k.later h) h message (slice_range new_message start end) h2
      → WasRead p v message (slice_range new_message start (start + (end - start))) new
  was-read message new_message start end r q =
      let payload = slice_range new_message start end in
      let xs = q.1.0 in
      let n : end ≡ start + (end - start) = omega (arith, r) in
      subst (λ (z : ℕ). WasRead p v message (slice_range new_message start z) new) n (record {
        carried = xs;
        accepts = subst (λ (z : Party). Accepts z message xs payload) opened q.1.1;
        keeps = keeps (after_message v xs payload) (is-after-read xs payload q.0 q.1.2);
      })

  pub was-written : (payload message : List ℕ) → HasWritten (party_with pairs_in k.later h) h payload message h2 → WasWritten p v payload message new
  was-written payload message q = record {
    carried = q.1.0;
    writes = subst (λ (z : Party). Writes z payload q.1.0 message) opened q.1.1;
    keeps = keeps (after_own v q.1.0 payload) (is-after-written q.1.0 payload q.0 q.1.2);
  }

-- a handshake that was opened matches what the struct matches
pub matches-for : (old : NoiseHandshake) (h : HandshakeValue Table) (p : Plan) (v : Party) → ((q : Plan) → IsPatternOf (text_from_c old) q → q ≡ h.pattern) → h ≡ handshake_from_c h.pattern old → (k : KeepsParty old p v)
    → IsParty pairs_in (with_later h k.later) v
matches-for old h p v one same k = subst (λ (z : HandshakeValue Table). IsParty pairs_in (with_later z k.later) v) (ap (λ (q : Plan). handshake_from_c q old) (one p k.pattern) ∙ sym same) k.matches

-- and so does what it leaves
pub opens-with : (h : HandshakeValue Table) (later : List (List ℕ)) (o : OpenedValue) (v : Party) → party_with pairs_in later h ≡ v
    → IsOpenedOf o (party_of pairs_in h) → IsOpenedOf o v
opens-with h later o v s p =
    subst (λ (z : Party). IsOpenedOf o z) s (record {
      going = p.going;
      whole = p.whole;
      role = p.role;
      one_way = p.one_way;
      hash = p.hash;
      remote_static = p.remote_static;
      initiator = p.initiator;
      responder = p.responder;
      initiator_nonce = p.initiator_nonce;
      responder_nonce = p.responder_nonce;
    })

-- how long its message is, if one is due
pub length-for : (old : NoiseHandshake) (h : HandshakeValue Table) (p : Plan) (payload : ℕ) → ((q : Plan) → IsPatternOf (text_from_c old) q → q ≡ h.pattern) → h ≡ handshake_from_c h.pattern old
    → IsPatternOf (text_from_c old) p → message_len_of (handshake_from_c p old) payload ≡ message_len_of h payload
length-for old h p payload one same named =
    ap (λ (z : HandshakeValue Table). message_len_of z payload) (ap (λ (q : Plan). handshake_from_c q old) (one p named) ∙ sym same)

-- a struct that holds a handshake is usable
pub usable-stored : (new : NoiseHandshake) (h : HandshakeValue Table) → new.mark ≡ HANDSHAKE → new.text_len ≤ 416 → new.answer_count ≤ 8 → new.psk_count ≤ 9
    → IsPatternOf (text_from_c new) h.pattern → IsValid h.pattern → handshake_from_c h.pattern new ≡ h → IsLateWhole pairs_in h → IsUsable new
usable-stored new h m t a n named valid same whole = record {
  mark = m;
  text = t;
  answers = a;
  psks = n;
  pattern = h.pattern;
  named = named;
  valid = valid;
  whole = subst (λ (z : HandshakeValue Table). IsLateWhole pairs_in z) (sym same) whole;
}

-- the same of what a usable one becomes
pub usable-after : (old new : NoiseHandshake) (h h2 : HandshakeValue Table) → IsUsable old → new.mark ≡ old.mark → new.text_len ≡ old.text_len → new.answer_count ≡ old.answer_count
    → new.psk_count ≤ 9 → text_from_c new ≡ text_from_c old → IsPatternOf (text_from_c old) h.pattern → h2.pattern ≡ h.pattern → IsValid h2.pattern
    → handshake_from_c h2.pattern new ≡ h2 → IsLateWhole pairs_in h2 → IsUsable new
usable-after old new h h2 u m t a n name named stays valid same whole =
    usable-stored new h2 (m ∙ u.mark) (omega (arith, t, u.text)) (omega (arith, a, u.answers)) n
    (subst (λ (z : List ℕ). IsPatternOf z h2.pattern) (sym name) (subst (λ (q : Plan). IsPatternOf (text_from_c old) q) (sym stays) named)) valid same whole

-- and is what a call has left
pub usable-ended : (old : NoiseHandshake) → IsUsable old → IsUsable (record old { ended = 1 })
usable-ended old u = record {
  mark = u.mark;
  text = u.text;
  answers = u.answers;
  psks = u.psks;
  pattern = u.pattern;
  named = u.named;
  valid = u.valid;
  whole = (
    u.whole.0,
    record {
      within = u.whole.1.within;
      psks = u.whole.1.psks;
      own_e = u.whole.1.own_e;
      own_s = u.whole.1.own_s;
      remote_e = u.whole.1.remote_e;
      remote_s = u.whole.1.remote_s;
      key = u.whole.1.key;
      nonce = u.whole.1.nonce;
    },
  );
}

-- the psks that are left after a message stand at the same end
psks-after : (old : NoiseHandshake) (h h2 : HandshakeValue Table) (taken : List (List ℕ)) → old.psk_count ≤ 9 → length h.psks ≡ old.psk_count
    → h ≡ handshake_from_c h.pattern old → h.psks ≡ taken ++ h2.psks → h2.psks ≡ drop (9 - length h2.psks) old.psks
psks-after old h h2 taken few count same after =
    let c : ℕ = old.psk_count in
    let n : length h.psks ≡ length taken + length h2.psks = ap length after ∙ length-append taken h2.psks in
    let i : 9 - c + length taken ≡ 9 - length h2.psks = omega (arith, few, count, n) in
    sym (drop-append_seam taken h2.psks) ∙ ap (drop (length taken)) (sym after ∙ ap (λ (z : HandshakeValue Table). z.psks) same)
    ∙ drop-drop (length taken) (9 - c) old.psks ∙ ap (λ (k : ℕ). drop k old.psks) i

-- the psks that a message took, and the others
psks-taken : (h h2 : HandshakeValue Table) (state : SymmetricState) (remote : Remote) → h2 ≡ gone_on h state remote
    → h.psks ≡ take (count_by is_psk (tokens_due h)) h.psks ++ h2.psks
psks-taken h h2 state remote e =
    let n : ℕ = count_by is_psk (tokens_due h) in
    sym (take-append-drop n h.psks) ∙ ap (λ (z : HandshakeValue Table). take n h.psks ++ z.psks) (sym e)

-- the same by the slice that lends them
pub psks-left : (old : NoiseHandshake) (h h2 : HandshakeValue Table) (state : SymmetricState) (remote : Remote) (left : List (List ℕ)) → old.psk_count ≤ 9
    → length h.psks ≡ old.psk_count → h ≡ handshake_from_c h.pattern old → h2 ≡ gone_on h state remote → left ≡ h2.psks
    → h2.psks ≡ drop (9 - length left) old.psks
psks-left old h h2 state remote left few count same after e =
    psks-after old h h2 _ few count same (psks-taken h h2 state remote after)
    ∙ ap (λ (z : List (List ℕ)). drop (9 - length z) old.psks) (sym e)

-- a message leaves all psks but those of its own tokens
pub keeps-psks : (old new : NoiseHandshake) (h h2 : HandshakeValue Table) (state : SymmetricState) (remote : Remote)
    → ((q : Plan) → IsPatternOf (text_from_c old) q → q ≡ h.pattern) → h ≡ handshake_from_c h.pattern old
    → HasPsks h → h2 ≡ gone_on h state remote → handshake_from_c h2.pattern new ≡ h2 → KeepsPsks old new
keeps-psks old new h h2 state remote one same few after stored p named = (
  subst (λ (q : Plan). psks_due q old ≤ length (held_psks old)) (sym (one p named))
      (subst (λ (z : HandshakeValue Table). count_by is_psk (tokens_due z) ≤ length z.psks) same few),
  ap (λ (z : HandshakeValue Table). z.psks) stored
      ∙ ap (λ (z : HandshakeValue Table). z.psks) after
      ∙ ap (λ (z : HandshakeValue Table). drop (count_by is_psk (tokens_due z)) z.psks) same
      ∙ ap (λ (q : Plan). drop (psks_due q old) (held_psks old)) (sym (one p named)),
)
