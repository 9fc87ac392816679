-- The next message of a handshake: what its fields give a reader or a writer, and what they hold after it.
use Rattle.std.proofs.Common.{rules, ◌≡◌, ℕ, ◌+◌, ◌-◌, ◌<◌, ◌≤◌, ◌^◌, List, Bool, true, length, take, drop, sym, ap, subst, refl, ◌∙◌, arith, length-drop, drop-drop}
use Rattle.std.specs.Prelude.{is_some, not}
use Rattle.noise_handshake.proofs.Common.{None, Some, count_by, ◌&&◌, ◌==◌, list_all, Token, Initiator, is_psk, other, turn_from, Plan, has_psk, has_key, overhead_of, keyed, nonce_now, SymmetricState, MessageLayout, PlacedToken, Remote, HandshakeValue, HasPsks, is_turn, message_len_of, read_fault, write_fault, added_width, keyed_after_tokens, nonce_after_message, party_of, passed_places, tokens_at, held_in, IsKept, IsPskAfter, KnowsRemote, are_known, is_known, tokens_of, ArePlaced, LaysNext, Listening, Speaking, has_own}
use Rattle.noise_handshake.specs.declared.handshake.Handshake.TheInside.{Inside}
use Rattle.noise_handshake.proofs.Keeping.{key-after, sound-after}
use Rattle.noise_handshake.proofs.Knowing.{reading-known, writing-known}
use Rattle.noise_handshake.proofs.Lacked.{due-speaking, due-turn, due-within}
use Rattle.noise_handshake.proofs.Layouts.{length-tokens_of, places-laid, tokens-laid}
use Rattle.noise_handshake.proofs.Owned.{owned}
use Rattle.noise_handshake.proofs.Standing.{due, listening, listens, reads-turn}
use Rattle.noise_handshake.proofs.Parties.{items-from}
use Rattle.noise_handshake.proofs.Wrote.{speaking, writes-added, writes-due, writes-length, writes-short, writes-turn}
use Rattle.noise_keys.specs.Keys.{KeyPairs}

-- there is a message, of the other party
module _ {K : Type 0} (pairs : K → KeyPairs) (a : Inside K) (i : IsKept pairs a) (h : HandshakeValue K) (seen : held_in a ≡ h)
    (none : read_fault h ≡ None) where
  none-read : read_fault (held_in a) ≡ None
  none-read = ap (λ (z : HandshakeValue K). read_fault z) seen ∙ none

  pub reads-next : a.passed < length a.pattern.messages
  reads-next = due (held_in a) i.2.within none-read

  pub reads-theirs : turn_from Initiator a.passed ≡ other a.means.role
  reads-theirs = reads-turn (held_in a) none-read

-- or of this party
module _ {K : Type 0} (pairs : K → KeyPairs) (a : Inside K) (i : IsKept pairs a) (h : HandshakeValue K) (seen : held_in a ≡ h)
    (speaks : (not h.ended && not (h.passed == length h.pattern.messages) && is_turn h.role h.passed) ≡ true) where
  due-in : (not a.ended && not (a.passed == length a.pattern.messages) && is_turn a.means.role a.passed) ≡ true
  due-in = ap (λ (z : HandshakeValue K). not z.ended && not (z.passed == length z.pattern.messages) && is_turn z.role z.passed) seen ∙ speaks

  pub speaks-next : a.passed < length a.pattern.messages
  speaks-next = due-within (held_in a) i.2.within due-in

  pub speaks-ours : turn_from Initiator a.passed ≡ a.means.role
  speaks-ours = due-turn (held_in a) due-in

-- and of a payload of this length
module _ {K : Type 0} (pairs : K → KeyPairs) (a : Inside K) (i : IsKept pairs a) (h : HandshakeValue K) (seen : held_in a ≡ h)
    (len : ℕ) (none : write_fault h len ≡ None) where
  none-write : write_fault (held_in a) len ≡ None
  none-write = ap (λ (z : HandshakeValue K). write_fault z len) seen ∙ none

  pub writes-next : a.passed < length a.pattern.messages
  writes-next = writes-due pairs (held_in a) i.2 len none-write

  pub writes-ours : turn_from Initiator a.passed ≡ a.means.role
  writes-ours = writes-turn pairs (held_in a) i.2 len none-write

  pub writes-long : message_len_of h len ≡ Some (overhead_of a.pattern (a.passed + 1) + len)
  writes-long = ap (λ (z : HandshakeValue K). message_len_of z len) (sym seen) ∙ writes-length pairs (held_in a) i.2 len none-write

  module _ (placed : List PlacedToken) (d : placed ≡ a.next.tokens.items) (state : SymmetricState) (e : state ≡ a.state) where
    pub writes-wide : added_width a.means.has_psks (keyed state) (tokens_of placed) ≡ overhead_of a.pattern (a.passed + 1)
    writes-wide =
        ap (λ (z : SymmetricState). added_width a.means.has_psks (keyed z) (tokens_of placed)) e
        ∙ writes-added pairs (held_in a) i.2 len none-write a.means.has_psks (tokens_of placed) i.0
        (tokens-laid a.pattern a.passed a.next (i.4 writes-next) placed d)

    pub writes-room : (out : ℕ) → ((n : ℕ) → message_len_of h len ≡ Some n → n ≤ out)
        → added_width a.means.has_psks (keyed state) (tokens_of placed) + len ≤ out
    writes-room out room = subst (λ (k : ℕ). k + len ≤ out) (sym writes-wide) (room (overhead_of a.pattern (a.passed + 1) + len) writes-long)

    pub writes-most : added_width a.means.has_psks (keyed state) (tokens_of placed) + len ≤ 65535
    writes-most = subst (λ (k : ℕ). k + len ≤ 65535) (sym writes-wide) (writes-short pairs (held_in a) i.2 len none-write)

-- the tokens of the message, as they were placed
module _ {K : Type 0} (pairs : K → KeyPairs) (a : Inside K) (i : IsKept pairs a) (less : a.passed < length a.pattern.messages)
    (placed : List PlacedToken) (d : placed ≡ a.next.tokens.items) where
  pub tokens-next : tokens_of placed ≡ tokens_at a.pattern.messages a.passed
  tokens-next = tokens-laid a.pattern a.passed a.next (i.4 less) placed d

  pub places-next : (state : SymmetricState) → state ≡ a.state → ArePlaced a.means.has_psks (keyed state) 0 placed
  places-next state e =
      places-laid a.pattern a.passed a.next (i.4 less) placed d a.means.has_psks (keyed state) i.0 (ap (λ (z : SymmetricState). keyed z) e ∙ i.2.keyed)

  taken-next : a.next.psks ≡ count_by is_psk (tokens_of placed)
  taken-next = (i.4 less).psks ∙ ap (λ (ts : List Token). count_by is_psk ts) (sym tokens-next)

  -- there is a psk for each psk token
  module _ (h : HandshakeValue K) (seen : held_in a ≡ h) where
    pub psks-before : (k : ℕ) → count_by is_psk (take k (tokens_at h.pattern.messages h.passed)) ≤ length h.psks
        → (ds : List (List ℕ)) → ds ≡ a.psks.items
        → count_by is_psk (take k (tokens_of placed)) ≤ length (take (length ds - a.used) (drop a.used ds))
    psks-before k has ds e =
        let here : count_by is_psk (take k (tokens_at a.pattern.messages a.passed)) ≤ length (drop a.used a.psks.items) =
        subst (λ (z : HandshakeValue K). count_by is_psk (take k (tokens_at z.pattern.messages z.passed)) ≤ length z.psks) (sym seen) has in
        omega (arith, here, ap length (items-from ds a.psks.items a.used e), ap (λ (ts : List Token). count_by is_psk (take k ts)) tokens-next)

    -- which psk token lacks its psk, if one does
    pub lacks-next : (len k : ℕ) → len ≡ length a.psks.items → IsPskAfter (tokens_of placed) (len - a.used) k
        → IsPskAfter (tokens_at h.pattern.messages h.passed) (length h.psks) k
    lacks-next len k e at =
        let count : len - a.used ≡ length (drop a.used a.psks.items) = omega (arith, e, length-drop a.used a.psks.items) in
        subst (λ (z : HandshakeValue K). IsPskAfter (tokens_at z.pattern.messages z.passed) (length z.psks) k) seen
        (subst (λ (ts : List Token). IsPskAfter ts (length (drop a.used a.psks.items)) k) tokens-next
        (subst (λ (n : ℕ). IsPskAfter (tokens_of placed) n k) count at))

    pub has-next : (len : ℕ) → len ≡ length a.psks.items → count_by is_psk (tokens_of placed) ≤ len - a.used → HasPsks h
    has-next len e few =
        let count : len - a.used ≡ length (drop a.used a.psks.items) = omega (arith, e, length-drop a.used a.psks.items) in
        subst (λ (z : HandshakeValue K). count_by is_psk (tokens_at z.pattern.messages z.passed) ≤ length z.psks) seen
        (omega (arith, few, count, ap (count_by is_psk) tokens-next))

    module _ (has : HasPsks h) where
      enough-next : count_by is_psk (tokens_of placed) ≤ length (drop a.used a.psks.items)
      enough-next =
          let here : count_by is_psk (tokens_at a.pattern.messages a.passed) ≤ length (drop a.used a.psks.items) =
          subst (λ (z : HandshakeValue K). count_by is_psk (tokens_at z.pattern.messages z.passed) ≤ length z.psks) (sym seen) has in
          omega (arith, here, ap (count_by is_psk) tokens-next)

      pub psks-next : (ds : List (List ℕ)) → ds ≡ a.psks.items
          → count_by is_psk (tokens_of placed) ≤ length (take (length ds - a.used) (drop a.used ds))
      psks-next ds e = omega (arith, enough-next, ap length (items-from ds a.psks.items a.used e))

      pub used-within : a.used + a.next.psks ≤ length a.psks.items
      used-within = omega (arith, enough-next, length-drop a.used a.psks.items, taken-next, i.1)

  pub nonces-next : (state : SymmetricState) → state ≡ a.state → length placed ≤ 10
      → nonce_now state + length (tokens_of placed) < 2 ^ 64 - 1
  nonces-next state e few = search (rules, length-tokens_of)

  pub known-next : are_known a.means.role (is_some a.remote.e) (is_some a.remote.s) (tokens_of placed) ≡ true
  known-next = search (tokens-next, reading-known)

  pub known-ours : turn_from Initiator a.passed ≡ a.means.role
      → list_all (is_known a.means.role (is_some a.remote.e) (is_some a.remote.s)) (tokens_of placed) ≡ true
  known-ours turn = search (tokens-next, writing-known)

  pub own-ours : turn_from Initiator a.passed ≡ a.means.role → list_all (has_own (pairs a.means.keys).public) (tokens_of placed) ≡ true
  own-ours turn = search (tokens-next, owned)

  left-next : drop (a.used + a.next.psks) a.psks.items ≡ drop (count_by is_psk (tokens_of placed)) (drop a.used a.psks.items)
  left-next = search (taken-next, drop-drop)

  -- what the fields hold after it
  module _ (state new : SymmetricState) (e : state ≡ a.state)
      (key : keyed new ≡ keyed_after_tokens a.means.has_psks (keyed state) (tokens_of placed)) where
    key-in : keyed new ≡ keyed_after_tokens (has_psk a.pattern) (keyed a.state) (tokens_of placed)
    key-in = search

    pub key-next : (plan : Plan) → plan ≡ a.pattern → keyed new ≡ has_key plan (passed_places plan (a.passed + 1))
    key-next plan same =
        key-after pairs (held_in a) i.2 (tokens_of placed) tokens-next less new (a.passed + 1) refl key-in
        ∙ ap (λ (z : Plan). has_key z (passed_places z (a.passed + 1))) (sym same)

    module _ (counted : nonce_now new ≡ nonce_after_message a.means.has_psks (keyed state) (nonce_now state) (tokens_of placed))
        (few : length placed ≤ 10)
        (plan : Plan) (same : plan ≡ a.pattern) (laid : MessageLayout) (lays : LaysNext plan (a.passed + 1) laid)
        (h : HandshakeValue K) (seen : held_in a ≡ h) (has : HasPsks h) where
      counted-in : nonce_now new ≡ nonce_after_message (has_psk a.pattern) (keyed a.state) (nonce_now a.state) (tokens_of placed)
      counted-in =
          counted ∙ ap (λ (z : SymmetricState). nonce_after_message a.means.has_psks (keyed z) (nonce_now z) (tokens_of placed)) e
          ∙ ap (λ (b : Bool). nonce_after_message b (keyed a.state) (nonce_now a.state) (tokens_of placed)) i.0

      pub unchanged-next : (known : Remote)
          → KnowsRemote (held_in (record a { used = a.used + a.next.psks; passed = a.passed + 1; next = laid; state = new; remote = known }))
          → IsKept pairs (record a { used = a.used + a.next.psks; passed = a.passed + 1; next = laid; state = new; remote = known })
      unchanged-next known knows = (
        i.0,
        used-within h seen has,
        sound-after pairs (held_in a) i.2 (tokens_of placed) tokens-next less known new (drop (a.used + a.next.psks) a.psks.items)
            (a.passed + 1) refl left-next key-in (omega (arith, length-tokens_of placed, few)) counted-in,
        knows,
        subst (λ (z : Plan). LaysNext z (a.passed + 1) laid) same lays,
        i.5,
        i.6,
      )

  -- for the party of the handshake
  module _ (h : HandshakeValue K) (seen : held_in a ≡ h) where
    pub trial-next : (state : SymmetricState) → state ≡ a.state → state ≡ h.state
    trial-next state e = e ∙ ap (λ (z : HandshakeValue K). z.state) seen

    module _ (ds : List (List ℕ)) (f : ds ≡ a.psks.items) where
      abbrev left : List (List ℕ)
      left = take (length ds - a.used) (drop a.used ds)

      pub listening-next : read_fault h ≡ None
          → Listening (party_of pairs h) a.means.role a.means.has_psks (pairs a.means.keys).agree (take (length ds - a.used) (drop a.used ds)) a.remote (tokens_of placed)
      listening-next none =
          subst (λ (z : HandshakeValue K). Listening (party_of pairs z) a.means.role a.means.has_psks (pairs a.means.keys).agree left a.remote (tokens_of placed)) seen
          (listening pairs (held_in a) a.means.has_psks left (tokens_of placed)
          (listens pairs (held_in a) i.2.within (none-read pairs a i h seen none)) i.0 (items-from ds a.psks.items a.used f) tokens-next)

      pub due-next : (not h.ended && not (h.passed == length h.pattern.messages) && is_turn h.role h.passed) ≡ true
          → Speaking (party_of pairs h) a.means.role a.means.has_psks (pairs a.means.keys).public (pairs a.means.keys).agree (take (length ds - a.used) (drop a.used ds)) a.remote (tokens_of placed)
      due-next speaks =
          subst (λ (z : HandshakeValue K). Speaking (party_of pairs z) a.means.role a.means.has_psks (pairs a.means.keys).public (pairs a.means.keys).agree left a.remote (tokens_of placed)) seen
          (due-speaking (held_in a) pairs i.2.within (due-in pairs a i h seen speaks) a.means.has_psks left (tokens_of placed) i.0
          (items-from ds a.psks.items a.used f) tokens-next)

      pub speaking-next : (len : ℕ) → write_fault h len ≡ None
          → Speaking (party_of pairs h) a.means.role a.means.has_psks (pairs a.means.keys).public (pairs a.means.keys).agree (take (length ds - a.used) (drop a.used ds)) a.remote (tokens_of placed)
      speaking-next len none =
          subst (λ (z : HandshakeValue K). Speaking (party_of pairs z) a.means.role a.means.has_psks (pairs a.means.keys).public (pairs a.means.keys).agree left a.remote (tokens_of placed)) seen
          (speaking pairs (held_in a) i.2 len (none-write pairs a i h seen len none) a.means.has_psks left (tokens_of placed) i.0
          (items-from ds a.psks.items a.used f) tokens-next)
