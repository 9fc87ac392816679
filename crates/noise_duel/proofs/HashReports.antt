-- Equal hashes: all that can be seen of the conversation is the same, or two hashed texts clash.
use Rattle.std.proofs.Common.{rules, ◌≡◌, ℕ, ◌+◌, List, ◌∷◌, length, refl, ap, sym, subst, ◌∙◌, arith, inl, inr, ◌⊎◌, []}
use Rattle.std.specs.Prelude.{Bool, true, false}
use Rattle.noise_duel.proofs.Common.{is_some, unwrap_or, Role, Initiator, Responder, Token, E, S, Plan, has_psk, pre_of, name_bytes, SymmetricState, Remote, with_ephemeral, keyed_after, Party, tokens_at, with_premessage, start, public_keys, hashed, PartiesClash, HandshakeMessage, Exchanged, Start, begun_as, keys_before, clear_keys_from, pre_keys, VisiblyEqual, HashReports, heads, History, MixHash, and_then, state_of_history, history_after, history_after_payload, history_after_token, history_after_tokens, history_at_start, history_with_ephemeral, history_with_premessage}
use Rattle.noise_duel.specs.HistoryStates.{start-state}
use Rattle.noise_duel.proofs.Histories.{histories-alike}
use Rattle.noise_duel.proofs.HashedTexts.{pre-many, pre-back, token-keyed}
use Rattle.noise_duel.proofs.HashedMessages.{AllAlike, CarryEach, Reports, passes-messages, messages-carry, exchanged-has-history, all-many, all-back, messages-same, keys-same}
use Rattle.noise_state.specs.Symmetric.{mix_hash}

-- ---- the name stays

ephemeral-name : (psks : Bool) (r : History) (x : List ℕ) → (history_with_ephemeral psks r x).name ≡ r.name
ephemeral-name true r x = refl
ephemeral-name false r x = refl

token-name : (psks : Bool) (r : History) (t : Token) (x : List ℕ) → (history_after_token psks r t x).name ≡ r.name
token-name psks r E x = ephemeral-name psks r x
token-name psks r _ x = refl

front-name : (psks : Bool) (r : History) (ts : List Token) (xs : List (List ℕ)) → (history_after_tokens psks r ts xs).name ≡ r.name
front-name psks r (t ∷ ts) (x ∷ xs) = front-name psks (history_after_token psks r t x) ts xs ∙ token-name psks r t x
front-name psks r _ _ = refl

all-name : (p : Plan) (n : ℕ) (r : History) (ps : List HandshakeMessage) → (history_after p n r ps).name ≡ r.name
all-name p n r [] = refl
all-name p n r (m ∷ ms) = search (rules, front-name, (all-name p (n + 1) (history_after_payload (has_psk p) r (tokens_at p.messages n) m.carried m.payload) ms))

pre-name : (psks : Bool) (k : Remote) (ts : List Token) (r : History) → (history_with_premessage psks k ts r).name ≡ r.name
pre-name psks k [] r = refl
pre-name psks k (E ∷ ts) r = pre-name psks k ts (history_with_ephemeral psks r (unwrap_or k.e [])) ∙ ephemeral-name psks r (unwrap_or k.e [])
pre-name psks k (S ∷ ts) r = pre-name psks k ts (and_then r (MixHash (unwrap_or k.s [])))
pre-name psks k (_ ∷ ts) r = pre-name psks k ts r

start-name : (name : List ℕ) (p : Plan) (prologue : List ℕ) (i j : Remote) → (history_at_start name p prologue i j).name ≡ name
start-name name p prologue i j = search pre-name

-- ---- the key after the pre-messages

pre-keyed : (psks : Bool) (k l : Remote) (ts : List Token) (r s : SymmetricState) → is_some r.cipher.key ≡ is_some s.cipher.key
    → is_some ((with_premessage psks k ts r).cipher.key) ≡ is_some ((with_premessage psks l ts s).cipher.key)
pre-keyed psks k l [] r s e = e
pre-keyed psks k l (E ∷ ts) r s e =
    let x : List ℕ = unwrap_or k.e [] in
    let y : List ℕ = unwrap_or l.e [] in
    pre-keyed psks k l ts (with_ephemeral psks r x) (with_ephemeral psks s y)
    (token-keyed psks r E x ∙ ap (λ (b : Bool). keyed_after psks b E) e ∙ sym (token-keyed psks s E y))
pre-keyed psks k l (S ∷ ts) r s e = pre-keyed psks k l ts (mix_hash r (unwrap_or k.s [])) (mix_hash s (unwrap_or l.s [])) e
pre-keyed psks k l (_ ∷ ts) r s e = pre-keyed psks k l ts r s e

-- the two parties' start from the same hashed texts reports the prologue and the keys before
module _ (name : List ℕ) (p : Plan) (a b : List ℕ) (i j k l : Remote) where
  pub starts-many : length (hashed (history_at_start name p a i j)) ≡ length (hashed (history_at_start name p b k l))
  starts-many = search pre-many

  pub starts-keyed : is_some ((start name p a i j).cipher.key) ≡ is_some ((start name p b k l).cipher.key)
  starts-keyed = search pre-keyed

  pub starts-back : hashed (history_at_start name p a i j) ≡ hashed (history_at_start name p b k l)
      → (a ≡ b) × (pre_keys i (pre_of Initiator p) ≡ pre_keys k (pre_of Initiator p)) × (pre_keys j (pre_of Responder p) ≡ pre_keys l (pre_of Responder p))
  starts-back e =
      let r : History = and_then (record { name = name; entries = [] }) (MixHash a) in
      let s : History = and_then (record { name = name; entries = [] }) (MixHash b) in
      let later = pre-back (has_psk p) (history_with_premessage (has_psk p) i (pre_of Initiator p) r) (history_with_premessage (has_psk p) k (pre_of Initiator p) s) j l
      (pre_of Responder p) e in
      let here = pre-back (has_psk p) r s i k (pre_of Initiator p) later.0 in
      (heads a b [] [] here.0, here.1, later.1)

module _ (p : Plan) (a b : Start) (ps qs : List HandshakeMessage) (v w : Party)
    (left : Exchanged (begun_as p Initiator a) ps v) (right : Exchanged (begun_as p Responder b) qs w) (count : v.passed ≡ w.passed) where
  abbrev name : List ℕ
  name = name_bytes (record { base = p.base; places = p.places })

  abbrev r0 : SymmetricState
  r0 = (begun_as p Initiator a).state

  abbrev s0 : SymmetricState
  s0 = (begun_as p Responder b).state

  -- the histories that lead there
  abbrev left0 : History
  left0 = history_at_start name p a.prologue (public_keys a.own) a.remote

  abbrev right0 : History
  right0 = history_at_start name p b.prologue b.remote (public_keys b.own)

  reports-left : Reports (begun_as p Initiator a) v ps
  reports-left = passes-messages (begun_as p Initiator a) v ps left

  reports-right : Reports (begun_as p Responder b) w qs
  reports-right = passes-messages (begun_as p Responder b) w qs right

  pub same-count : length ps ≡ length qs
  same-count = omega (arith, reports-left.count, reports-right.count, count)

  each-left : CarryEach p 0 ps
  each-left = messages-carry p 0 r0 ps reports-left.lines

  each-right : CarryEach p 0 qs
  each-right = messages-carry p 0 s0 qs reports-right.lines

  many : length (hashed (history_after p 0 left0 ps)) ≡ length (hashed (history_after p 0 right0 qs))
  many = all-many p 0 left0 right0 ps qs same-count each-left each-right
      (starts-many name p a.prologue b.prologue (public_keys a.own) a.remote b.remote (public_keys b.own))

  named : (history_after p 0 left0 ps).name ≡ (history_after p 0 right0 qs).name
  named = search (all-name, start-name)

  -- all travelled as the same bytes
  pub record SameBytes : Type 0 where
    pub start : hashed left0 ≡ hashed right0
    pub lines : AllAlike p 0 r0 s0 ps qs

  back : hashed (history_after p 0 left0 ps) ≡ hashed (history_after p 0 right0 qs) → SameBytes
  back e =
      let h = all-back p 0 left0 right0 ps qs same-count each-left each-right e in
      record {
        start = h.0;
        lines =
            subst (λ (u : SymmetricState). AllAlike p 0 u s0 ps qs) (start-state name p a.prologue (public_keys a.own) a.remote)
            (subst (λ (u : SymmetricState). AllAlike p 0 (state_of_history left0) u ps qs)
            (start-state name p b.prologue b.remote (public_keys b.own)) h.1);
      }

  pub bytes-or : v.state.hash ≡ w.state.hash → SameBytes ⊎ PartiesClash p a b ps qs
  bytes-or e =
      let there = exchanged-has-history p Initiator a ps v left in
      let here = exchanged-has-history p Responder b qs w right in
      let same : (state_of_history (history_after p 0 left0 ps)).hash ≡ (state_of_history (history_after p 0 right0 qs)).hash =
      sym (ap (λ (u : SymmetricState). u.hash) there) ∙ e ∙ ap (λ (u : SymmetricState). u.hash) here in
      elim (histories-alike (history_after p 0 left0 ps) (history_after p 0 right0 qs) named many same) [
        | inl h ↦ inl (back h)
        | inr c ↦ inr c
      ]

  pub visibly_equal : SameBytes → VisiblyEqual p a b ps qs
  visibly_equal h =
      let s = starts-back name p a.prologue b.prologue (public_keys a.own) a.remote b.remote (public_keys b.own) h.start in
      record {
        prologue = s.0;
        before = both s.1 s.2;
        messages = messages-same p 0 r0 s0 ps qs reports-left.lines reports-right.lines h.lines;
        keys =
            keys-same p 0 (is_some r0.cipher.key) r0 s0 ps qs refl (sym keyed) reports-left.lines reports-right.lines h.lines
            ∙ ap (λ (k : Bool). clear_keys_from p 0 k qs) keyed;
      }
    where
      both : keys_before p Initiator a Initiator ≡ keys_before p Responder b Initiator
          → keys_before p Initiator a Responder ≡ keys_before p Responder b Responder
          → (party : Role) → keys_before p Initiator a party ≡ keys_before p Responder b party
      both e f Initiator = e
      both e f Responder = f

      keyed : is_some r0.cipher.key ≡ is_some s0.cipher.key
      keyed = starts-keyed name p a.prologue b.prologue (public_keys a.own) a.remote b.remote (public_keys b.own)

pub hash-reports : HashReports
hash-reports p a b ps qs v w left right count e =
    elim (bytes-or p a b ps qs v w left right count e) [
      | inl h ↦ inl (visibly_equal p a b ps qs v w left right count h)
      | inr c ↦ inr c
    ]
