-- With the same psks and DH results the same bytes are the same conversation, from the first message on.
use Rattle.std.proofs.Common.{rules, ◌≡◌, ℕ, ◌+◌, List, ◌∷◌, ◌++◌, drop, count_by, refl, ap, sym, subst, ◌∙◌, inl, inr, []}
use Rattle.std.specs.Prelude.{Bool}
use Rattle.noise_duel.proofs.Common.{unwrap_or, Initiator, Responder, Token, E, S, Psk, is_psk, Plan, has_psk, pre_of, name_bytes, SymmetricState, ciphertext, ciphertext-same, Remote, token_bytes, after_token, after_tokens, after_payload, Party, Reader, Fit, Fits, known_after, psks_after, first_psk, tokens_at, start, Writer, Given, Gives, after_own, after_message, public_keys, HandshakeMessage, Exchanged, begun_as, dh_results, dh_results_from, pre_keys, none, wrote, took, PsksReport, heads, tails, cons-same, history_at_start, History, MixHash, and_then, state_of_history, history_of, history_after, history_with_ephemeral, history_with_premessage}
use Rattle.noise_duel.proofs.HashedTexts.{Alike}
use Rattle.noise_duel.proofs.HashedMessages.{AreMessages, AllAlike, passes-messages}
use Rattle.noise_duel.proofs.HashReports.{SameBytes, bytes-or, starts-back}
use Rattle.noise_duel.specs.HistoryStates.{start-state}

-- ---- psks

abbrev pub PskAt : List (List ℕ) → Token → List ℕ → Type 0
PskAt psks Psk x = x ≡ first_psk psks
PskAt psks _ x = Unit {0}

-- the psk tokens carry these psks in turn
abbrev pub PsksFit : List (List ℕ) → List Token → List (List ℕ) → Type 0
PsksFit psks [] xs = Unit {0}
PsksFit psks (t ∷ ts) [] = Unit {0}
PsksFit psks (t ∷ ts) (x ∷ xs) = PskAt psks t x × PsksFit (psks_after psks t) ts xs

abbrev pub UsePsks : Plan → ℕ → List (List ℕ) → List HandshakeMessage → Type 0
UsePsks p n psks [] = Unit {0}
UsePsks p n psks (m ∷ ms) =
    PsksFit psks (tokens_at p.messages n) m.carried × UsePsks p (n + 1) (drop (count_by is_psk (tokens_at p.messages n)) psks) ms

fits-psk : (v : Reader) (known : Remote) (psks : List (List ℕ)) (t : Token) (x : List ℕ) → Fits v known psks t x → PskAt psks t x
fits-psk v known psks Psk x h = h
fits-psk v known psks _ x h = tt

gives-psk : (w : Writer) (known : Remote) (psks : List (List ℕ)) (t : Token) (x : List ℕ) → Gives w known psks t x → PskAt psks t x
gives-psk w known psks Psk x h = h
gives-psk w known psks _ x h = tt

fit-psks : (v : Reader) (known : Remote) (psks : List (List ℕ)) (ts : List Token) (xs : List (List ℕ)) → Fit v known psks ts xs
    → PsksFit psks ts xs
fit-psks v known psks (t ∷ ts) (x ∷ xs) h = search (fits-psk, (fit-psks v (known_after known t x) (psks_after psks t) ts xs h.1))
fit-psks v known psks _ _ h = tt

given-psks : (w : Writer) (known : Remote) (psks : List (List ℕ)) (ts : List Token) (xs : List (List ℕ)) → Given w known psks ts xs
    → PsksFit psks ts xs
given-psks w known psks (t ∷ ts) (x ∷ xs) h = (gives-psk w known psks t x h.0, given-psks w known (psks_after psks t) ts xs h.1)
given-psks w known psks _ _ h = tt

pub passes-psks : (v w : Party) (ps : List HandshakeMessage) → Exchanged v ps w → UsePsks v.pattern v.passed v.psks ps
passes-psks v w [] (none _) = tt
passes-psks v w (p ∷ ps) (wrote _ _ _ _ here more) = search (given-psks, (passes-psks (after_own v p.carried p.payload) w ps more))
passes-psks v w (p ∷ ps) (took _ _ _ _ here more) = search (fit-psks, (passes-psks (after_message v p.carried p.payload) w ps more))

-- ---- forward along a message

module _ (has_psks : Bool) where
  token-on : (r : SymmetricState) (psks : List (List ℕ)) (t : Token) (ts : List Token) (x y : List ℕ) (xs ys others rest : List (List ℕ))
      → token_bytes r t x ≡ token_bytes r t y
      → PskAt psks t x → PskAt psks t y → dh_results (t ∷ ts) (x ∷ xs) ++ others ≡ dh_results (t ∷ ts) (y ∷ ys) ++ rest
      → (x ≡ y) × (dh_results ts xs ++ others ≡ dh_results ts ys ++ rest)
  token-on r psks E ts x y xs ys others rest e f g h = (e, h)
  token-on r psks S ts x y xs ys others rest e f g h = (ciphertext-same r x y e, h)
  token-on r psks Psk ts x y xs ys others rest e f g h = (f ∙ sym g, h)
  token-on r psks _ ts x y xs ys others rest e f g h = (heads x y _ _ h, tails x y _ _ h)

  front-on : (r : SymmetricState) (psks : List (List ℕ)) (ts : List Token) (xs ys others rest : List (List ℕ)) → Alike has_psks r r ts xs ys
      → PsksFit psks ts xs → PsksFit psks ts ys
      → dh_results ts xs ++ others ≡ dh_results ts ys ++ rest → (xs ≡ ys) × (others ≡ rest)
  front-on r psks [] [] [] others rest a f g h = (refl, h)
  front-on r psks (t ∷ ts) (x ∷ xs) (y ∷ ys) others rest a f g h =
      search (rules, token-on, (front-on (after_token has_psks r t x) (psks_after psks t) ts xs ys others rest))
  front-on r psks _ _ _ others rest a f g h = absurd a

pub message-same : (m q : HandshakeMessage) → m.message ≡ q.message → m.carried ≡ q.carried → m.payload ≡ q.payload → m ≡ q
message-same m q e f g = search rules

all-on : (p : Plan) (n : ℕ) (r : SymmetricState) (psks : List (List ℕ)) (ps qs : List HandshakeMessage) → AllAlike p n r r ps qs → AreMessages p n r ps
    → AreMessages p n r qs
    → UsePsks p n psks ps → UsePsks p n psks qs → dh_results_from p n ps ≡ dh_results_from p n qs → ps ≡ qs
all-on p n r psks [] [] a b c f g h = refl
all-on p n r psks (m ∷ ms) (q ∷ qs) a b c f g h =
    let ts : List Token = tokens_at p.messages n in
    let here = front-on (has_psk p) r psks ts m.carried q.carried (dh_results_from p (n + 1) ms) (dh_results_from p (n + 1) qs) a.0.0 f.0 g.0 h in
    let payload : m.payload ≡ q.payload =
    ciphertext-same (after_tokens (has_psk p) r ts m.carried) m.payload q.payload
    (a.0.1 ∙ ap (λ (zs : List (List ℕ)). ciphertext (after_tokens (has_psk p) r ts zs) q.payload) (sym here.0)) in
    let message : m.message ≡ q.message = search in
    let one : m ≡ q = message-same m q message here.0 payload in
    let after : after_payload (has_psk p) r ts m.carried m.payload ≡ after_payload (has_psk p) r ts q.carried q.payload = search in
    let later = all-on p (n + 1) (after_payload (has_psk p) r ts m.carried m.payload) (drop (count_by is_psk ts) psks) ms qs
    (subst (λ (s : SymmetricState). AllAlike p (n + 1) (after_payload (has_psk p) r ts m.carried m.payload) s ms qs) (sym after) a.1) b.1
    (subst (λ (s : SymmetricState). AreMessages p (n + 1) s qs) (sym after) c.1) f.1 g.1 here.1 in
    cons-same one later
all-on p n r psks _ _ a b c f g h = absurd a

-- ---- the start

pub pre-same : (has_psks : Bool) (k l : Remote) (ts : List Token) (r s : History) → r ≡ s → pre_keys k ts ≡ pre_keys l ts
    → history_with_premessage has_psks k ts r ≡ history_with_premessage has_psks l ts s
pre-same has_psks k l [] r s e f = e
pre-same has_psks k l (E ∷ ts) r s e f =
    let x : List ℕ = unwrap_or k.e [] in
    let y : List ℕ = unwrap_or l.e [] in
    let same : x ≡ y = heads x y (pre_keys k ts) (pre_keys l ts) f in
    pre-same has_psks k l ts (history_with_ephemeral has_psks r x) (history_with_ephemeral has_psks s y)
    (ap (λ (h : History). history_with_ephemeral has_psks h x) e ∙ ap (history_with_ephemeral has_psks s) same)
    (tails x y (pre_keys k ts) (pre_keys l ts) f)
pre-same has_psks k l (S ∷ ts) r s e f =
    let x : List ℕ = unwrap_or k.s [] in
    let y : List ℕ = unwrap_or l.s [] in
    let same : x ≡ y = heads x y (pre_keys k ts) (pre_keys l ts) f in
    pre-same has_psks k l ts (and_then r (MixHash x)) (and_then s (MixHash y))
    (ap (λ (h : History). and_then h (MixHash x)) e ∙ ap (λ (z : List ℕ). and_then s (MixHash z)) same) (tails x y (pre_keys k ts) (pre_keys l ts) f)
pre-same has_psks k l (_ ∷ ts) r s e f = pre-same has_psks k l ts r s e f

-- starts with one prologue and the same keys before are one
pub starts-one : (name : List ℕ) (p : Plan) (a b : List ℕ) (i j k l : Remote) → a ≡ b → pre_keys i (pre_of Initiator p) ≡ pre_keys k (pre_of Initiator p)
    → pre_keys j (pre_of Responder p) ≡ pre_keys l (pre_of Responder p) → history_at_start name p a i j ≡ history_at_start name p b k l
starts-one name p a b i j k l prologue first second =
    let r : History = and_then (record { name = name; entries = [] }) (MixHash a) in
    let s : History = and_then (record { name = name; entries = [] }) (MixHash b) in
    pre-same (has_psk p) j l (pre_of Responder p) (history_with_premessage (has_psk p) i (pre_of Initiator p) r)
    (history_with_premessage (has_psk p) k (pre_of Initiator p) s)
    (pre-same (has_psk p) i k (pre_of Initiator p) r s (ap (λ (z : List ℕ). and_then (record { name = name; entries = [] }) (MixHash z)) prologue) first)
    second

-- and the states that they lead to
pub states-one : (name : List ℕ) (p : Plan) (a b : List ℕ) (i j k l : Remote) → history_at_start name p a i j ≡ history_at_start name p b k l
    → start name p a i j ≡ start name p b k l
states-one name p a b i j k l e = sym (start-state name p a i j) ∙ ap state_of_history e ∙ start-state name p b k l

-- one start and the same messages make one history
pub one-history : (p : Plan) (r s : History) (ps qs : List HandshakeMessage) → r ≡ s → ps ≡ qs → history_after p 0 r ps ≡ history_after p 0 s qs
one-history p r s ps qs e f = ap (λ (h : History). history_after p 0 h ps) e ∙ ap (history_after p 0 s) f

pub psks-report : PsksReport
psks-report p a b ps qs v w left right count e psks computed =
    elim (bytes-or p a b ps qs v w left right count e) [ inl h ↦ inl (whole h) | inr c ↦ inr c ]
  where
    whole : SameBytes p a b ps qs v w left right count → (ps ≡ qs) × (history_of p Initiator a ps ≡ history_of p Responder b qs)
    whole h =
        let name : List ℕ = name_bytes (record { base = p.base; places = p.places }) in
        let r0 : SymmetricState = (begun_as p Initiator a).state in
        let s0 : SymmetricState = (begun_as p Responder b).state in
        let l = passes-messages (begun_as p Initiator a) v ps left in
        let m = passes-messages (begun_as p Responder b) w qs right in
        let back = starts-back name p a.prologue b.prologue (public_keys a.own) a.remote b.remote (public_keys b.own) h.start in
        let left0 : History = history_at_start name p a.prologue (public_keys a.own) a.remote in
        let right0 : History = history_at_start name p b.prologue b.remote (public_keys b.own) in
        let begun : left0 ≡ right0 =
        starts-one name p a.prologue b.prologue (public_keys a.own) a.remote b.remote (public_keys b.own) back.0 back.1 back.2 in
        let first : r0 ≡ s0 = states-one name p a.prologue b.prologue (public_keys a.own) a.remote b.remote (public_keys b.own) begun in
        let one : ps ≡ qs = all-on p 0 r0 a.psks ps qs
        (subst (λ (s : SymmetricState). AllAlike p 0 r0 s ps qs) (sym first) h.lines) l.lines
        (subst (λ (s : SymmetricState). AreMessages p 0 s qs) (sym first) m.lines)
        (passes-psks (begun_as p Initiator a) v ps left)
        (subst (λ (z : List (List ℕ)). UsePsks p 0 z qs) (sym psks) (passes-psks (begun_as p Responder b) w qs right)) computed in
        (one, one-history p left0 right0 ps qs begun one)
