-- Conversations that are the same as far as they can be seen, with the same psks and DH results, are one.
use Rattle.std.proofs.Common.{rules, ◌≡◌, ℕ, ◌+◌, List, ◌∷◌, ◌++◌, length, drop, count_by, refl, ap, sym, subst, ◌∙◌, append_assoc, []}
use Rattle.std.specs.Prelude.{Bool, if◌then◌else◌}
use Rattle.noise_duel.proofs.Common.{is_some, Initiator, Responder, Token, E, S, Psk, is_psk, Plan, has_psk, name_bytes, SymmetricState, ciphertext, length-ciphertext, ciphertext-same, token_bytes, after_token, before_payload, after_tokens, after_payload, Carry, Carries, Party, psks_after, tokens_at, after_own, after_message, public_keys, LawsBelow, HandshakeMessage, Exchanged, begun_as, dh_results, dh_results_from, messages_of, none, wrote, took, VisiblyEqualIsOne, heads, tails, split-apart, cons-same, History, history_at_start}
use Rattle.noise_duel.proofs.HashedMessages.{AreMessages, passes-messages}
use Rattle.noise_duel.proofs.Forward.{PskAt, PsksFit, UsePsks, passes-psks, message-same, one-history, starts-one, states-one}

-- each message carries keys of 32 bytes
abbrev pub AllCarry : Plan → ℕ → List HandshakeMessage → Type 0
AllCarry p n [] = Unit {0}
AllCarry p n (m ∷ ms) = Carry (tokens_at p.messages n) m.carried × AllCarry p (n + 1) ms

pub passes-carry : LawsBelow → (v w : Party) (ps : List HandshakeMessage) → Exchanged v ps w → AllCarry v.pattern v.passed ps
passes-carry laws v w [] (none _) = tt
passes-carry laws v w (p ∷ ps) (wrote _ _ _ _ here more) = search (rules, (passes-carry laws (after_own v p.carried p.payload) w ps more))
passes-carry laws v w (p ∷ ps) (took _ _ _ _ here more) = search (rules, (passes-carry laws (after_message v p.carried p.payload) w ps more))

token-equal : (r : SymmetricState) (psks : List (List ℕ)) (t : Token) (ts : List Token) (x y p q : List ℕ) (xs ys others rest : List (List ℕ)) → Carries t x
    → Carries t y
    → PskAt psks t x → PskAt psks t y → dh_results (t ∷ ts) (x ∷ xs) ++ others ≡ dh_results (t ∷ ts) (y ∷ ys) ++ rest
    → token_bytes r t x ++ p ≡ token_bytes r t y ++ q → (x ≡ y) × (p ≡ q) × (dh_results ts xs ++ others ≡ dh_results ts ys ++ rest)
token-equal r psks E ts x y p q xs ys others rest c d f g h e = let z = split-apart x y p q (c ∙ sym d) e in (z.0, z.1, h)
token-equal r psks S ts x y p q xs ys others rest c d f g h e =
    let n : length (ciphertext r x) ≡ length (ciphertext r y) =
    length-ciphertext r x ∙ ap (λ (k : ℕ). if is_some r.cipher.key then k + 16 else k) (c ∙ sym d) ∙ sym (length-ciphertext r y) in
    let z = split-apart (ciphertext r x) (ciphertext r y) p q n e in
    (ciphertext-same r x y z.0, z.1, h)
token-equal r psks Psk ts x y p q xs ys others rest c d f g h e = (f ∙ sym g, e, h)
token-equal r psks _ ts x y p q xs ys others rest c d f g h e = (heads x y _ _ h, e, tails x y _ _ h)

front-equal : (has_psks : Bool) (r : SymmetricState) (psks : List (List ℕ)) (ts : List Token) (xs ys : List (List ℕ)) (p q : List ℕ) (others rest : List (List ℕ))
    → Carry ts xs → Carry ts ys
    → PsksFit psks ts xs → PsksFit psks ts ys → dh_results ts xs ++ others ≡ dh_results ts ys ++ rest
    → before_payload has_psks r ts xs ++ p ≡ before_payload has_psks r ts ys ++ q → (xs ≡ ys) × (p ≡ q) × (others ≡ rest)
front-equal has_psks r psks [] [] [] p q others rest c d f g h e = (refl, e, h)
front-equal has_psks r psks [] (x ∷ xs) ys p q others rest c d f g h e = absurd c
front-equal has_psks r psks (t ∷ ts) [] ys p q others rest c d f g h e = absurd c
front-equal has_psks r psks (t ∷ ts) (x ∷ xs) (y ∷ ys) p q others rest c d f g h e =
    let a : List ℕ = before_payload has_psks (after_token has_psks r t x) ts xs in
    let b : List ℕ = before_payload has_psks (after_token has_psks r t y) ts ys in
    let here = token-equal r psks t ts x y (a ++ p) (b ++ q) xs ys others rest c.0 d.0 f.0 g.0 h
    (sym (append_assoc (token_bytes r t x) a p) ∙ e ∙ append_assoc (token_bytes r t y) b q) in
    let later = front-equal has_psks (after_token has_psks r t x) (psks_after psks t) ts xs ys p q others rest c.1 d.1 f.1 g.1 here.2
    (here.1 ∙ ap (λ (z : List ℕ). before_payload has_psks (after_token has_psks r t z) ts ys ++ q) (sym here.0)) in
    (cons-same here.0 later.0, later.1, later.2)
front-equal has_psks r psks _ _ _ p q others rest c d f g h e = absurd d

all-equal : (p : Plan) (n : ℕ) (r : SymmetricState) (psks : List (List ℕ)) (ps qs : List HandshakeMessage) → messages_of ps ≡ messages_of qs → AllCarry p n ps
    → AllCarry p n qs
    → AreMessages p n r ps → AreMessages p n r qs → UsePsks p n psks ps → UsePsks p n psks qs → dh_results_from p n ps ≡ dh_results_from p n qs → ps ≡ qs
all-equal p n r psks [] [] a k l b c f g h = refl
all-equal p n r psks (m ∷ ms) (q ∷ qs) a k l b c f g h =
    let ts : List Token = tokens_at p.messages n in
    let bytes : m.message ≡ q.message = heads m.message q.message (messages_of ms) (messages_of qs) a in
    let here = front-equal (has_psk p) r psks ts m.carried q.carried (ciphertext (after_tokens (has_psk p) r ts m.carried) m.payload)
    (ciphertext (after_tokens (has_psk p) r ts q.carried) q.payload)
    (dh_results_from p (n + 1) ms) (dh_results_from p (n + 1) qs) k.0 l.0 f.0 g.0 h (sym b.0.1 ∙ bytes ∙ c.0.1) in
    let payload : m.payload ≡ q.payload =
    ciphertext-same (after_tokens (has_psk p) r ts m.carried) m.payload q.payload
    (here.1 ∙ ap (λ (zs : List (List ℕ)). ciphertext (after_tokens (has_psk p) r ts zs) q.payload) (sym here.0)) in
    let one : m ≡ q = message-same m q bytes here.0 payload in
    let after : after_payload (has_psk p) r ts m.carried m.payload ≡ after_payload (has_psk p) r ts q.carried q.payload = search in
    cons-same one
    (all-equal p (n + 1) (after_payload (has_psk p) r ts m.carried m.payload) (drop (count_by is_psk ts) psks) ms qs
    (tails m.message q.message (messages_of ms) (messages_of qs) a) k.1 l.1 b.1
    (subst (λ (s : SymmetricState). AreMessages p (n + 1) s qs) (sym after) c.1) f.1 g.1 here.2)
all-equal p n r psks _ _ a k l b c f g h = cc

pub visibly-equal-is-one : LawsBelow → VisiblyEqualIsOne
visibly-equal-is-one laws p a b ps qs v w left right prologue before messages psks computed =
    let name : List ℕ = name_bytes (record { base = p.base; places = p.places }) in
    let r0 : SymmetricState = (begun_as p Initiator a).state in
    let s0 : SymmetricState = (begun_as p Responder b).state in
    let left0 : History = history_at_start name p a.prologue (public_keys a.own) a.remote in
    let right0 : History = history_at_start name p b.prologue b.remote (public_keys b.own) in
    let begun : left0 ≡ right0 =
    starts-one name p a.prologue b.prologue (public_keys a.own) a.remote b.remote (public_keys b.own) prologue (before Initiator) (before Responder) in
    let first : r0 ≡ s0 = states-one name p a.prologue b.prologue (public_keys a.own) a.remote b.remote (public_keys b.own) begun in
    let l = passes-messages (begun_as p Initiator a) v ps left in
    let m = passes-messages (begun_as p Responder b) w qs right in
    let one : ps ≡ qs = all-equal p 0 r0 a.psks ps qs messages
    (passes-carry laws (begun_as p Initiator a) v ps left) (passes-carry laws (begun_as p Responder b) w qs right) l.lines
    (subst (λ (z : SymmetricState). AreMessages p 0 z qs) (sym first) m.lines)
    (passes-psks (begun_as p Initiator a) v ps left)
    (subst (λ (z : List (List ℕ)). UsePsks p 0 z qs) (sym psks) (passes-psks (begun_as p Responder b) w qs right)) computed in
    (one, one-history p left0 right0 ps qs begun one)
