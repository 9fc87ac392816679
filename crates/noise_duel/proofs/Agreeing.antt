-- Keys that agree give the same DH results, token by token.
use Rattle.std.proofs.Common.{rules, ◌≡◌, ℕ, ◌+◌, List, ◌∷◌, drop, count_by, refl, ap, sym, subst, ◌∙◌, []}
use Rattle.std.specs.Prelude.{Bool, true, false, Option, Some}
use Rattle.noise_duel.proofs.Common.{not, Role, Initiator, Responder, Token, E, S, Ee, Es, Se, Ss, Psk, is_psk, same_role, turn_from, other, Plan, has_psk, SymmetricState, ciphertext, ciphertext-same, Own, Ephemeral, Static, Remote, token_bytes, after_token, after_tokens, after_payload, Party, Reader, Fit, Fits, reader, known_after, remote_after, psks_after, tokens_at, tokens_now, dh_result_of, own_at, remote_at, Writer, Given, Gives, after_own, after_message, HandshakeMessage, Exchanged, Start, none, wrote, took, KeysAgree, Knows, same_role-other, cons-same}
use Rattle.noise_duel.proofs.HashedTexts.{Alike}
use Rattle.noise_duel.proofs.HashedMessages.{AreMessages, AllAlike}
use Rattle.noise_duel.proofs.Forward.{PskAt, PsksFit, UsePsks, message-same}

-- ---- what a party's texts are, whether it wrote them or not

abbrev pub IsOwnIf : Bool → Option (List ℕ) → List ℕ → Type 0
IsOwnIf true key x = key ≡ Some x
IsOwnIf false key x = Unit {0}

-- what a token of a message carries; `mine`: the party wrote it
abbrev pub UsesAt : Bool → Role → (Own → Option (List ℕ)) → (Own → List ℕ → Option (List ℕ)) → Remote → Token → List ℕ → Type 0
UsesAt mine role own agree known E x = IsOwnIf mine (own Ephemeral) x
UsesAt mine role own agree known S x = IsOwnIf mine (own Static) x
UsesAt mine role own agree known Psk x = Unit {0}
UsesAt mine role own agree known dh x = dh_result_of agree (own_at role dh) (remote_at role known dh) ≡ Some x

abbrev pub known_next : Bool → Remote → Token → List ℕ → Remote
known_next true known t x = known
known_next false known t x = known_after known t x

abbrev pub Uses : Bool → Role → (Own → Option (List ℕ)) → (Own → List ℕ → Option (List ℕ)) → Remote → List Token → List (List ℕ) → Type 0
Uses mine role own agree known [] xs = Unit {0}
Uses mine role own agree known (t ∷ ts) [] = Unit {0}
Uses mine role own agree known (t ∷ ts) (x ∷ xs) = UsesAt mine role own agree known t x × Uses mine role own agree (known_next mine known t x) ts xs

abbrev pub known_after_all : Bool → Remote → List Token → List (List ℕ) → Remote
known_after_all true known ts xs = known
known_after_all false known ts xs = remote_after known ts xs

abbrev pub writes_now : Role → ℕ → Bool
writes_now role n = same_role (turn_from Initiator n) role

abbrev pub UsesAll : Plan → Role → (Own → Option (List ℕ)) → (Own → List ℕ → Option (List ℕ)) → ℕ → Remote → List HandshakeMessage → Type 0
UsesAll p role own agree n known [] = Unit {0}
UsesAll p role own agree n known (m ∷ ms) =
    Uses (writes_now role n) role own agree known (tokens_at p.messages n) m.carried
    × UsesAll p role own agree (n + 1) (known_after_all (writes_now role n) known (tokens_at p.messages n) m.carried) ms

gives-uses : (w : Writer) (known : Remote) (psks : List (List ℕ)) (t : Token) (x : List ℕ) → Gives w known psks t x
    → UsesAt true w.role w.own w.agree known t x
gives-uses w known psks E x h = h.0
gives-uses w known psks S x h = h.0
gives-uses w known psks Psk x h = tt
gives-uses w known psks _ x h = h

fits-uses : (v : Reader) (own : Own → Option (List ℕ)) (known : Remote) (psks : List (List ℕ)) (t : Token) (x : List ℕ) → Fits v known psks t x
    → UsesAt false v.role own v.agree known t x
fits-uses v own known psks E x h = tt
fits-uses v own known psks S x h = tt
fits-uses v own known psks Psk x h = tt
fits-uses v own known psks _ x h = h

given-uses : (w : Writer) (known : Remote) (psks : List (List ℕ)) (ts : List Token) (xs : List (List ℕ)) → Given w known psks ts xs
    → Uses true w.role w.own w.agree known ts xs
given-uses w known psks (t ∷ ts) (x ∷ xs) h = (gives-uses w known psks t x h.0, given-uses w known (psks_after psks t) ts xs h.1)
given-uses w known psks _ _ h = tt

fit-uses : (v : Reader) (own : Own → Option (List ℕ)) (known : Remote) (psks : List (List ℕ)) (ts : List Token) (xs : List (List ℕ))
    → Fit v known psks ts xs → Uses false v.role own v.agree known ts xs
fit-uses v own known psks (t ∷ ts) (x ∷ xs) h = search (fits-uses, (fit-uses v own (known_after known t x) (psks_after psks t) ts xs h.1))
fit-uses v own known psks _ _ h = tt

pub passes-uses : (v w : Party) (ps : List HandshakeMessage) → Exchanged v ps w → UsesAll v.pattern v.role v.own v.agree v.passed v.remote ps
passes-uses v w [] (none _) = tt
passes-uses v w (p ∷ ps) (wrote _ _ _ _ here more) = search (rules, given-uses, (passes-uses (after_own v p.carried p.payload) w ps more))
passes-uses v w (p ∷ ps) (took _ _ _ _ here more) =
    let mine : writes_now v.role v.passed ≡ false = ap (λ (r : Role). same_role r v.role) here.listens.turn ∙ same_role-other v.role in
    subst (λ (b : Bool). Uses b v.role v.own v.agree v.remote (tokens_now v) p.carried
    × UsesAll v.pattern v.role v.own v.agree (v.passed + 1) (known_after_all b v.remote (tokens_now v) p.carried) ps) (sym mine)
    (fit-uses (reader v) v.own v.remote v.psks (tokens_now v) p.carried here.reads.fit, passes-uses (after_message v p.carried p.payload) w ps more)

-- ---- two parties

-- the writer's own key
abbrev pub IsOwn : (Own → Option (List ℕ)) → Token → List ℕ → Type 0
IsOwn own E x = own Ephemeral ≡ Some x
IsOwn own S x = own Static ≡ Some x
IsOwn own _ x = Unit {0}

pub is-own : (role : Role) (own : Own → Option (List ℕ)) (agree : Own → List ℕ → Option (List ℕ)) (known : Remote) (t : Token) (x : List ℕ)
    → UsesAt true role own agree known t x → IsOwn own t x
is-own role own agree known E x u = u
is-own role own agree known S x u = u
is-own role own agree known _ x u = tt

-- what the reader of a token comes to know is right
pub learns : (known : Remote) (own : Own → Option (List ℕ)) (t : Token) (x y : List ℕ) → Knows known own → x ≡ y → IsOwn own t x
    → Knows (known_after known t y) own
learns known own E x y f e u = record { e = λ k g. u ∙ ap Some e ∙ g; s = f.s }
learns known own S x y f e u = record { e = f.e; s = λ k g. u ∙ ap Some e ∙ g }
learns known own _ x y f e u = f

pub turns-apart : (r : Role) → same_role r Responder ≡ not (same_role r Initiator)
turns-apart Initiator = refl
turns-apart Responder = refl

module _ (a b : Start) (agrees : KeysAgree a b) where
  dh-same : (x y : Own) (known other : Option (List ℕ)) (s t : List ℕ) → ((k : List ℕ) → known ≡ Some k → b.own y ≡ Some k)
      → ((k : List ℕ) → other ≡ Some k → a.own x ≡ Some k)
      → dh_result_of a.agree x known ≡ Some s → dh_result_of b.agree y other ≡ Some t → s ≡ t
  dh-same x y (Some k) (Some l) s t f g h i = agrees x y l k s t (g l refl) (f k refl) h i
  dh-same x y _ _ s t f g h i = cc

  module _ (has_psks : Bool) where
    text-same : (mine : Bool) (ka kb : Remote) (psks : List (List ℕ)) (r : SymmetricState) (t : Token) (x y : List ℕ) → Knows ka b.own → Knows kb a.own
        → UsesAt mine Initiator a.own a.agree ka t x → UsesAt (not mine) Responder b.own b.agree kb t y → PskAt psks t x → PskAt psks t y
        → token_bytes r t x ≡ token_bytes r t y → x ≡ y
    text-same mine ka kb psks r E x y f g u w m n e = e
    text-same mine ka kb psks r S x y f g u w m n e = ciphertext-same r x y e
    text-same mine ka kb psks r Psk x y f g u w m n e = m ∙ sym n
    text-same mine ka kb psks r Ee x y f g u w m n e = dh-same Ephemeral Ephemeral ka.e kb.e x y f.e g.e u w
    text-same mine ka kb psks r Es x y f g u w m n e = dh-same Ephemeral Static ka.s kb.e x y f.s g.e u w
    text-same mine ka kb psks r Se x y f g u w m n e = dh-same Static Ephemeral ka.e kb.s x y f.e g.s u w
    text-same mine ka kb psks r Ss x y f g u w m n e = dh-same Static Static ka.s kb.s x y f.s g.s u w

    -- what each of them knows after a token
    knows-token : (mine : Bool) (ka kb : Remote) (t : Token) (x y : List ℕ) → Knows ka b.own → Knows kb a.own → x ≡ y
        → UsesAt mine Initiator a.own a.agree ka t x → UsesAt (not mine) Responder b.own b.agree kb t y
        → Knows (known_next mine ka t x) b.own × Knows (known_next (not mine) kb t y) a.own
    knows-token true ka kb t x y f g e u w = (f, learns kb a.own t x y g e (is-own Initiator a.own a.agree ka t x u))
    knows-token false ka kb t x y f g e u w = (learns ka b.own t y x f (sym e) (is-own Responder b.own b.agree kb t y w), g)

    record Same (mine : Bool) (ka kb : Remote) (ts : List Token) (xs ys : List (List ℕ)) : Type 0 where
      texts : xs ≡ ys
      left : Knows (known_after_all mine ka ts xs) b.own
      right : Knows (known_after_all (not mine) kb ts ys) a.own

    -- after one token more
    wider : (mine : Bool) (ka kb : Remote) (t : Token) (ts : List Token) (x y : List ℕ) (xs ys : List (List ℕ)) → x ≡ y
        → Same mine (known_next mine ka t x) (known_next (not mine) kb t y) ts xs ys → Same mine ka kb (t ∷ ts) (x ∷ xs) (y ∷ ys)
    wider true ka kb t ts x y xs ys e h = record { texts = cons-same e h.texts; left = h.left; right = h.right }
    wider false ka kb t ts x y xs ys e h = record { texts = cons-same e h.texts; left = h.left; right = h.right }

    front-agree : (mine : Bool) (ka kb : Remote) (psks : List (List ℕ)) (r : SymmetricState) (ts : List Token) (xs ys : List (List ℕ)) → Knows ka b.own
        → Knows kb a.own
        → Uses mine Initiator a.own a.agree ka ts xs → Uses (not mine) Responder b.own b.agree kb ts ys → PsksFit psks ts xs → PsksFit psks ts ys
        → Alike has_psks r r ts xs ys → Same mine ka kb ts xs ys
    front-agree mine ka kb psks r [] [] [] f g u w m n h = record { texts = refl; left = none-left mine; right = none-right mine }
      where
        none-left : (mine : Bool) → Knows (known_after_all mine ka [] []) b.own
        none-left true = f
        none-left false = f

        none-right : (mine : Bool) → Knows (known_after_all (not mine) kb [] []) a.own
        none-right true = g
        none-right false = g
    front-agree mine ka kb psks r [] [] (y ∷ ys) f g u w m n h = absurd h
    front-agree mine ka kb psks r [] (x ∷ xs) ys f g u w m n h = absurd h
    front-agree mine ka kb psks r (t ∷ ts) [] ys f g u w m n h = absurd h
    front-agree mine ka kb psks r (t ∷ ts) (x ∷ xs) [] f g u w m n h = absurd h
    front-agree mine ka kb psks r (t ∷ ts) (x ∷ xs) (y ∷ ys) f g u w m n h =
        let e : x ≡ y = text-same mine ka kb psks r t x y f g u.0 w.0 m.0 n.0 h.0 in
        let knows = knows-token mine ka kb t x y f g e u.0 w.0 in
        wider mine ka kb t ts x y xs ys e
        (front-agree mine (known_next mine ka t x) (known_next (not mine) kb t y) (psks_after psks t) (after_token has_psks r t x) ts xs ys knows.0
        knows.1 u.1 w.1 m.1 n.1
        (subst (λ (z : List ℕ). Alike has_psks (after_token has_psks r t x) (after_token has_psks r t z) ts xs ys) (sym e) h.1))

  pub all-agree : (p : Plan) (n : ℕ) (ka kb : Remote) (psks : List (List ℕ)) (r : SymmetricState) (ps qs : List HandshakeMessage) → Knows ka b.own → Knows kb a.own
      → UsesAll p Initiator a.own a.agree n ka ps → UsesAll p Responder b.own b.agree n kb qs → UsePsks p n psks ps → UsePsks p n psks qs
      → AreMessages p n r ps → AreMessages p n r qs → AllAlike p n r r ps qs → ps ≡ qs
  all-agree p n ka kb psks r [] [] f g u w m k c d h = refl
  all-agree p n ka kb psks r (x ∷ xs) (y ∷ ys) f g u w m k c d h =
      let ts : List Token = tokens_at p.messages n in
      let mine : Bool = writes_now Initiator n in
      let turned = subst (λ (z : Bool). Uses z Responder b.own b.agree kb ts y.carried
      × UsesAll p Responder b.own b.agree (n + 1) (known_after_all z kb ts y.carried) ys) (turns-apart (turn_from Initiator n)) w in
      let here = front-agree (has_psk p) mine ka kb psks r ts x.carried y.carried f g u.0 turned.0 m.0 k.0 h.0.0 in
      let payload : x.payload ≡ y.payload =
      ciphertext-same (after_tokens (has_psk p) r ts x.carried) x.payload y.payload
      (h.0.1 ∙ ap (λ (zs : List (List ℕ)). ciphertext (after_tokens (has_psk p) r ts zs) y.payload) (sym here.texts)) in
      let message : x.message ≡ y.message = search in
      let one : x ≡ y = message-same x y message here.texts payload in
      let after : after_payload (has_psk p) r ts x.carried x.payload ≡ after_payload (has_psk p) r ts y.carried y.payload = search in
      cons-same one
      (all-agree p (n + 1) (known_after_all mine ka ts x.carried) (known_after_all (not mine) kb ts y.carried) (drop (count_by is_psk ts) psks)
      (after_payload (has_psk p) r ts x.carried x.payload) xs ys
      here.left here.right u.1 turned.1 m.1 k.1 c.1
      (subst (λ (s : SymmetricState). AreMessages p (n + 1) s ys) (sym after) d.1)
      (subst (λ (s : SymmetricState). AllAlike p (n + 1) (after_payload (has_psk p) r ts x.carried x.payload) s xs ys) (sym after) h.1))
  all-agree p n ka kb psks r _ _ f g u w m k c d h = absurd h
