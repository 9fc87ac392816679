-- What a reader finds is determined, and how reading the tokens goes on.
use Rattle.std.proofs.Common.{rules, ◌≡◌, ℕ, zero, suc, ◌+◌, ◌<◌, ◌≤◌, List, [], ◌∷◌, ◌++◌, length, take, refl, ap, sym, subst, ◌∙◌, arith, append_assoc, take_all, inl, inr, ◌⊎◌}
use Rattle.std.specs.Prelude.{Bool, is_some, if◌then◌else◌, nat_lt}
use Rattle.noise_handshake.proofs.Common.{Option, Some, Token, E, S, Ee, Es, Se, Ss, SymmetricState, ciphertext, length-ciphertext, ciphertext-same, Remote, Cause, token_bytes, after_token, before_payload, after_tokens, Party, Reader, reader, Fits, Fit, known_after, psks_after, BeginsAs, CanBegin, Reads, Stops, Accepts, cause_at, remote_after, tokens_now, StopsKnowing}
use Rattle.noise_names.specs.declared.token.Token.TheVariants.{Psk}
use Rattle.noise_handshake.specs.declared.faults.Cause.TheVariants.{Short, Tag}
use Rattle.noise_names.specs.Lists.{split-apart, cons-same}

some-same : (o : Option (List ℕ)) (x y : List ℕ) → o ≡ Some x → o ≡ Some y → x ≡ y
some-same o x y f g = cc

-- a token's text and what is after it are determined
pub token-apart : (v : Reader) (known : Remote) (psks : List (List ℕ)) (r : SymmetricState) (t : Token) (x y p q : List ℕ)
    → Fits v known psks t x → Fits v known psks t y → token_bytes r t x ++ p ≡ token_bytes r t y ++ q → (x ≡ y) × (p ≡ q)
token-apart v known psks r E x y p q f g e = split-apart x y p q (f ∙ sym g) e
token-apart v known psks r S x y p q f g e =
    let n : length (ciphertext r x) ≡ length (ciphertext r y) = length-ciphertext r x ∙ ap (λ (k : ℕ). if is_some r.cipher.key then k + 16 else k) (f ∙ sym g)
    ∙ sym (length-ciphertext r y) in
    let h = split-apart (ciphertext r x) (ciphertext r y) p q n e in
    (ciphertext-same r x y h.0, h.1)
token-apart v known psks r Psk x y p q f g e = (f ∙ sym g, e)
token-apart v known psks r Ee x y p q f g e = (some-same _ x y f g, e)
token-apart v known psks r Es x y p q f g e = (some-same _ x y f g, e)
token-apart v known psks r Se x y p q f g e = (some-same _ x y f g, e)
token-apart v known psks r Ss x y p q f g e = (some-same _ x y f g, e)

-- all the texts are determined, and what is left
pub front-apart : (v : Reader) (known : Remote) (psks : List (List ℕ)) (r : SymmetricState) (ts : List Token) (xs ys : List (List ℕ)) (p q : List ℕ)
    → Fit v known psks ts xs → Fit v known psks ts ys → before_payload v.has_psks r ts xs ++ p ≡ before_payload v.has_psks r ts ys ++ q → (xs ≡ ys) × (p ≡ q)
front-apart v known psks r [] [] [] p q f g e = (refl, e)
front-apart v known psks r [] [] (y ∷ ys) p q f g e = absurd g
front-apart v known psks r [] (x ∷ xs) ys p q f g e = absurd f
front-apart v known psks r (t ∷ ts) [] ys p q f g e = absurd f
front-apart v known psks r (t ∷ ts) (x ∷ xs) [] p q f g e = absurd g
front-apart v known psks r (t ∷ ts) (x ∷ xs) (y ∷ ys) p q f g e =
    let a : List ℕ = before_payload v.has_psks (after_token v.has_psks r t x) ts xs in
    let b : List ℕ = before_payload v.has_psks (after_token v.has_psks r t y) ts ys in
    let h = token-apart v known psks r t x y (a ++ p) (b ++ q) f.0 g.0
    (sym (append_assoc (token_bytes r t x) a p) ∙ e ∙ append_assoc (token_bytes r t y) b q) in
    let g1 = subst (λ (z : List ℕ). Fit v (known_after known t z) (psks_after psks t) ts ys) (sym h.0) g.1 in
    let e1 : a ++ p ≡ before_payload v.has_psks (after_token v.has_psks r t x) ts ys ++ q = search in
    let i = front-apart v (known_after known t x) (psks_after psks t) (after_token v.has_psks r t x) ts xs ys p q f.1 g1 e1 in
    (cons-same h.0 i.0, i.1)

-- no other texts and payload fit a message
pub reads-one : (v : Reader) (known : Remote) (psks : List (List ℕ)) (r : SymmetricState) (ts : List Token) (m : List ℕ) (xs ys : List (List ℕ)) (p q : List ℕ)
    → Reads v known psks r ts m xs p → Reads v known psks r ts m ys q → (xs ≡ ys) × (p ≡ q)
reads-one v known psks r ts m xs ys p q a b =
    let h = front-apart v known psks r ts xs ys (ciphertext (after_tokens v.has_psks r ts xs) p) (ciphertext (after_tokens v.has_psks r ts ys) q) a.fit b.fit
    (sym a.spelled ∙ b.spelled) in
    (h.0, ciphertext-same (after_tokens v.has_psks r ts xs) p q (h.1 ∙ ap (λ (zs : List (List ℕ)). ciphertext (after_tokens v.has_psks r ts zs) q) (sym h.0)))

pub accepts-one : (v : Party) (m : List ℕ) (xs ys : List (List ℕ)) (p q : List ℕ) → Accepts v m xs p → Accepts v m ys q → (xs ≡ ys) × (p ≡ q)
accepts-one v m xs ys p q a b = reads-one (reader v) v.remote v.psks v.state (tokens_now v) m xs ys p q a.reads b.reads

-- ---- how reading goes on

pub leads-none : (v : Reader) (known : Remote) (psks : List (List ℕ)) (r : SymmetricState) (m : List ℕ) → BeginsAs v known psks r [] [] m m
leads-none v known psks r m = record { fit = tt; spelled = refl }

pub leads-more : (v : Reader) (known : Remote) (psks : List (List ℕ)) (r : SymmetricState) (t : Token) (x : List ℕ) (ts : List Token) (xs : List (List ℕ))
    (m more rest : List ℕ)
    → Fits v known psks t x → m ≡ token_bytes r t x ++ more
    → BeginsAs v (known_after known t x) (psks_after psks t) (after_token v.has_psks r t x) ts xs more rest
    → BeginsAs v known psks r (t ∷ ts) (x ∷ xs) m rest
leads-more v known psks r t x ts xs m more rest f e l = search (rules, append_assoc)

-- what leads beyond a token leads from after it
leads-less : (v : Reader) (known : Remote) (psks : List (List ℕ)) (r : SymmetricState) (t : Token) (x : List ℕ) (ts : List Token) (xs : List (List ℕ))
    (m more rest : List ℕ)
    → Fits v known psks t x → m ≡ token_bytes r t x ++ more → BeginsAs v known psks r (t ∷ ts) xs m rest
    → CanBegin v (known_after known t x) (psks_after psks t) (after_token v.has_psks r t x) ts more
leads-less v known psks r t x ts [] m more rest f e l = absurd l.fit
leads-less v known psks r t x ts (y ∷ ys) m more rest f e l = search (rules, token-apart, append_assoc)

pub stops-later : (v : Reader) (known : Remote) (psks : List (List ℕ)) (r : SymmetricState) (t : Token) (x : List ℕ) (ts : List Token) (m more : List ℕ)
    (k : ℕ) (cause : Cause) (here : Remote)
    → k < length ts → Fits v known psks t x → m ≡ token_bytes r t x ++ more
    → StopsKnowing v (known_after known t x) (psks_after psks t) (after_token v.has_psks r t x) ts more k cause here
    → StopsKnowing v known psks r (t ∷ ts) m (suc k) cause here
stops-later v known psks r t x ts m more k cause here h f e (s, knows) = (
  record {
    within = omega (arith, h);
    carried = x ∷ s.carried;
    rest = s.rest;
    leads = leads-more v known psks r t x (take k ts) s.carried m more s.rest f e s.leads;
    further = λ _ reaches. s.further h (leads-less v known psks r t x (take (suc k) ts) reaches.carried m more reaches.rest f e reaches.leads);
    unread = λ e. absurd (omega (arith, h));
    why = s.why;
  },
  knows,
)

cause_at-end : (keyed : Bool) (ts : List Token) (rest : List ℕ) → cause_at keyed ts (length ts) rest ≡ (if nat_lt (length rest) 16 then Short else Tag)
cause_at-end keyed [] rest = refl
cause_at-end keyed (t ∷ ts) rest = cause_at-end keyed ts rest

-- a stop at the payload
stops-last : (v : Reader) (known : Remote) (psks : List (List ℕ)) (r : SymmetricState) (ts : List Token) (m : List ℕ) (xs : List (List ℕ))
    (rest : List ℕ) (cause : Cause)
    → BeginsAs v known psks r ts xs m rest → ((payload : List ℕ) → rest ≡ ciphertext (after_tokens v.has_psks r ts xs) payload → ⊥)
    → cause ≡ (if nat_lt (length rest) 16 then Short else Tag) → Stops v known psks r ts m (length ts) cause
stops-last v known psks r ts m xs rest cause l bad why =
    let whole : take (length ts) ts ≡ ts = take_all (length ts) ts (omega arith) in
    record {
      within = omega arith;
      carried = xs;
      rest = rest;
      leads = subst (λ (us : List Token). BeginsAs v known psks r us xs m rest) (sym whole) l;
      further = λ h. absurd (omega arith);
      unread = search (rules, front-apart);
      why = why ∙ sym (cause_at-end (is_some ((after_tokens v.has_psks r (take (length ts) ts) xs).cipher.key)) ts rest);
    }

-- with what is known there
pub knows-last : (v : Reader) (known here : Remote) (psks : List (List ℕ)) (r : SymmetricState) (ts : List Token) (m : List ℕ) (xs : List (List ℕ))
    (rest : List ℕ) (cause : Cause)
    → BeginsAs v known psks r ts xs m rest → ((payload : List ℕ) → rest ≡ ciphertext (after_tokens v.has_psks r ts xs) payload → ⊥)
    → cause ≡ (if nat_lt (length rest) 16 then Short else Tag) → here ≡ remote_after known ts xs → StopsKnowing v known psks r ts m (length ts) cause here
unfolding stops-last
knows-last v known here psks r ts m xs rest cause l bad why e =
    (stops-last v known psks r ts m xs rest cause l bad why, e ∙ ap (λ (us : List Token). remote_after known us xs) (sym (take_all (length ts) ts (omega arith))))

pub reads-whole : (v : Reader) (known : Remote) (psks : List (List ℕ)) (r : SymmetricState) (ts : List Token) (m : List ℕ) (xs : List (List ℕ))
    (rest payload : List ℕ)
    → BeginsAs v known psks r ts xs m rest → rest ≡ ciphertext (after_tokens v.has_psks r ts xs) payload → Reads v known psks r ts m xs payload
reads-whole v known psks r ts m xs rest payload l e = search

-- what is read whole leads as far as one likes
pub reads-leads : (v : Reader) (known : Remote) (psks : List (List ℕ)) (r : SymmetricState) (ts : List Token) (xs : List (List ℕ)) (m rest : List ℕ) (k : ℕ)
    → BeginsAs v known psks r ts xs m rest → CanBegin v known psks r (take k ts) m
reads-leads v known psks r ts xs m rest zero l = record { carried = []; rest = m; leads = leads-none v known psks r m }
reads-leads v known psks r [] xs m rest (suc k) l = record { carried = []; rest = m; leads = leads-none v known psks r m }
reads-leads v known psks r (t ∷ ts) [] m rest (suc k) l = absurd l.fit
reads-leads v known psks r (t ∷ ts) (x ∷ xs) m rest (suc k) l =
    let next : SymmetricState = after_token v.has_psks r t x in
    let more : List ℕ = before_payload v.has_psks next ts xs ++ rest in
    let e : m ≡ token_bytes r t x ++ more = l.spelled ∙ append_assoc (token_bytes r t x) (before_payload v.has_psks next ts xs) rest in
    let i = reads-leads v (known_after known t x) (psks_after psks t) next ts xs more rest k (record { fit = l.fit.1; spelled = refl }) in
    record {
      carried = x ∷ i.carried;
      rest = i.rest;
      leads = leads-more v known psks r t x (take k ts) i.carried m more i.rest l.fit.0 e i.leads;
    }

at-most : (k n : ℕ) → k ≤ n → (k < n) ⊎ (k ≡ n)
at-most zero zero h = inr refl
at-most zero (suc n) h = inl (omega arith)
at-most (suc k) zero h = absurd (omega arith)
at-most (suc k) (suc n) h = elim (at-most k n (omega arith)) [ inl l ↦ inl (omega arith) | inr e ↦ inr (ap suc e) ]

-- what is refused is no message
pub stops-not : (v : Reader) (known : Remote) (psks : List (List ℕ)) (r : SymmetricState) (ts : List Token) (m : List ℕ) (k : ℕ) (cause : Cause)
    (xs : List (List ℕ)) (p : List ℕ)
    → Stops v known psks r ts m k cause → Reads v known psks r ts m xs p → ⊥
stops-not v known psks r ts m k cause xs p s a =
    let l : BeginsAs v known psks r ts xs m (ciphertext (after_tokens v.has_psks r ts xs) p) = record { fit = a.fit; spelled = a.spelled } in
    elim (at-most k (length ts) s.within) [
      | inl h ↦ s.further h (reads-leads v known psks r ts xs m (ciphertext (after_tokens v.has_psks r ts xs) p) (suc k) l)
      | inr e ↦ s.unread e xs p a
    ]
