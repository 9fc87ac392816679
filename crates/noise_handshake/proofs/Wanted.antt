-- Which DH result the next message lacks: reading.
use Rattle.std.proofs.Common.{rules, ◌≡◌, ℕ, zero, suc, ◌+◌, ◌<◌, ◌≤◌, List, [], ◌∷◌, ◌++◌, length, take, drop, get_or, refl, ap, sym, subst, ◌∙◌, arith, append_assoc, length-take}
use Rattle.std.specs.Prelude.{Bool, true, is_some, nat_lt, if◌then◌else◌}
use Rattle.noise_handshake.proofs.Common.{take-append_seam, Option, Some, None, MatchOption, Token, E, S, Ee, Es, Se, Ss, Role, SymmetricState, Own, Remote, Agreement, PlacedToken, token_bytes, after_token, before_payload, after_tokens, Party, Reader, reader, Listens, Fit, BeginsAs, CanBegin, Stops, Refuses, known_after, psks_after, remote_after, first_psk, own_at, remote_at, cause_of, cause_at, tokens_now, StopsFor, WantsToRead, is_known, are_known, has_after, has_after_tokens, tokens_of, Listening, StopsKnowing, and_parts}
use Rattle.noise_names.specs.declared.token.Token.TheVariants.{Psk}
use Rattle.noise_handshake.specs.declared.faults.Cause.TheVariants.{Short, Tag}
use Rattle.noise_handshake.proofs.Apart.{leads-more, reads-leads}
use Rattle.noise_handshake.proofs.Knowing.{split-at}
use Rattle.noise_handshake.proofs.Standing.{for-view}

-- ---- a token of a list

pub take-through : (before later : List Token) (t : Token) → take (suc (length before)) (before ++ t ∷ later) ≡ before ++ t ∷ []
take-through [] later t = refl
take-through (u ∷ before) later t = ap (λ (us : List Token). u ∷ us) (take-through before later t)

-- the token at a place
pub token-placed : (ps : List PlacedToken) (k : ℕ) (d : PlacedToken) → k < length ps
    → (get_or ps k d).token ≡ get_or (tokens_of ps) k (get_or ps k d).token
token-placed [] k d h = absurd (omega arith)
token-placed (p ∷ ps) zero d h = refl
token-placed (p ∷ ps) (suc k) d h = token-placed ps k d (omega arith)

-- ---- what is known there

-- the remote key of a DH among tokens
known-there : (role : Role) (e s : Bool) (before later : List Token) (t : Token) → are_known role e s (before ++ t ∷ later) ≡ true
    → is_known role (has_after_tokens E e before) (has_after_tokens S s before) t ≡ true
known-there role e s [] later t h = (and_parts (is_known role e s t) (are_known role (has_after E e t) (has_after S s t) later) h).0
known-there role e s (u ∷ before) later t h = search (rules, (known-there role (has_after E e u) (has_after S s u) before later t))

e-one : (known : Remote) (t : Token) (x : List ℕ) → is_some (known_after known t x).e ≡ has_after E (is_some known.e) t
e-one known E x = refl
e-one known S x = refl
e-one known Ee x = refl
e-one known Es x = refl
e-one known Se x = refl
e-one known Ss x = refl
e-one known Psk x = refl

s-one : (known : Remote) (t : Token) (x : List ℕ) → is_some (known_after known t x).s ≡ has_after S (is_some known.s) t
s-one known E x = refl
s-one known S x = refl
s-one known Ee x = refl
s-one known Es x = refl
s-one known Se x = refl
s-one known Ss x = refl
s-one known Psk x = refl

e-many : (v : Reader) (known : Remote) (psks : List (List ℕ)) (ts : List Token) (xs : List (List ℕ)) → Fit v known psks ts xs
    → is_some (remote_after known ts xs).e ≡ has_after_tokens E (is_some known.e) ts
e-many v known psks [] xs f = refl
e-many v known psks (t ∷ ts) [] f = absurd f
e-many v known psks (t ∷ ts) (x ∷ xs) f = search (e-one, (e-many v (known_after known t x) (psks_after psks t) ts xs f.1))

s-many : (v : Reader) (known : Remote) (psks : List (List ℕ)) (ts : List Token) (xs : List (List ℕ)) → Fit v known psks ts xs
    → is_some (remote_after known ts xs).s ≡ has_after_tokens S (is_some known.s) ts
s-many v known psks [] xs f = refl
s-many v known psks (t ∷ ts) [] f = absurd f
s-many v known psks (t ∷ ts) (x ∷ xs) f = search (s-one, (s-many v (known_after known t x) (psks_after psks t) ts xs f.1))

-- ---- why reading stops at a token

cause-there : (keyed : Bool) (before later : List Token) (t : Token) (rest : List ℕ) → cause_at keyed (before ++ t ∷ later) (length before) rest ≡ cause_of keyed t rest
cause-there keyed [] later t rest = refl
cause-there keyed (u ∷ before) later t rest = cause-there keyed before later t rest

cause-end : (keyed : Bool) (ts : List Token) (k : ℕ) (rest : List ℕ) → length ts ≤ k → cause_at keyed ts k rest ≡ (if nat_lt (length rest) 16 then Short else Tag)
cause-end keyed [] k rest h = refl
cause-end keyed (t ∷ ts) zero rest h = absurd (omega arith)
cause-end keyed (t ∷ ts) (suc k) rest h = cause-end keyed ts k rest (omega arith)

-- for want of a DH result it stops at a token
pub stops-within : (v : Reader) (known : Remote) (psks : List (List ℕ)) (r : SymmetricState) (ts : List Token) (m : List ℕ) (k : ℕ)
    → Stops v known psks r ts m k Agreement → k < length ts
stops-within v known psks r ts m k s = search (rules, cause-end)

-- where all tokens are read it stops at none
pub all-read : (v : Reader) (known : Remote) (psks : List (List ℕ)) (r : SymmetricState) (ts : List Token) (xs : List (List ℕ)) (m rest : List ℕ) (k : ℕ)
    → BeginsAs v known psks r ts xs m rest → Stops v known psks r ts m k Agreement → ⊥
all-read v known psks r ts xs m rest k l s =
    s.further (stops-within v known psks r ts m k s) (reads-leads v known psks r ts xs m rest (suc k) l)

-- a psk is always there
psk-goes : (v : Reader) (known : Remote) (psks : List (List ℕ)) (r : SymmetricState) (before : List Token) (xs : List (List ℕ)) (m rest : List ℕ)
    → BeginsAs v known psks r before xs m rest → CanBegin v known psks r (before ++ Psk ∷ []) m
psk-goes v known psks r [] xs m rest l = record {
  carried = first_psk psks ∷ [];
  rest = m;
  leads = search;
}
psk-goes v known psks r (t ∷ before) [] m rest l = absurd l.fit
psk-goes v known psks r (t ∷ before) (x ∷ xs) m rest l =
    let next : SymmetricState = after_token v.has_psks r t x in
    let more : List ℕ = before_payload v.has_psks next before xs ++ rest in
    let e : m ≡ token_bytes r t x ++ more = l.spelled ∙ append_assoc (token_bytes r t x) (before_payload v.has_psks next before xs) rest in
    let i = psk-goes v (known_after known t x) (psks_after psks t) next before xs more rest (record { fit = l.fit.1; spelled = refl }) in
    record {
      carried = x ∷ i.carried;
      rest = i.rest;
      leads = leads-more v known psks r t x (before ++ Psk ∷ []) i.carried m more i.rest l.fit.0 e i.leads;
    }

pub none-some : (o : Option (List ℕ)) → is_some o ≡ true → o ≡ None → ⊥
none-some (Some x) h e = cc
none-some None h e = cc

-- ---- the DH result that is wanted

module _ (v : Reader) (known : Remote) (psks : List (List ℕ)) (r : SymmetricState) (m : List ℕ) (before later : List Token) (t : Token)
    (knows : are_known v.role (is_some known.e) (is_some known.s) (before ++ t ∷ later) ≡ true)
    (s : Stops v known psks r (before ++ t ∷ later) m (length before) Agreement) where
  abbrev keyed-there : Bool
  keyed-there = is_some ((after_tokens v.has_psks r (take (length before) (before ++ t ∷ later)) s.carried).cipher.key)

  leads : BeginsAs v known psks r before s.carried m s.rest
  leads = subst (λ (us : List Token). BeginsAs v known psks r us s.carried m s.rest) (take-append_seam before (t ∷ later)) s.leads

  why : Agreement ≡ cause_of keyed-there t s.rest
  why = s.why ∙ cause-there keyed-there before later t s.rest

  on : CanBegin v known psks r (before ++ t ∷ []) m → ⊥
  on h = s.further (stops-within v known psks r (before ++ t ∷ later) m (length before) s)
      (subst (λ (us : List Token). CanBegin v known psks r us m) (sym (take-through before later t)) h)

  here : is_known v.role (is_some (remote_after known before s.carried).e) (is_some (remote_after known before s.carried).s) t ≡ true
  here =
      let h = known-there v.role (is_some known.e) (is_some known.s) before later t knows in
      subst (λ (b : Bool). is_known v.role b (is_some (remote_after known before s.carried).s) t ≡ true)
      (sym (e-many v known psks before s.carried leads.fit))
      (subst (λ (b : Bool). is_known v.role (has_after_tokens E (is_some known.e) before) b t ≡ true)
      (sym (s-many v known psks before s.carried leads.fit)) h)

  -- the token is a DH, whose remote key is known there
  remote-there : remote_at v.role (remote_after known before s.carried) t ≡ None → ⊥
  remote-there = search (rules, why, on, psk-goes, leads, here)

  asked-there : (o : Option (Own × List ℕ))
      → MatchOption o (remote_at v.role (remote_after known before s.carried) t ≡ None)
      (λ want. (want.0 ≡ own_at v.role t) × (remote_at v.role (remote_after known before s.carried) t ≡ Some want.1))
      → MatchOption o ((j : ℕ) → Stops v known psks r (before ++ t ∷ later) m j Agreement → ⊥)
      (λ want. StopsFor v known psks r (before ++ t ∷ later) m want.0 want.1)
  asked-there None h = absurd (remote-there h)
  asked-there (Some want) h = record {
    before = before;
    token = t;
    later = later;
    tokens = refl;
    stops = s;
    own_is = h.0;
    key_is = h.1;
  }

-- what is asked at the token where reading stops
pub asked : (v : Reader) (known here : Remote) (psks : List (List ℕ)) (r : SymmetricState) (ts : List Token) (m : List ℕ) (k : ℕ) (t : Token)
    → k < length ts → t ≡ get_or ts k t → are_known v.role (is_some known.e) (is_some known.s) ts ≡ true
    → StopsKnowing v known psks r ts m k Agreement here → (o : Option (Own × List ℕ))
    → MatchOption o (remote_at v.role here t ≡ None) (λ want. (want.0 ≡ own_at v.role t) × (remote_at v.role here t ≡ Some want.1))
    → MatchOption o ((j : ℕ) → Stops v known psks r ts m j Agreement → ⊥) (λ want. StopsFor v known psks r ts m want.0 want.1)
asked v known here psks r ts m k t less is knows s o h =
    let before : List Token = take k ts in
    let later : List Token = drop (k + 1) ts in
    let split : ts ≡ before ++ t ∷ later = split-at ts k t less is in
    let count : k ≡ length before = omega (arith, length-take k ts, less) in
    let s1 = subst (λ (us : List Token). StopsKnowing v known psks r us m k Agreement here) split s in
    let s2 = subst (λ (i : ℕ). StopsKnowing v known psks r (before ++ t ∷ later) m i Agreement here) count s1 in
    let same : here ≡ remote_after known before s2.0.carried = search in
    let knows1 = subst (λ (us : List Token). are_known v.role (is_some known.e) (is_some known.s) us ≡ true) split knows in
    let h1 = subst (λ (z : Remote). MatchOption o (remote_at v.role z t ≡ None)
    (λ want. (want.0 ≡ own_at v.role t) × (remote_at v.role z t ≡ Some want.1))) same h in
    subst (λ (us : List Token). MatchOption o ((j : ℕ) → Stops v known psks r us m j Agreement → ⊥)
    (λ want. StopsFor v known psks r us m want.0 want.1)) (sym split)
    (asked-there v known psks r m before later t knows1 s2.0 o h1)

-- for a party that listens
pub wants-of : (v : Party) (m : List ℕ) (o : Option (Own × List ℕ)) → Listens v
    → MatchOption o ((j : ℕ) → Stops (reader v) v.remote v.psks v.state (tokens_now v) m j Agreement → ⊥)
    (λ want. StopsFor (reader v) v.remote v.psks v.state (tokens_now v) m want.0 want.1)
    → MatchOption o ((j : ℕ) → Refuses v m j Agreement → ⊥) (λ want. WantsToRead v m want.0 want.1)
wants-of v m None l h = λ j refuses. h j refuses.stops
wants-of v m (Some want) l h = record { listens = l; stops = h }

pub wants : (v : Party) (m : List ℕ) (o : Option (Own × List ℕ)) (role : Role) (has_psks : Bool) (agree : Own → List ℕ → Option (List ℕ))
    (psks : List (List ℕ)) (known : Remote) (ts : List Token) → Listening v role has_psks agree psks known ts
    → MatchOption o ((j : ℕ) → Stops (record { role = role; has_psks = has_psks; agree = agree }) known psks v.state ts m j Agreement → ⊥)
    (λ want. StopsFor (record { role = role; has_psks = has_psks; agree = agree }) known psks v.state ts m want.0 want.1)
    → MatchOption o ((j : ℕ) → Refuses v m j Agreement → ⊥) (λ want. WantsToRead v m want.0 want.1)
wants v m o role has_psks agree psks known ts l h =
    wants-of v m o l.listens (for-view v role has_psks agree psks known ts l
    (λ w z s us. MatchOption o ((j : ℕ) → Stops w z s v.state us m j Agreement → ⊥) (λ want. StopsFor w z s v.state us m want.0 want.1)) h)
