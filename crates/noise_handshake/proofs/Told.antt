-- What is told of a message's first token, and then of those after it.
use Rattle.std.proofs.Common.{◌≡◌, ℕ, suc, ◌+◌, ◌≤◌, Bool, List, [], ◌∷◌, ◌++◌, length, take, drop, ap, sym, subst, ◌∙◌, arith, append_assoc, length-append, length-drop, length-take}
use Rattle.noise_handshake.proofs.Common.{Token, SymmetricState, Remote, token_bytes, after_token, before_payload, Reader, Fits, Fit, BeginsAs, known_after, psks_after, first_psk, Writer, Gives, Given}
use Rattle.noise_handshake.proofs.Apart.{token-apart}
use Rattle.noise_handshake.proofs.Giving.{given-one}
use Rattle.noise_handshake.specs.Steps.{after_step, after_steps}

-- a text takes as many bytes as are read of it
pub width-read : (piece rest : List ℕ) (n : ℕ) → n ≤ length rest → rest ≡ piece ++ drop n rest → length piece ≡ n
width-read piece rest n h e = omega (arith, h, ap length e, length-append piece (drop n rest), length-drop n rest)

-- and as are written of it
pub width-written : (piece out : List ℕ) (n : ℕ) → n ≤ length out → take n out ≡ piece → length piece ≡ n
width-written piece out n h e = omega (arith, h, ap length e, length-take n out)

module _ {S : Type 0} (after : S → Token → ℕ → ℕ → SymmetricState → S) where
  -- what the code tells of a token
  pub told-one : (has_psks : Bool) (r : SymmetricState) (t : Token) (x : List ℕ) (place first n : ℕ) (state : SymmetricState) (old mid : S)
      → mid ≡ after old t first (first + n) state → first ≡ place → length (token_bytes r t x) ≡ n → state ≡ after_token has_psks r t x
      → mid ≡ after_step after has_psks r place t x old
  told-one has_psks r t x place first n state old mid e f wide s =
      e ∙ ap (λ (k : ℕ). after old t k (k + n) state) f ∙ ap (λ (k : ℕ). after old t place (place + k) state) (sym wide)
      ∙ ap (after old t place (place + length (token_bytes r t x))) s

  module _ (has_psks : Bool) (r : SymmetricState) (t : Token) (ts : List Token) (x : List ℕ) (ys : List (List ℕ)) (place place2 : ℕ) (old mid new : S)
      (from : place2 ≡ place + length (token_bytes r t x)) (here : mid ≡ after_step after has_psks r place t x old) where
    pub told-on : new ≡ after_steps after has_psks (after_token has_psks r t x) place2 ts ys mid
        → new ≡ after_steps after has_psks r place (t ∷ ts) (x ∷ ys) old
    told-on e =
        e ∙ ap (λ (k : ℕ). after_steps after has_psks (after_token has_psks r t x) k ts ys mid) from
        ∙ ap (after_steps after has_psks (after_token has_psks r t x) (place + length (token_bytes r t x)) ts ys) here

  -- of the other party's tokens
  module _ (v : Reader) (known known2 : Remote) (psks others : List (List ℕ)) (r : SymmetricState) (tokens ts : List Token) (t : Token) (x m m2 : List ℕ)
      (place place2 : ℕ) (old mid new : S) (split : tokens ≡ t ∷ ts) (fits : Fits v known psks t x) (spelled : m ≡ token_bytes r t x ++ m2)
      (knows : known2 ≡ known_after known t x) (holds : others ≡ psks_after psks t)
      (from : place2 ≡ place + length (token_bytes r t x)) (here : mid ≡ after_step after v.has_psks r place t x old) where
    first-read : (us : List Token)
        → ((ys : List (List ℕ)) (q : List ℕ) → BeginsAs v known2 others (after_token v.has_psks r t x) us ys m2 q
        → new ≡ after_steps after v.has_psks (after_token v.has_psks r t x) place2 us ys mid)
        → (xs : List (List ℕ)) (rest : List ℕ) → BeginsAs v known psks r (t ∷ us) xs m rest → new ≡ after_steps after v.has_psks r place (t ∷ us) xs old
    first-read us later [] rest l = absurd l.fit
    first-read us later (y ∷ ys) rest l =
        let tail : List ℕ = before_payload v.has_psks (after_token v.has_psks r t y) us ys in
        let h = token-apart v known psks r t x y m2 (tail ++ rest) fits l.fit.0 (sym spelled ∙ l.spelled ∙ append_assoc (token_bytes r t y) tail rest) in
        let fit1 : Fit v (known_after known t x) (psks_after psks t) us ys =
        subst (λ (z : List ℕ). Fit v (known_after known t z) (psks_after psks t) us ys) (sym h.0) l.fit.1 in
        let fit2 : Fit v known2 (psks_after psks t) us ys = subst (λ (z : Remote). Fit v z (psks_after psks t) us ys) (sym knows) fit1 in
        let fit3 : Fit v known2 others us ys = subst (λ (z : List (List ℕ)). Fit v known2 z us ys) (sym holds) fit2 in
        let e = later ys rest (record {
          fit = fit3;
          spelled = h.1 ∙ ap (λ (z : List ℕ). before_payload v.has_psks (after_token v.has_psks r t z) us ys ++ rest) (sym h.0);
        }) in
        told-on v.has_psks r t us x ys place place2 old mid new from here e
        ∙ ap (λ (z : List ℕ). after_steps after v.has_psks r place (t ∷ us) (z ∷ ys) old) h.0

    pub all-read : ((ys : List (List ℕ)) (q : List ℕ) → BeginsAs v known2 others (after_token v.has_psks r t x) ts ys m2 q
        → new ≡ after_steps after v.has_psks (after_token v.has_psks r t x) place2 ts ys mid)
        → (xs : List (List ℕ)) (rest : List ℕ) → BeginsAs v known psks r tokens xs m rest → new ≡ after_steps after v.has_psks r place tokens xs old
    all-read later xs rest l =
        subst (λ (us : List Token). new ≡ after_steps after v.has_psks r place us xs old) (sym split)
        (first-read ts later xs rest (subst (λ (us : List Token). BeginsAs v known psks r us xs m rest) split l))

    pub before-read : (k : ℕ)
        → ((ys : List (List ℕ)) (q : List ℕ) → BeginsAs v known2 others (after_token v.has_psks r t x) (take k ts) ys m2 q
        → new ≡ after_steps after v.has_psks (after_token v.has_psks r t x) place2 (take k ts) ys mid)
        → (xs : List (List ℕ)) (rest : List ℕ) → BeginsAs v known psks r (take (k + 1) tokens) xs m rest
        → new ≡ after_steps after v.has_psks r place (take (k + 1) tokens) xs old
    before-read k later xs rest l =
        let next : k + 1 ≡ suc k = omega arith in
        let e : take (k + 1) tokens ≡ t ∷ take k ts = ap (take (k + 1)) split ∙ ap (λ (n : ℕ). take n (t ∷ ts)) next in
        subst (λ (us : List Token). new ≡ after_steps after v.has_psks r place us xs old) (sym e)
        (first-read (take k ts) later xs rest (subst (λ (us : List Token). BeginsAs v known psks r us xs m rest) e l))

  -- of the party's own
  module _ (w : Writer) (known : Remote) (psks others : List (List ℕ)) (r : SymmetricState) (tokens ts : List Token) (t : Token) (x : List ℕ)
      (place place2 : ℕ) (old mid new : S) (split : tokens ≡ t ∷ ts) (gives : Gives w known psks t x) (holds : others ≡ psks_after psks t)
      (from : place2 ≡ place + length (token_bytes r t x)) (here : mid ≡ after_step after w.has_psks r place t x old) where
    first-written : (us : List Token)
        → ((ys : List (List ℕ)) → Given w known others us ys
        → new ≡ after_steps after w.has_psks (after_token w.has_psks r t x) place2 us ys mid)
        → (xs : List (List ℕ)) → Given w known psks (t ∷ us) xs → new ≡ after_steps after w.has_psks r place (t ∷ us) xs old
    first-written us later [] g = absurd g
    first-written us later (y ∷ ys) g =
        let same : x ≡ y = ap first_psk (given-one w known psks (t ∷ []) (x ∷ []) (y ∷ []) (gives, tt) (g.0, tt)) in
        let e = later ys (subst (λ (z : List (List ℕ)). Given w known z us ys) (sym holds) g.1) in
        told-on w.has_psks r t us x ys place place2 old mid new from here e
        ∙ ap (λ (z : List ℕ). after_steps after w.has_psks r place (t ∷ us) (z ∷ ys) old) same

    pub before-written : (k : ℕ)
        → ((ys : List (List ℕ)) → Given w known others (take k ts) ys
        → new ≡ after_steps after w.has_psks (after_token w.has_psks r t x) place2 (take k ts) ys mid)
        → (xs : List (List ℕ)) → Given w known psks (take (k + 1) tokens) xs
        → new ≡ after_steps after w.has_psks r place (take (k + 1) tokens) xs old
    before-written k later xs g =
        let next : k + 1 ≡ suc k = omega arith in
        let e : take (k + 1) tokens ≡ t ∷ take k ts = ap (take (k + 1)) split ∙ ap (λ (n : ℕ). take n (t ∷ ts)) next in
        subst (λ (us : List Token). new ≡ after_steps after w.has_psks r place us xs old) (sym e)
        (first-written (take k ts) later xs (subst (λ (us : List Token). Given w known psks us xs) e g))
