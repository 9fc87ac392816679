-- What a message's tokens carry doesn't depend on the psks that are handed in for later psk tokens.
use Rattle.std.proofs.Common.{rules, ◌≡◌, ℕ, zero, suc, ◌≤◌, List, [], ◌∷◌, length, take, refl, ap, sym, subst, ◌∙◌, arith, take-take, take_all}
use Rattle.std.specs.Prelude.{cond}
use Rattle.noise_handshake.proofs.Common.{sum_by-cons, sum_by-take-le, count_by, Token, E, S, Ee, Es, Se, Ss, is_psk, SymmetricState, Own, Remote, Cause, Reader, Fit, BeginsAs, CanBegin, Reads, Stops, first_psk, other_psks, known_after, StopsFor, LacksDhResultFor, Writer, Given, LacksDhResultAt}
use Rattle.noise_names.specs.declared.token.Token.TheVariants.{Psk}

-- ---- psk tokens

pub one-more : (ts : List Token) → count_by is_psk (Psk ∷ ts) ≡ suc (count_by is_psk ts)
one-more ts = search (rules, sum_by-cons)

pub count-take : (ts : List Token) (k : ℕ) → count_by is_psk (take k ts) ≤ count_by is_psk ts
count-take ts k = sum_by-take-le (λ (t : Token). cond (is_psk t) 1 0) ts k

pub count-less : (ts : List Token) (j k : ℕ) → j ≤ k → count_by is_psk (take j ts) ≤ count_by is_psk (take k ts)
count-less ts j k h =
    subst (λ (us : List Token). count_by is_psk us ≤ count_by is_psk (take k ts)) (take-take j k ts h) (count-take (take k ts) j)

-- ---- psks of which the first are the same

first-same : (m : ℕ) (s u : List (List ℕ)) → take (suc m) s ≡ take (suc m) u → first_psk s ≡ first_psk u
first-same m [] [] e = refl
first-same m [] (y ∷ u) e = absurd (cc)
first-same m (x ∷ s) [] e = absurd (cc)
first-same m (x ∷ s) (y ∷ u) e = ap first_psk e

others-same : (m : ℕ) (s u : List (List ℕ)) → take (suc m) s ≡ take (suc m) u → take m (other_psks s) ≡ take m (other_psks u)
others-same m [] [] e = refl
others-same m [] (y ∷ u) e = absurd (cc)
others-same m (x ∷ s) [] e = absurd (cc)
others-same m (x ∷ s) (y ∷ u) e = ap other_psks e

pub fit-same : (v : Reader) (known : Remote) (s u : List (List ℕ)) (n : ℕ) (ts : List Token) (xs : List (List ℕ)) → count_by is_psk ts ≤ n
    → take n s ≡ take n u → Fit v known s ts xs → Fit v known u ts xs
fit-same v known s u n [] [] c e f = tt
fit-same v known s u n [] (x ∷ xs) c e f = absurd f
fit-same v known s u n (t ∷ ts) [] c e f = absurd f
fit-same v known s u n (E ∷ ts) (x ∷ xs) c e f = (f.0, fit-same v (known_after known E x) s u n ts xs c e f.1)
fit-same v known s u n (S ∷ ts) (x ∷ xs) c e f = (f.0, fit-same v (known_after known S x) s u n ts xs c e f.1)
fit-same v known s u n (Ee ∷ ts) (x ∷ xs) c e f = (f.0, fit-same v (known_after known Ee x) s u n ts xs c e f.1)
fit-same v known s u n (Es ∷ ts) (x ∷ xs) c e f = (f.0, fit-same v (known_after known Es x) s u n ts xs c e f.1)
fit-same v known s u n (Se ∷ ts) (x ∷ xs) c e f = (f.0, fit-same v (known_after known Se x) s u n ts xs c e f.1)
fit-same v known s u n (Ss ∷ ts) (x ∷ xs) c e f = (f.0, fit-same v (known_after known Ss x) s u n ts xs c e f.1)
fit-same v known s u zero (Psk ∷ ts) (x ∷ xs) c e f = absurd (omega (arith, c, one-more ts))
fit-same v known s u (suc n) (Psk ∷ ts) (x ∷ xs) c e f =
    let h : count_by is_psk ts ≤ n = omega (arith, c, one-more ts) in
    (f.0 ∙ first-same n s u e, fit-same v known (other_psks s) (other_psks u) n ts xs h (others-same n s u e) f.1)

pub given-same : (w : Writer) (known : Remote) (s u : List (List ℕ)) (n : ℕ) (ts : List Token) (xs : List (List ℕ)) → count_by is_psk ts ≤ n
    → take n s ≡ take n u → Given w known s ts xs → Given w known u ts xs
given-same w known s u n [] [] c e f = tt
given-same w known s u n [] (x ∷ xs) c e f = absurd f
given-same w known s u n (t ∷ ts) [] c e f = absurd f
given-same w known s u n (E ∷ ts) (x ∷ xs) c e f = (f.0, given-same w known s u n ts xs c e f.1)
given-same w known s u n (S ∷ ts) (x ∷ xs) c e f = (f.0, given-same w known s u n ts xs c e f.1)
given-same w known s u n (Ee ∷ ts) (x ∷ xs) c e f = (f.0, given-same w known s u n ts xs c e f.1)
given-same w known s u n (Es ∷ ts) (x ∷ xs) c e f = (f.0, given-same w known s u n ts xs c e f.1)
given-same w known s u n (Se ∷ ts) (x ∷ xs) c e f = (f.0, given-same w known s u n ts xs c e f.1)
given-same w known s u n (Ss ∷ ts) (x ∷ xs) c e f = (f.0, given-same w known s u n ts xs c e f.1)
given-same w known s u zero (Psk ∷ ts) (x ∷ xs) c e f = absurd (omega (arith, c, one-more ts))
given-same w known s u (suc n) (Psk ∷ ts) (x ∷ xs) c e f =
    let h : count_by is_psk ts ≤ n = omega (arith, c, one-more ts) in
    (f.0 ∙ first-same n s u e, given-same w known (other_psks s) (other_psks u) n ts xs h (others-same n s u e) f.1)

-- ---- reading

module _ (v : Reader) (known : Remote) (s u : List (List ℕ)) (r : SymmetricState) (n : ℕ) (e : take n s ≡ take n u) where
  pub leads-same : (ts : List Token) (xs : List (List ℕ)) (m rest : List ℕ) → count_by is_psk ts ≤ n
      → BeginsAs v known s r ts xs m rest → BeginsAs v known u r ts xs m rest
  leads-same ts xs m rest c l = record { fit = fit-same v known s u n ts xs c e l.fit; spelled = l.spelled }

  pub reaches-same : (ts : List Token) (m : List ℕ) → count_by is_psk ts ≤ n → CanBegin v known s r ts m → CanBegin v known u r ts m
  reaches-same ts m c l = record { carried = l.carried; rest = l.rest; leads = leads-same ts l.carried m l.rest c l.leads }

  pub reads-same : (ts : List Token) (m : List ℕ) (xs : List (List ℕ)) (payload : List ℕ) → count_by is_psk ts ≤ n
      → Reads v known s r ts m xs payload → Reads v known u r ts m xs payload
  reads-same ts m xs payload c l = record { fit = fit-same v known s u n ts xs c e l.fit; spelled = l.spelled }

module _ (v : Reader) (known : Remote) (s u : List (List ℕ)) (r : SymmetricState) (n : ℕ) (e : take n s ≡ take n u) (ts : List Token) (m : List ℕ) where
  pub stops-same : (k : ℕ) (cause : Cause) → count_by is_psk (take (suc k) ts) ≤ n → Stops v known s r ts m k cause → Stops v known u r ts m k cause
  stops-same k cause c l = record {
    within = l.within;
    carried = l.carried;
    rest = l.rest;
    leads = leads-same v known s u r n e (take k ts) l.carried m l.rest (omega (arith, c, count-less ts k (suc k) (omega arith))) l.leads;
    further = λ h reaches. l.further h (reaches-same v known u s r n (sym e) (take (suc k) ts) m c reaches);
    unread = λ last xs payload reads.
        let all : take (suc k) ts ≡ ts = take_all (suc k) ts (omega (arith, last)) in
        l.unread last xs payload
        (reads-same v known u s r n (sym e) ts m xs payload (subst (λ (us : List Token). count_by is_psk us ≤ n) all c) reads);
    why = l.why;
  }

  pub stops-for-same : (own : Own) (key : List ℕ) (w : StopsFor v known s r ts m own key) → count_by is_psk (take (suc (length w.before)) ts) ≤ n
      → StopsFor v known u r ts m own key
  unfolding stops-same
  stops-for-same own key w c = record {
    before = w.before;
    token = w.token;
    later = w.later;
    tokens = w.tokens;
    stops = stops-same (length w.before) _ c w.stops;
    own_is = w.own_is;
    key_is = w.key_is;
  }

-- ---- writing

module _ (w : Writer) (known : Remote) (s u : List (List ℕ)) (n : ℕ) (e : take n s ≡ take n u) (ts : List Token) where
  pub lacks-same : (k : ℕ) → count_by is_psk (take (suc k) ts) ≤ n → LacksDhResultAt w known s ts k → LacksDhResultAt w known u ts k
  lacks-same k c l = record {
    within = l.within;
    before = l.before;
    given = given-same w known s u n (take k ts) l.before (omega (arith, c, count-less ts k (suc k) (omega arith))) e l.given;
    none = λ xs h. l.none xs (given-same w known u s n (take (suc k) ts) xs c (sym e) h);
  }

  pub lacks-for-same : (own : Own) (key : List ℕ) (l : LacksDhResultFor w known s ts own key) → count_by is_psk (take (suc (length l.before)) ts) ≤ n
      → LacksDhResultFor w known u ts own key
  lacks-for-same own key l c = search lacks-same
