-- The steps of reading, as the code's values have them.
use Rattle.std.proofs.Common.{rules, ◌≡◌, ℕ, suc, ◌+◌, ◌-◌, ◌<◌, ◌≤◌, List, ◌∷◌, ◌++◌, length, take, drop, ap, sym, subst, ◌∙◌, arith, drop-drop, length-take, length-drop, append-nil}
use Rattle.std.specs.Prelude.{is_some}
use Rattle.noise_handshake.proofs.Common.{take-append-le, drop_at, length-take-le, nil_from_length, drop-append_seam, Token, SymmetricState, Remote, Cause, token_bytes, after_token, Reader, Fits, BeginsAs, known_after, psks_after, remote_after, cause_of, Fails, StopsKnowing}
use borrow.Rule.Slice.PartMut.{put_mid}
use Rattle.noise_handshake.proofs.Apart.{leads-more, stops-later}

pub stopped : (v : Reader) (known : Remote) (psks : List (List ℕ)) (r : SymmetricState) (tokens ts : List Token) (t : Token) (m : List ℕ) (cause : Cause)
    (here : Remote)
    → tokens ≡ t ∷ ts → Fails v known psks r t m → cause ≡ cause_of (is_some r.cipher.key) t m → here ≡ known
    → StopsKnowing v known psks r tokens m 0 cause here
stopped v known psks r tokens ts t m cause here e bad why same = search rules

-- what stands in a list after its first n bytes, once those after were written
pub written-at : (m buf post : List ℕ) (n len : ℕ) → n ≤ length m → len ≤ length buf → take ((n + len) - n) (drop n (take n m ++ (buf ++ post))) ≡ take len buf
written-at m buf post n len h b =
    let whole : length (take n m) ≡ n = omega (arith, length-take n m) in
    let after : drop n (take n m ++ (buf ++ post)) ≡ buf ++ post = search (rules, drop-append_seam) in
    let count : (n + len) - n ≡ len = omega arith in
    ap (λ (k : ℕ). take k (drop n (take n m ++ (buf ++ post)))) count ∙ ap (take len) after ∙ take-append-le len buf post b

-- a list whose bytes from n on were written anew, but for those that stand after the first len of them
pub rest-at : (m buf : List ℕ) (n len : ℕ) → n ≤ length m → drop len buf ≡ drop len (drop n m)
    → drop (n + len) (put_mid n (length m - n) m buf) ≡ drop (n + len) m
rest-at m buf n len h rest =
    sym (drop-drop len n (put_mid n (length m - n) m buf))
    ∙ ap (drop len) (after-at m buf n h)
    ∙ rest
    ∙ drop-drop len n m
  where
    after-at : (m buf : List ℕ) (n : ℕ) → n ≤ length m → drop n (put_mid n (length m - n) m buf) ≡ buf
    after-at m buf n h =
        let post = drop (length m - n) (drop n m) in
        let none : length post ≡ 0 = omega (arith, length-drop (length m - n) (drop n m), length-drop n m) in
        drop_at (take n m) (buf ++ post) n (length-take-le n m h)
        ∙ ap (λ (p : List ℕ). buf ++ p) (nil_from_length post none)
        ∙ append-nil buf

module _ (v : Reader) (known known2 : Remote) (psks secrets2 : List (List ℕ)) (r : SymmetricState) (tokens ts : List Token) (t : Token) (x m m2 : List ℕ) (n : ℕ)
    (split : tokens ≡ t ∷ ts) (fits : Fits v known psks t x) (spelled : m ≡ token_bytes r t x ++ drop n m)
    (knows : known2 ≡ known_after known t x) (holds : secrets2 ≡ psks_after psks t) (goes : m2 ≡ drop n m) where
  pub led : (xs : List (List ℕ)) (k : ℕ) → BeginsAs v known2 secrets2 (after_token v.has_psks r t x) ts xs m2 (drop k m2)
      → BeginsAs v known psks r tokens (x ∷ xs) m (drop (n + k) m)
  led xs k l =
      let l1 = subst (λ (z : Remote). BeginsAs v z secrets2 (after_token v.has_psks r t x) ts xs m2 (drop k m2)) knows l in
      let l2 = subst (λ (z : List (List ℕ)). BeginsAs v (known_after known t x) z (after_token v.has_psks r t x) ts xs m2 (drop k m2)) holds l1 in
      let l3 = subst (λ (z : List ℕ). BeginsAs v (known_after known t x) (psks_after psks t) (after_token v.has_psks r t x) ts xs z (drop k z)) goes l2 in
      let l4 = leads-more v known psks r t x ts xs m (drop n m) (drop k (drop n m)) fits spelled l3 in
      let l5 = subst (λ (z : List ℕ). BeginsAs v known psks r (t ∷ ts) (x ∷ xs) m z) (drop-drop k n m) l4 in
      subst (λ (us : List Token). BeginsAs v known psks r us (x ∷ xs) m (drop (n + k) m)) (sym split) l5

  pub learned-on : (xs : List (List ℕ)) (known3 : Remote) → known3 ≡ remote_after known2 ts xs → known3 ≡ remote_after known tokens (x ∷ xs)
  learned-on xs known3 e = e ∙ ap (λ (z : Remote). remote_after z ts xs) knows ∙ ap (λ (us : List Token). remote_after known us (x ∷ xs)) (sym split)

  pub stopped-later : (k : ℕ) (cause : Cause) (here : Remote) → k < length ts
      → StopsKnowing v known2 secrets2 (after_token v.has_psks r t x) ts m2 k cause here → StopsKnowing v known psks r tokens m (k + 1) cause here
  stopped-later k cause here h s =
      let l1 = subst (λ (z : Remote). StopsKnowing v z secrets2 (after_token v.has_psks r t x) ts m2 k cause here) knows s in
      let l2 = subst (λ (z : List (List ℕ)). StopsKnowing v (known_after known t x) z (after_token v.has_psks r t x) ts m2 k cause here) holds l1 in
      let l3 = subst (λ (z : List ℕ). StopsKnowing v (known_after known t x) (psks_after psks t) (after_token v.has_psks r t x) ts z k cause here)
      goes l2 in
      let l4 = stops-later v known psks r t x ts m (drop n m) k cause here h fits spelled l3 in
      let l5 = subst (λ (us : List Token). StopsKnowing v known psks r us m (suc k) cause here) (sym split) l4 in
      let next : suc k ≡ k + 1 = omega arith in
      subst (λ (i : ℕ). StopsKnowing v known psks r tokens m i cause here) next l5
