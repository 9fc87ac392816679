-- The steps of writing, as the code's values have them.
use Rattle.std.proofs.Common.{rules, ◌≡◌, ℕ, zero, suc, ◌+◌, ◌<◌, ◌≤◌, List, [], ◌∷◌, ◌++◌, take, refl, sym, subst, arith, add-one, take-take}
use Rattle.std.specs.Prelude.{Bool}
use Rattle.noise_handshake.proofs.Common.{Token, SymmetricState, Remote, token_bytes, after_token, before_payload, after_tokens, keyed_after, token_width, tokens_width, Party, psks_after, tokens_now, Writer, writer, Gives, Given, LacksDhResultAt, Writes, LacksDhResult}
use Rattle.noise_handshake.proofs.Once.{same-place}

-- one token more in front
pub lacks-later : (w : Writer) (known : Remote) (psks : List (List ℕ)) (t : Token) (ts : List Token) (x : List ℕ) (k : ℕ)
    → Gives w known psks t x → LacksDhResultAt w known (psks_after psks t) ts k → LacksDhResultAt w known psks (t ∷ ts) (suc k)
lacks-later w known psks t ts x k g l = record {
  within = omega (arith, l.within);
  before = x ∷ l.before;
  given = (g, l.given);
  none = further;
}
  where
    further : (xs : List (List ℕ)) → Given w known psks (take (suc (suc k)) (t ∷ ts)) xs → ⊥
    further [] h = h
    further (y ∷ ys) h = l.none ys h.1

-- a token and those after it take no more than there is for all of them
pub widths : (has_psks keyed keyed2 : Bool) (tokens ts : List Token) (t : Token) (n k room : ℕ) → tokens ≡ t ∷ ts → tokens_width has_psks keyed tokens ≤ room
    → n ≡ token_width keyed t → keyed2 ≡ keyed_after has_psks keyed t → k ≡ tokens_width has_psks keyed2 ts → n + k ≤ room
widths has_psks keyed keyed2 tokens ts t n k room split fits e f h = search rules

module _ (w : Writer) (known : Remote) (psks others : List (List ℕ)) (r : SymmetricState) (tokens ts : List Token) (t : Token) (x : List ℕ)
    (split : tokens ≡ t ∷ ts) (gives : Gives w known psks t x) (holds : others ≡ psks_after psks t) where
  pub given-on : (xs : List (List ℕ)) → Given w known others ts xs → Given w known psks tokens (x ∷ xs)
  given-on xs h = search rules

  pub front-on : (xs : List (List ℕ)) (start more : List ℕ) → start ≡ token_bytes r t x → more ≡ before_payload w.has_psks (after_token w.has_psks r t x) ts xs
      → start ++ more ≡ before_payload w.has_psks r tokens (x ∷ xs)
  front-on xs start more e f = search

  pub after-on : (state : SymmetricState) (xs : List (List ℕ))
      → state ≡ after_tokens w.has_psks (after_token w.has_psks r t x) ts xs → state ≡ after_tokens w.has_psks r tokens (x ∷ xs)
  after-on state xs h = subst (λ (us : List Token). state ≡ after_tokens w.has_psks r us (x ∷ xs)) (sym split) h

  pub lacks-on : (k : ℕ) → LacksDhResultAt w known others ts k → LacksDhResultAt w known psks tokens (k + 1)
  lacks-on k l =
      let later : LacksDhResultAt w known (psks_after psks t) ts k = subst (λ (z : List (List ℕ)). LacksDhResultAt w known z ts k) holds l in
      rw add-one (subst (λ (us : List Token). LacksDhResultAt w known psks us (suc k)) (sym split) (lacks-later w known psks t ts x k gives later))

-- ---- what a party gives is determined

pub given-one : (w : Writer) (known : Remote) (psks : List (List ℕ)) (ts : List Token) (xs ys : List (List ℕ)) → Given w known psks ts xs
    → Given w known psks ts ys → xs ≡ ys
given-one w known psks [] [] [] g h = refl
given-one w known psks [] [] (y ∷ ys) g h = absurd h
given-one w known psks [] (x ∷ xs) ys g h = absurd g
given-one w known psks (t ∷ ts) [] ys g h = absurd g
given-one w known psks (t ∷ ts) (x ∷ xs) [] g h = absurd h
given-one w known psks (t ∷ ts) (x ∷ xs) (y ∷ ys) g h = search (rules, (given-one w known (psks_after psks t) ts xs ys g.1 h.1))

-- one text for each of the first tokens
pub given-front : (w : Writer) (known : Remote) (psks : List (List ℕ)) (ts : List Token) (xs : List (List ℕ)) (n : ℕ) → Given w known psks ts xs
    → Given w known psks (take n ts) (take n xs)
given-front w known psks ts xs zero g = tt
given-front w known psks [] [] (suc n) g = tt
given-front w known psks [] (x ∷ xs) (suc n) g = absurd g
given-front w known psks (t ∷ ts) [] (suc n) g = absurd g
given-front w known psks (t ∷ ts) (x ∷ xs) (suc n) g = (g.0, given-front w known (psks_after psks t) ts xs n g.1)

not-before : (w : Writer) (known : Remote) (psks : List (List ℕ)) (ts : List Token) (k j : ℕ) → LacksDhResultAt w known psks ts k
    → LacksDhResultAt w known psks ts j → k < j → ⊥
not-before w known psks ts k j a b h =
    a.none (take (suc k) b.before)
    (subst (λ (us : List Token). Given w known psks us (take (suc k) b.before)) (take-take (suc k) j ts (omega arith))
    (given-front w known psks (take j ts) b.before (suc k) b.given))

-- a party writes a payload as one message
pub writes-one : (v : Party) (payload m n : List ℕ) (xs ys : List (List ℕ)) → Writes v payload xs m → Writes v payload ys n → (xs ≡ ys) × (m ≡ n)
writes-one v payload m n xs ys a b = search (rules, given-one)

-- it lacks a DH result at one token
pub lacks-one : (v : Party) (k j : ℕ) → LacksDhResult v k → LacksDhResult v j → k ≡ j
lacks-one v k j a b = search (same-place, not-before)

-- what lacks a DH result writes nothing
pub writes-or : (v : Party) (payload m : List ℕ) (xs : List (List ℕ)) (k : ℕ) → Writes v payload xs m → LacksDhResult v k → ⊥
writes-or v payload m xs k a b =
    b.lacks.none (take (suc k) xs) (given-front (writer v) v.remote v.psks (tokens_now v) xs (suc k) a.given)
