-- Two parties with their parts of one key material: what their messages carry, and that their DH results meet.
use Rattle.std.proofs.Common.{rules, ◌≡◌, ℕ, List, ◌∷◌, length, refl, ap, sym, ◌∙◌, []}
use Rattle.std.specs.Prelude.{Bool, true, false, Option, Some, None, if◌then◌else◌}
use Rattle.noise_duel.proofs.Common.{Role, Initiator, Responder, Token, E, S, Ee, Es, Se, Ss, Psk, other, same_token, Plan, places_of, is_among, occurs, IsValid, Own, dh_result_of, own_at, remote_at, other_psks, Writer, Given, public_keys, has_token, token_of, is_dh, keys_if, DhResultsAgree, IsEquipped, LawsBelow, KeyMaterial, carried_by, public_keys_in, or_right}
use Rattle.noise_handshake.specs.RemoteKeys.{remote-own}

-- two choices are one, where what is chosen at true is
pub if-same : (b : Bool) (o q : Option (List ℕ)) → (b ≡ true → o ≡ q) → (if b then o else None) ≡ (if b then q else None)
if-same true o q f = f refl
if-same false o q f = refl

-- a role has the keys and DH results of the key material
pub record HasMaterial (w : KeyMaterial) (p : Plan) (role : Role) (own : Own → Option (List ℕ)) (agree : Own → List ℕ → Option (List ℕ)) : Type 0 where
  pub keys : (x : Own) → is_among role (token_of x) (places_of p) ≡ true → own x ≡ Some (w.public role x)
  pub dh_results : (t : Token) → is_dh t ≡ true → occurs t (places_of p) ≡ true
      → dh_result_of agree (own_at role t) (remote_at role (public_keys_in w (other role)) t) ≡ Some (w.dh_result t)

module _ (laws : LawsBelow) (w : KeyMaterial) (p : Plan) (valid : IsValid p) where
  -- with the other party's true keys
  pub true-dh-result : (role : Role) (own theirs : Own → Option (List ℕ)) (agree their_agree : Own → List ℕ → Option (List ℕ)) → HasMaterial w p role own agree
      → HasMaterial w p (other role) theirs their_agree
      → (t : Token) → is_dh t ≡ true → occurs t (places_of p) ≡ true
      → dh_result_of agree (own_at role t) (remote_at role (public_keys theirs) t) ≡ Some (w.dh_result t)
  true-dh-result role own theirs agree their_agree i j t d h =
      ap (dh_result_of agree (own_at role t))
      (remote-own role theirs t ∙ j.keys (own_at (other role) t) (laws.dh_key_is_among p (other role) t valid d h)
      ∙ sym (remote-own role (λ x. Some (w.public (other role) x)) t))
      ∙ i.dh_results t d h

  pub equipped : (role : Role) (own theirs : Own → Option (List ℕ)) (agree their_agree : Own → List ℕ → Option (List ℕ))
      → ((party : Role) (x : Own) → length (w.public party x) ≡ 32)
      → HasMaterial w p role own agree → HasMaterial w p (other role) theirs their_agree → IsEquipped p role own agree theirs
  equipped role own theirs agree their_agree long i j = record {
    keys = λ x h. (w.public role x, i.keys x h, long role x);
    dh_results = λ t d h. (w.dh_result t, true-dh-result role own theirs agree their_agree i j t d h);
  }

  pub dh-results-agree : (own theirs : Own → Option (List ℕ)) (agree their_agree : Own → List ℕ → Option (List ℕ)) → HasMaterial w p Initiator own agree
      → HasMaterial w p Responder theirs their_agree
      → DhResultsAgree p Initiator own agree theirs their_agree
  dh-results-agree own theirs agree their_agree i j t d h =
      true-dh-result Initiator own theirs agree their_agree i j t d h ∙ sym (true-dh-result Responder theirs own their_agree agree j i t d h)

-- what a writer's tokens carry is that of the key material
module _ (laws : LawsBelow) (w : KeyMaterial) (has_psks : Bool) (role : Role) (own theirs : Own → Option (List ℕ)) (agree : Own → List ℕ → Option (List ℕ))
    (e s : Bool) where
  abbrev gives : Writer
  gives = record { role = role; has_psks = has_psks; own = own; agree = agree }

  abbrev IsCarried : List Token → Type 0
  IsCarried ts = ((x : Own) → has_token (token_of x) ts ≡ true → own x ≡ Some (w.public role x))
      × ((t : Token) → has_token t ts ≡ true → is_dh t ≡ true → dh_result_of agree (own_at role t) (remote_at role (public_keys theirs) t) ≡ Some (w.dh_result t))

  on : (t : Token) (ts : List Token) → IsCarried (t ∷ ts) → IsCarried ts
  on t ts h = (
    λ x k. h.0 x (or_right (same_token t (token_of x)) (has_token (token_of x) ts) k),
    λ u k d. h.1 u (or_right (same_token t u) (has_token u ts) k) d,
  )

  pub given-carried : (psks : List (List ℕ)) (ts : List Token) (xs : List (List ℕ)) → IsCarried ts → Given gives (keys_if e s theirs) psks ts xs
      → xs ≡ carried_by w role psks ts
  given-carried psks [] [] h g = refl
  given-carried psks (E ∷ ts) (x ∷ xs) h g = search (rules, (given-carried psks ts xs (on E ts h) g.1))
  given-carried psks (S ∷ ts) (x ∷ xs) h g = search (rules, (given-carried psks ts xs (on S ts h) g.1))
  given-carried psks (Psk ∷ ts) (x ∷ xs) h g = search ((given-carried (other_psks psks) ts xs (on Psk ts h) g.1))
  given-carried psks (Ee ∷ ts) (x ∷ xs) h g = search (rules, (given-carried psks ts xs (on Ee ts h) g.1))
  given-carried psks (Es ∷ ts) (x ∷ xs) h g = search (rules, (given-carried psks ts xs (on Es ts h) g.1))
  given-carried psks (Se ∷ ts) (x ∷ xs) h g = search (rules, (given-carried psks ts xs (on Se ts h) g.1))
  given-carried psks (Ss ∷ ts) (x ∷ xs) h g = search (rules, (given-carried psks ts xs (on Ss ts h) g.1))
  given-carried psks _ _ h g = absurd g
