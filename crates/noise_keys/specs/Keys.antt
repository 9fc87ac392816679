-- Which of a party's two keys is meant, and keys whose DH is the xor of bytes.
use Rattle.std.specs.Prelude.{◌≡◌, ℕ, List, [], ◌∷◌, Option, Some, None, bit_xor, map, refl}
use Rattle.std.specs.List.{zip}
use Rattle.std.proofs.Common.{sym, ap, ◌∙◌}
use Rattle.std.proofs.lemmas.Nat.{xor_comm}
use Rattle.std.proofs.lemmas.Option.{same_Some}
use Rattle.noise_keys.specs.declared.keys.Own.{Own}
use Rattle.noise_keys.specs.declared.keys.Own.TheVariants.{Ephemeral, Static}

-- A party's key pairs, as a handshake sees them: the public key of each, and its DH result to the bytes of a remote
-- public key, where there are any (Noise 4.1).
pub record KeyPairs : Type 0 where
  pub public : Own → Option (List ℕ)
  pub agree : Own → List ℕ → Option (List ℕ)

-- the one of an ephemeral and a static key that is meant
abbrev pub key_of : Own → Option (List ℕ) → Option (List ℕ) → Option (List ℕ)
key_of Ephemeral e s = e
key_of Static e s = s

-- the xor of two texts, byte by byte
abbrev pub xored_bytes : List ℕ → List ℕ → List ℕ
xored_bytes xs ys = map (λ pair. bit_xor pair.0 pair.1) (zip xs ys)

-- the DH result of a key, where there is one
abbrev pub xor_dh_result : Option (List ℕ) → List ℕ → Option (List ℕ)
xor_dh_result None remote = None
xor_dh_result (Some key) remote = Some (xored_bytes key remote)

xored-comm : (xs ys : List ℕ) → xored_bytes xs ys ≡ xored_bytes ys xs
xored-comm [] [] = refl
xored-comm [] (y ∷ ys) = refl
xored-comm (x ∷ xs) [] = refl
xored-comm (x ∷ xs) (y ∷ ys) =
    ap (λ (b : ℕ). b ∷ xored_bytes xs ys) (xor_comm x y) ∙ ap (λ (bs : List ℕ). bit_xor y x ∷ bs) (xored-comm xs ys)

-- two keys' DH results are alike
pub xor_dh_result-commutes : (k l : Option (List ℕ)) (p q : List ℕ) → k ≡ Some p → l ≡ Some q
    → xor_dh_result k q ≡ xor_dh_result l p
xor_dh_result-commutes k l p q ek el =
    ap (λ (o : Option (List ℕ)). xor_dh_result o q) ek ∙ ap Some (xored-comm p q)
    ∙ sym (ap (λ (o : Option (List ℕ)). xor_dh_result o p) el)

-- where both keys have a DH result, the two DH results are the same
pub xor_dh_result-same : (k l : Option (List ℕ)) (p q r s : List ℕ) → k ≡ Some p → l ≡ Some q
    → xor_dh_result k q ≡ Some r → xor_dh_result l p ≡ Some s → r ≡ s
xor_dh_result-same k l p q r s ek el er es = same_Some r s (sym er ∙ xor_dh_result-commutes k l p q ek el ∙ es)
