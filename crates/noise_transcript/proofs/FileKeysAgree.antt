-- Keys whose DH is the xor of bytes: those of two parties agree, and have a DH result wherever a setup without a fault needs one.
use Rattle.std.proofs.Common.{◌≡◌, ◌∙◌, refl, ap, sym, ℕ, List, length, Option, Some, None}
use Rattle.noise_transcript.proofs.Common.{true, is_some, IfSome, agreement_of, public_of, AreKeys, FileKeys, IsXor}
use Rattle.noise_keys.specs.declared.keys.Own.{Own}
use Rattle.noise_keys.specs.declared.keys.Own.TheVariants.{Ephemeral, Static}
use Rattle.noise_keys.specs.Keys.{key_of, xor_dh_result, xor_dh_result-same}
use Rattle.noise_handshake.specs.Party.{dh_result_of}
use Rattle.noise_vectors.specs.Words.{IsKey}
use Rattle.noise_vectors.specs.declared.file_keys.FileKeys.TheVariants.{Xor, Table}
use Rattle.std.proofs.lemmas.Option.{same_Some}

-- ---- the keys of a right file have 32 bytes

long-in : (o : Option (List ℕ)) → IfSome o IsKey → (k : List ℕ) → o ≡ Some k → length k ≡ 32
long-in None h k e = absurd (cc)
long-in (Some x) h k e = ap length (sym (same_Some x k e)) ∙ h.0

of-own : (e s : Option (List ℕ)) → IfSome e IsKey → IfSome s IsKey → (x : Own) → IfSome (key_of x e s) IsKey
of-own e s f g Ephemeral = f
of-own e s f g Static = g

pub long-keys : (keys : FileKeys) → AreKeys keys → (x : Own) (k : List ℕ) → public_of keys x ≡ Some k → length k ≡ 32
long-keys (Xor keys) h x k e = long-in (key_of x keys.e keys.s) (of-own keys.e keys.s h.0 h.1 x) k e
long-keys (Table keys) h x k e = long-in (key_of x keys.e keys.s) (of-own keys.e keys.s h.0 h.1 x) k e

-- ---- they agree

pub keys-agree : (f g : FileKeys) → IsXor f → IsXor g → (x y : Own) (k l r s : List ℕ) → public_of f x ≡ Some k → public_of g y ≡ Some l
    → agreement_of f x l ≡ Some r → agreement_of g y k ≡ Some s → r ≡ s
keys-agree (Xor a) (Xor b) i j x y k l r s e h m n = xor_dh_result-same (key_of x a.e a.s) (key_of y b.e b.s) k l r s e h m n
keys-agree (Xor a) (Table b) i j x y k l r s e h m n = absurd j
keys-agree (Table a) g i j x y k l r s e h m n = absurd i

-- ---- they have DH results

gives : (key : Option (List ℕ)) (l : List ℕ) → is_some key ≡ true → is_some (xor_dh_result key l) ≡ true
gives None l h = absurd (cc)
gives (Some k) l h = refl

dh_results : (agree : Own → List ℕ → Option (List ℕ)) (x : Own) (l : Option (List ℕ)) → is_some l ≡ true
    → ((k : List ℕ) → is_some (agree x k) ≡ true) → is_some (dh_result_of agree x l) ≡ true
dh_results agree x None h f = absurd (cc)
dh_results agree x (Some l) h f = f l

pub xor-dh-results : (keys : FileKeys) → IsXor keys → (x : Own) (l : Option (List ℕ)) → is_some (public_of keys x) ≡ true → is_some l ≡ true
    → is_some (dh_result_of (agreement_of keys) x l) ≡ true
xor-dh-results (Xor keys) i x l h k = dh_results (agreement_of (Xor keys)) x l k (λ m. gives (key_of x keys.e keys.s) m h)
xor-dh-results (Table keys) i x l h k = absurd i
