-- A static key in a message.
use Rattle.std.proofs.Common.{◌≡◌, ℕ, ◌+◌, ◌<◌, ◌≤◌, List, ◌++◌, length, take, refl, ap, sym, ◌∙◌, arith, rules, length-append}
use Rattle.std.specs.Prelude.{Bool, true, false, is_some, if◌then◌else◌, nat_lt}
use Rattle.noise_handshake.proofs.Common.{take-append_seam, SymmetricState, ciphertext, length-ciphertext, S, keyed, tag_width, token_width, width_of_key}
use Rattle.noise_handshake.specs.declared.faults.Cause.TheVariants.{Short, Tag}

key_width : (k : Bool) → 32 + tag_width k ≡ (if k then 48 else 32)
key_width true = refl
key_width false = refl

-- how wide a static key is, by the state
pub width-is : (s : SymmetricState) (n : ℕ) → n ≡ token_width (keyed s) S → n ≡ width_of_key s
width-is s n e = e ∙ key_width (keyed s)

wide : (k : Bool) (n : ℕ) → n ≡ 32 → (if k then n + 16 else n) ≡ (if k then 48 else 32)
wide true n e = omega arith
wide false n e = e

pub length-key : (r : SymmetricState) (x : List ℕ) → length x ≡ 32 → length (ciphertext r x) ≡ width_of_key r
length-key r x e = length-ciphertext r x ∙ wide (is_some r.cipher.key) (length x) e

-- the message is too short for any
pub short-key : (r : SymmetricState) (m : List ℕ) (n : ℕ) → n ≡ width_of_key r → length m < n → (x rest : List ℕ) → length x ≡ 32 → m ≡ ciphertext r x ++ rest → ⊥
short-key r m n e h x rest f s = omega (arith, length-key r x f, ap length s, length-append (ciphertext r x) rest)

pub why-short : (r : SymmetricState) (m : List ℕ) (n : ℕ) → n ≡ width_of_key r → length m < n → Short ≡ (if nat_lt (length m) (width_of_key r) then Short else Tag)
why-short r m n e h = let t : nat_lt (length m) (width_of_key r) ≡ true = let l : length m < width_of_key r = omega arith in search rules in rw t refl

pub why-tag : (r : SymmetricState) (m : List ℕ) (n : ℕ) → n ≡ width_of_key r → n ≤ length m → Tag ≡ (if nat_lt (length m) (width_of_key r) then Short else Tag)
why-tag r m n e h = let t : nat_lt (length m) (width_of_key r) ≡ false = let l : width_of_key r ≤ length m = omega arith in search rules in rw t refl

-- the first bytes are none
pub wrong-key : (r : SymmetricState) (m : List ℕ) (n : ℕ) → n ≡ width_of_key r → ((x : List ℕ) → take n m ≡ ciphertext r x → ⊥) → (x rest : List ℕ)
    → length x ≡ 32 → m ≡ ciphertext r x ++ rest → ⊥
wrong-key r m n e bad x rest f s =
    bad x (ap (λ (k : ℕ). take k m) (e ∙ sym (length-key r x f)) ∙ ap (take (length (ciphertext r x))) s ∙ take-append_seam (ciphertext r x) rest)
