-- Bytes that a word lacks.
use Rattle.std.proofs.Common.{rules, arith, ◌≡◌, ◌<◌, ◌==◌, not, Bool, true, false, refl, ℕ, List, ◌∷◌, ◌++◌, Option, Some, None, codes, []}
use Rattle.std.specs.Prelude.{decimal}
use Rattle.noise_vectors.proofs.Common.{IfSome, All, AllPass, list_all, and_parts, nat_tests, All-head, All-tail, encode_lower, Role, Initiator, Responder, hex_of, is_lower_digit, key_word, lengths_word, own_word, role_word, IsKey, lacks}
use Rattle.noise_keys.specs.declared.keys.Own.{Own}
use Rattle.noise_keys.specs.declared.keys.Own.TheVariants.{Ephemeral, Static}
use Rattle.noise_vectors.proofs.HexWordLemmas.{AllPass-encode_lower}
use Rattle.noise_vectors.proofs.WordLemmas.{lacks-decimal}

-- what passes a test passes one that follows from it
pub all_weaker : (test other : ℕ → Bool) (xs : List ℕ) → ((x : ℕ) → test x ≡ true → other x ≡ true) → list_all test xs ≡ true
    → list_all other xs ≡ true
all_weaker test other [] each h = refl
all_weaker test other (x ∷ xs) each h =
    let parts = and_parts (test x) (list_all test xs) h in
    rw (each x parts.0, (all_weaker test other xs each parts.1)) refl

pub lacks-append : (byte : ℕ) (front after : List ℕ) → lacks byte front ≡ true → lacks byte after ≡ true → lacks byte (front ++ after) ≡ true
lacks-append byte [] after h g = g
lacks-append byte (b ∷ bs) after h g =
    let parts = and_parts (not (b == byte)) (lacks byte bs) h in
    rw (parts.0, (lacks-append byte bs after parts.1 g)) refl

abbrev is_digit : ℕ → Type 0
is_digit c = is_lower_digit c ≡ true

lacks-lower : (byte : ℕ) (digits : List ℕ) → byte < 48 → AllPass is_lower_digit digits → lacks byte digits ≡ true
lacks-lower byte [] low h = refl
lacks-lower byte (c ∷ cs) low h =
    let digit : is_lower_digit c ≡ true = All-head is_digit c cs h in
    let more = lacks-lower byte cs low (All-tail is_digit c cs h) in
    let other : (c == byte) ≡ false = grind (arith, nat_tests) in
    rw (other, more) refl

-- hex digits have no byte that is less than a digit
pub lacks-encode_lower : (byte : ℕ) (bytes : List ℕ) → byte < 48 → All (λ b. b < 256) bytes → lacks byte (encode_lower bytes) ≡ true
lacks-encode_lower byte bytes low h = lacks-lower byte (encode_lower bytes) low (AllPass-encode_lower bytes h)

lacks-hyphen : (byte : ℕ) → byte < 45 → lacks byte (codes "-") ≡ true
lacks-hyphen byte low = search rules

-- a hex word has no byte that is less than a hyphen
pub lacks-hex_of : (byte : ℕ) (bytes : List ℕ) → byte < 45 → All (λ b. b < 256) bytes → lacks byte (hex_of bytes) ≡ true
lacks-hex_of byte [] low h = lacks-hyphen byte low
lacks-hex_of byte (b ∷ bs) low h = lacks-encode_lower byte (b ∷ bs) (omega arith) h

pub lacks-key_word : (byte : ℕ) (key : Option (List ℕ)) → byte < 45 → IfSome key IsKey → lacks byte (key_word key) ≡ true
lacks-key_word byte None low h = lacks-hyphen byte low
lacks-key_word byte (Some key) low h = lacks-encode_lower byte key (omega arith) h.1

-- the words of roles and key pairs have no line feed and no space
pub role_word-plain : (role : Role) → (lacks 10 (role_word role) ≡ true) × (lacks 32 (role_word role) ≡ true)
role_word-plain Initiator = (refl, refl)
role_word-plain Responder = (refl, refl)

pub own_word-plain : (own : Own) → (lacks 10 (own_word own) ≡ true) × (lacks 32 (own_word own) ≡ true)
own_word-plain Ephemeral = (refl, refl)
own_word-plain Static = (refl, refl)

abbrev is_small : ℕ → Type 0
is_small n = n < 65536

-- lengths have no byte that is less than a comma
pub lacks-lengths_word : (byte : ℕ) (ns : List ℕ) → byte < 44 → All (λ n. n < 65536) ns → lacks byte (lengths_word ns) ≡ true
lacks-lengths_word byte [] low h = lacks-hyphen byte (omega arith)
lacks-lengths_word byte (n ∷ []) low h =
    let small : n < 65536 = All-head is_small n [] h in
    lacks-decimal byte n (omega arith) (omega arith)
lacks-lengths_word byte (n ∷ m ∷ ms) low h =
    let small : n < 65536 = All-head is_small n (m ∷ ms) h in
    let first = lacks-decimal byte n (omega arith) (omega arith) in
    let more = lacks-lengths_word byte (m ∷ ms) low (All-tail is_small n (m ∷ ms) h) in
    let other : (44 == byte) ≡ false = grind (arith, nat_tests) in
    lacks-append byte (decimal n) (44 ∷ lengths_word (m ∷ ms)) first (rw (other, more) refl)
