-- Keys as their 64 digits.
use Rattle.std.proofs.Common.{rules, arith, ◌≡◌, ◌<◌, ℕ, zero, suc, List, ◌∷◌, length, get_or, Result, Ok, Err, []}
use Rattle.noise_vectors.proofs.Common.{MatchResult, All, All-head, All-tail, decode_sized, encode_lower, decode_sized-encode_lower, length-encode_with, IsDigits, IsKey}
use Rattle.hex.specs.declared.error.FromHexError.{FromHexError}
use Rattle.noise_vectors.proofs.HexWordLemmas.{AllPass-encode_lower}

pub length-key : (key : List ℕ) → length key ≡ 32 → length (encode_lower key) ≡ 64
length-key key len = search (rules, length-encode_with)

-- they are digits
pub IsDigits-key : (key word : List ℕ) → IsKey key → word ≡ encode_lower key → IsDigits word
IsDigits-key key word h e =
    let len = length-key key h.0 in
    rw e (omega (arith, len), omega (arith, len), AllPass-encode_lower key h.1)

abbrev is_byte : ℕ → Type 0
is_byte b = b < 256

pub bytes-at : (bytes : List ℕ) → All (λ b. b < 256) bytes → (i : ℕ) → get_or bytes i 0 < 256
bytes-at [] h i = omega arith
bytes-at (b ∷ rest) h zero = All-head is_byte b rest h
bytes-at (b ∷ rest) h (suc i) = bytes-at rest (All-tail is_byte b rest h) i

-- and are decoded to the key
pub decoded-key : (key word : List ℕ) → IsKey key → word ≡ encode_lower key → decode_sized word 32 ≡ Ok key
decoded-key key word h e = rw e (decode_sized-encode_lower key 32 h.0 (bytes-at key h.1))

-- what a decoding to a slice gives, where the digits are the key's
pub written-key : (d : Result (List ℕ) FromHexError) (key : List ℕ) (r : Result Unit FromHexError) (out : List ℕ)
    → MatchResult d (λ bytes. (r ≡ Ok tt) × (out ≡ bytes)) (λ e. r ≡ Err e) → d ≡ Ok key → (r ≡ Ok tt) × (out ≡ key)
written-key d key r out h e = rw e at h
