-- Lengths of what is sealed, and that sealing is one-to-one in the text.
use Rattle.std.proofs.Common.{◌≡◌, ℕ, suc, ◌+◌, List, [], ◌∷◌, ◌++◌, length, refl, ap, sym, ◌∙◌, arith, take, length-append}
use Rattle.std.proofs.lemmas.List.{take_at, append_cancel_left}
use Rattle.std.specs.Prelude.{bit_xor}
use lib.Bits.{xor_assoc, xor_self, xor_zero_r}
use Rattle.noise_poly.specs.Poly.{tag_of}
use Rattle.noise_aead.specs.Sealing.{stream_byte, stream_bytes, xored, keystream_xor, authenticated, seal_tag, sealed}

xor_twice : (x s : ℕ) → bit_xor (bit_xor x s) s ≡ x
xor_twice x s = xor_assoc x s s ∙ ap (λ (k : ℕ). bit_xor x k) (xor_self s) ∙ xor_zero_r x

pub length-xored : (f : ℕ → ℕ) (j : ℕ) (text : List ℕ) → length (xored f j text) ≡ length text
length-xored f j [] = refl
length-xored f j (x ∷ text) = ap suc (length-xored f (suc j) text)

pub xored-twice : (f : ℕ → ℕ) (j : ℕ) (text : List ℕ) → xored f j (xored f j text) ≡ text
xored-twice f j [] = refl
xored-twice f j (x ∷ text) =
    ap (λ (b : ℕ). b ∷ xored f (suc j) (xored f (suc j) text)) (xor_twice x (f j))
    ∙ ap (λ (bs : List ℕ). x ∷ bs) (xored-twice f (suc j) text)

pub length-masked : (key nonce text : List ℕ) → length (keystream_xor key nonce text) ≡ length text
length-masked key nonce text = length-xored (stream_byte key nonce 1) 0 text

-- masked twice is the text
pub masked-twice : (key nonce text : List ℕ) → keystream_xor key nonce (keystream_xor key nonce text) ≡ text
masked-twice key nonce text = xored-twice (stream_byte key nonce 1) 0 text

-- the tag of a ciphertext, by its one-time key
pub tag_of-seal : (key nonce ad ciphertext one_time_key : List ℕ) → one_time_key ≡ stream_bytes key nonce 0 32
    → tag_of one_time_key (authenticated ad ciphertext) ≡ seal_tag key nonce ad ciphertext
unfolding seal_tag
tag_of-seal key nonce ad ciphertext one_time_key e = ap (λ (k : List ℕ). tag_of k (authenticated ad ciphertext)) e

pub length-seal_tag : (key nonce ad ciphertext : List ℕ) → length (seal_tag key nonce ad ciphertext) ≡ 16
unfolding seal_tag
length-seal_tag key nonce ad ciphertext = refl

pub length-sealed : (key nonce ad text : List ℕ) → length (sealed key nonce ad text) ≡ length text + 16
length-sealed key nonce ad text =
    length-append (keystream_xor key nonce text) (seal_tag key nonce ad (keystream_xor key nonce text))
    ∙ ap (λ (n : ℕ). length (keystream_xor key nonce text) + n) (length-seal_tag key nonce ad
    (keystream_xor key nonce text))
    ∙ ap (λ (n : ℕ). n + 16) (length-masked key nonce text)

-- a ciphertext and a tag of 16 bytes that are what sealing gives for a text
pub sealed-parts : (key nonce ad text ciphertext tag : List ℕ) → length tag ≡ 16
    → ciphertext ++ tag ≡ sealed key nonce ad text
    → (ciphertext ≡ keystream_xor key nonce text) × (tag ≡ seal_tag key nonce ad ciphertext)
sealed-parts key nonce ad text ciphertext tag len e =
    let m : List ℕ = keystream_xor key nonce text in
    let t : List ℕ = seal_tag key nonce ad m in
    let tag_len : length t ≡ 16 = length-seal_tag key nonce ad m in
    let lengths : length m ≡ length ciphertext =
    omega (arith, length-append ciphertext tag, length-append m t, ap length e, tag_len) in
    let same : ciphertext ≡ m =
    sym (take_at ciphertext tag (length ciphertext) refl) ∙ ap (take (length ciphertext)) e
    ∙ take_at m t (length ciphertext) lengths in
    let tags : tag ≡ t = append_cancel_left m tag t (ap (λ (x : List ℕ). x ++ tag) (sym same) ∙ e) in
    (same, tags ∙ ap (seal_tag key nonce ad) (sym same))

-- a ciphertext and its tag are the sealing of the ciphertext masked once more
pub sealed-masked : (key nonce ad ciphertext tag : List ℕ) → tag ≡ seal_tag key nonce ad ciphertext
    → ciphertext ++ tag ≡ sealed key nonce ad (keystream_xor key nonce ciphertext)
sealed-masked key nonce ad ciphertext tag e =
    ap (λ (t : List ℕ). ciphertext ++ t) e
    ∙ ap (λ (x : List ℕ). x ++ seal_tag key nonce ad x) (sym (masked-twice key nonce ciphertext))

-- one-to-one in the text
pub sealed-same : (key nonce ad p q : List ℕ) → sealed key nonce ad p ≡ sealed key nonce ad q → p ≡ q
sealed-same key nonce ad p q e =
    let a : List ℕ = keystream_xor key nonce p in
    let t : List ℕ = seal_tag key nonce ad a in
    let same : a ≡ keystream_xor key nonce q = (sealed-parts key nonce ad q a t (length-seal_tag key nonce ad a) e).0 in
    sym (masked-twice key nonce p) ∙ ap (keystream_xor key nonce) same ∙ masked-twice key nonce q
