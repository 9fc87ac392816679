-- The first half of block 0 is the one-time key, and the generator then stands at block 1.
use Rattle.std.proofs.Common.{◌≡◌, ◌+◌, ◌*◌, ◌%◌, ◌^◌, List, ℕ, take, ap, ◌∙◌, arith}
use Rattle.noise_aead.proofs.Common.{ChaCha, number, tag_of, authenticated, byte_from, generator_at, keystream_xor, seal_tag, stream_bytes, xored, tag_of-seal}
use Rattle.noise_aead.specs.Sealing.{bytes_from}

key-first : (key nonce one_time_key : List ℕ) (words : ChaCha) → words ≡ generator_at key nonce 0 → one_time_key ≡ bytes_from words 32
    → one_time_key ≡ stream_bytes key nonce 0 32
key-first key nonce one_time_key words at bytes = bytes ∙ ap (λ (g : ChaCha). bytes_from g 32) at

block-next : (key nonce : List ℕ) (words after : ChaCha) → words ≡ generator_at key nonce 0 → after ≡ record words { word_pos = words.word_pos + 16 }
    → after ≡ generator_at key nonce 1
block-next key nonce words after at moved =
    let front : ℕ = number (take 4 nonce) in
    let next : 16 * (front * 2 ^ 32 + 0) + 16 ≡ 16 * (front * 2 ^ 32 + 1) = omega arith in
    moved ∙ ap (λ (g : ChaCha). record g { word_pos = g.word_pos + 16 }) at
    ∙ ap (λ (p : ℕ). record (generator_at key nonce 1) { word_pos = p }) next

-- the generator then stands at the beginning of a block
pub at-block : (key nonce : List ℕ) (words after : ChaCha) → words ≡ generator_at key nonce 0 → after ≡ record words { word_pos = words.word_pos + 16 }
    → after.word_pos % 16 ≡ 0
at-block key nonce words after at moved =
    let front : ℕ = number (take 4 nonce) in
    let place : after.word_pos ≡ 16 * (front * 2 ^ 32 + 1) = ap (λ (g : ChaCha). g.word_pos) (block-next key nonce words after at moved) in
    omega (arith, place)

-- the tag of a ciphertext, by the one-time key
pub tag-first : (key nonce ad ciphertext one_time_key tag : List ℕ) (words : ChaCha) → words ≡ generator_at key nonce 0
    → one_time_key ≡ bytes_from words 32 → tag ≡ tag_of one_time_key (authenticated ad ciphertext) → tag ≡ seal_tag key nonce ad ciphertext
tag-first key nonce ad ciphertext one_time_key tag words at bytes is =
    is ∙ tag_of-seal key nonce ad ciphertext one_time_key (key-first key nonce one_time_key words at bytes)

-- the text xor the keystream after it
pub text-next : (key nonce old new : List ℕ) (words after : ChaCha) → words ≡ generator_at key nonce 0
    → after ≡ record words { word_pos = words.word_pos + 16 } → new ≡ xored (byte_from after) 0 old → new ≡ keystream_xor key nonce old
text-next key nonce old new words after at moved is =
    is ∙ ap (λ (g : ChaCha). xored (byte_from g) 0 old) (block-next key nonce words after at moved)
