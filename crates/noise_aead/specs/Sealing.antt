-- ChaCha20-Poly1305 (RFC 8439, 2.3 to 2.8) by place of the keystream's words, and Noise's use of it (Noise 12.3, 4.2).
-- A byte is a number below 256.
use Rattle.std.specs.Prelude.{ℕ, suc, ◌+◌, ◌-◌, ◌*◌, ◌/◌, ◌%◌, ◌^◌, List, [], ◌∷◌, ◌++◌, length, take, drop, map, replicate, bit_xor}
use Rattle.std.specs.List.{range_with_len}
use Rattle.std.specs.Int.{w64, to_le_bytes, byte_at}
use Rattle.rand_chacha.specs.ChaCha.{ChaCha, word_at, key_of}
use Rattle.noise_poly.specs.Poly.{number, tag_of}

-- byte j of what the generator gives from its place on: each word gives its 4 bytes, the lowest first
abbrev pub byte_from : ChaCha → ℕ → ℕ
byte_from g j = byte_at (j % 4) (word_at 10 g.key g.stream (g.word_pos + j / 4))

-- the first n bytes of what the generator gives from its place on
unfoldable pub bytes_from : ChaCha → ℕ → List ℕ
bytes_from g n = map (byte_from g) (range_with_len 0 n)

-- the generator of a key and a 12-byte nonce at the first of the 16 words of block b. The nonce's first 4 bytes count
-- 2^32 blocks each, its last 8 name the stream.
abbrev pub generator_at : List ℕ → List ℕ → ℕ → ChaCha
generator_at key nonce b = record {
  key = key_of key;
  stream = number (drop 4 nonce);
  word_pos = 16 * (number (take 4 nonce) * 2 ^ 32 + b);
}

-- byte j of the keystream from block b on
abbrev pub stream_byte : List ℕ → List ℕ → ℕ → ℕ → ℕ
stream_byte key nonce b j = byte_from (generator_at key nonce b) j

-- the first n bytes of the keystream from block b on
abbrev pub stream_bytes : List ℕ → List ℕ → ℕ → ℕ → List ℕ
stream_bytes key nonce b n = bytes_from (generator_at key nonce b) n

-- the text, byte by byte, xor what f gives from j on
abbrev pub xored : (ℕ → ℕ) → ℕ → List ℕ → List ℕ
xored f j [] = []
xored f j (x ∷ text) = bit_xor x (f j) ∷ xored f (suc j) text

-- encryption and decryption without the tag: the text xor the keystream from block 1 on
abbrev pub keystream_xor : List ℕ → List ℕ → List ℕ → List ℕ
keystream_xor key nonce text = xored (stream_byte key nonce 1) 0 text

-- the least number of zeros that makes the length a multiple of 16
abbrev pub padding : List ℕ → List ℕ
padding text = replicate ((16 - length text % 16) % 16) 0

-- what the tag is computed over
abbrev pub authenticated : List ℕ → List ℕ → List ℕ
authenticated ad ciphertext =
    ad ++ padding ad ++ ciphertext ++ padding ciphertext
    ++ to_le_bytes w64 (length ad) ++ to_le_bytes w64 (length ciphertext)

-- the tag of a ciphertext: the one-time key is the first 32 bytes of block 0
unfoldable pub seal_tag : List ℕ → List ℕ → List ℕ → List ℕ → List ℕ
seal_tag key nonce ad ciphertext = tag_of (stream_bytes key nonce 0 32) (authenticated ad ciphertext)

-- the ciphertext and its tag
abbrev pub sealed : List ℕ → List ℕ → List ℕ → List ℕ → List ℕ
sealed key nonce ad text = keystream_xor key nonce text ++ seal_tag key nonce ad (keystream_xor key nonce text)

-- the nonce of a counter (Noise 12.3)
abbrev pub nonce_of : ℕ → List ℕ
nonce_of n = 0 ∷ 0 ∷ 0 ∷ 0 ∷ to_le_bytes w64 n

-- a new key from a key (Noise 4.2)
unfoldable pub rekeyed : List ℕ → List ℕ
rekeyed key = take 32 (sealed key (nonce_of (2 ^ 64 - 1)) [] (replicate 32 0))
