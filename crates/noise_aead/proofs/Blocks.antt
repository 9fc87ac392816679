-- The keystream's words in order, and their bytes.
use Rattle.std.proofs.Common.{◌≡◌, ℕ, suc, ◌+◌, ◌*◌, ◌/◌, ◌%◌, ◌^◌, ◌<◌, ◌≤◌, List, [], ◌∷◌, ◌++◌, length, get_or, take, drop, map, refl, ap, sym, ◌∙◌, arith, length-append, length-drop, length-take-le}
use Rattle.std.proofs.lemmas.List.FromFn.{get_or-map-range_with_len, length-map-range_with_len}
use Rattle.noise_aead.proofs.Common.{w32, to_le_bytes, byte_at, flat_map, range_with_len, Each1, bit_xor, digits_l, number_l, zip2, ChaCha, word_at, next_word, byte_from, length-xored, xored}
use Rattle.noise_aead.specs.Sealing.{bytes_from}
use Rattle.noise_aead.proofs.Masking.{xored_more, zip2-xored}
use borrow.Rule.Slice.PartMut.{put_mid}

-- ---- bytes of words

digits_four : (n w y : ℕ) → w < 2 ^ 32
    → digits_l 256 (suc (suc (suc (suc n)))) (w + 2 ^ 32 * y) ≡ to_le_bytes w32 w ++ digits_l 256 n y
digits_four n w y small =
    let x : ℕ = w + 2 ^ 32 * y in
    let b0 : x % 256 ≡ w % 256 = omega arith in
    let b1 : x / 256 % 256 ≡ w / 256 % 256 = omega arith in
    let b2 : x / 256 / 256 % 256 ≡ w / 65536 % 256 = omega arith in
    let b3 : x / 256 / 256 / 256 % 256 ≡ w / 16777216 % 256 = omega arith in
    let rest : x / 256 / 256 / 256 / 256 ≡ y = omega arith in
    cc

-- words that are joined to one number, which is cut into bytes
pub words_cut : (words : List ℕ) → Each1 (λ w. w < 2 ^ 32) words → (n : ℕ) → n ≡ 4 * length words
    → digits_l 256 n (number_l (2 ^ 32) words) ≡ flat_map (to_le_bytes w32) words
words_cut [] small n e = let none : n ≡ 0 = omega arith in rw none refl
words_cut (w ∷ words) small n e =
    let k : ℕ = 4 * length words in
    let more : n ≡ suc (suc (suc (suc k))) = omega arith in
    rw more
    (digits_four k w (number_l (2 ^ 32) words) small.0
    ∙ ap (λ (bytes : List ℕ). to_le_bytes w32 w ++ bytes) (words_cut words small.1 k refl))

-- the bytes of 16 words from place p on
pub sixteen_words : (f : ℕ → ℕ) (p : ℕ)
    → flat_map (to_le_bytes w32) (f (p + 0) ∷ f (p + 1) ∷ f (p + 2) ∷ f (p + 3) ∷ f (p + 4) ∷ f (p + 5) ∷ f (p + 6) ∷ f (p + 7)
    ∷ f (p + 8) ∷ f (p + 9) ∷ f (p + 10) ∷ f (p + 11) ∷ f (p + 12) ∷ f (p + 13) ∷ f (p + 14) ∷ f (p + 15) ∷ [])
    ≡ map (λ j. byte_at (j % 4) (f (p + j / 4))) (range_with_len 0 64)
sixteen_words f p = refl

-- ---- the generator

-- the word n places after h, and the generator after it
pub next : (h g g' : ChaCha) (n w : ℕ) → g ≡ record h { word_pos = h.word_pos + n } → (w, g') ≡ next_word 10 g
    → h.word_pos + (n + 1) < 2 ^ 68
    → (w ≡ word_at 10 h.key h.stream (h.word_pos + n)) × (g' ≡ record h { word_pos = h.word_pos + (n + 1) })
next h g g' n w at e small =
    let here : w ≡ word_at 10 g.key g.stream g.word_pos = ap (λ (p : ℕ × ChaCha). p.0) e in
    let after : g' ≡ record g { word_pos = (g.word_pos + 1) % 2 ^ 68 } = ap (λ (p : ℕ × ChaCha). p.1) e in
    let place : (h.word_pos + n + 1) % 2 ^ 68 ≡ h.word_pos + (n + 1) = omega arith in (
      here ∙ ap (λ (x : ChaCha). word_at 10 x.key x.stream x.word_pos) at,
      after ∙ ap (λ (x : ChaCha). record x { word_pos = (x.word_pos + 1) % 2 ^ 68 }) at
          ∙ ap (λ (p : ℕ). record h { word_pos = p }) place,
    )

byte_of_word : (f : ℕ → ℕ) (a b c d : ℕ) → a ≡ b → c ≡ d → byte_at a (f c) ≡ byte_at b (f d)
byte_of_word f a b c d e h = cc

-- a generator i blocks after g gives the bytes from 64 i on
pub byte_from-later : (g h : ChaCha) (i k : ℕ) → h ≡ record g { word_pos = g.word_pos + 16 * i } → byte_from h k ≡ byte_from g (64 * i + k)
byte_from-later g h i k e =
    let within : k % 4 ≡ (64 * i + k) % 4 = omega arith in
    let place : g.word_pos + 16 * i + k / 4 ≡ g.word_pos + (64 * i + k) / 4 = omega arith in
    ap (λ (x : ChaCha). byte_from x k) e
    ∙ byte_of_word (word_at 10 g.key g.stream) (k % 4) ((64 * i + k) % 4) (g.word_pos + 16 * i + k / 4) (g.word_pos + (64 * i + k) / 4) within place

pub block-later : (g h after : ChaCha) (i : ℕ) → h ≡ record g { word_pos = g.word_pos + 16 * i }
    → after ≡ record h { word_pos = h.word_pos + 16 } → after ≡ record g { word_pos = g.word_pos + 16 * (i + 1) }
block-later g h after i at moved =
    let place : g.word_pos + 16 * i + 16 ≡ g.word_pos + 16 * (i + 1) = omega arith in
    moved ∙ ap (λ (x : ChaCha). record x { word_pos = x.word_pos + 16 }) at ∙ ap (λ (p : ℕ). record g { word_pos = p }) place

pub length_bytes_from : (g : ChaCha) (n : ℕ) → length (bytes_from g n) ≡ n
unfolding bytes_from
length_bytes_from g n = length-map-range_with_len (byte_from g) 0 n

pub get_or-bytes_from : (g : ChaCha) (n k : ℕ) → k < n → get_or (bytes_from g n) k 0 ≡ byte_from g k
unfolding bytes_from
get_or-bytes_from g n k h = get_or-map-range_with_len (byte_from g) 0 n k k 0 h (omega arith)

-- ---- text

-- a block of text with the bytes that are read for it
pub xored_words : (g : ChaCha) (text stream new : List ℕ) → length text ≡ 64 → stream ≡ bytes_from g 64 → new ≡ zip2 bit_xor text stream
    → new ≡ xored (byte_from g) 0 text
unfolding bytes_from
xored_words g text stream new len bytes is =
    is ∙ ap (zip2 bit_xor text) bytes ∙ ap (λ (n : ℕ). zip2 bit_xor text (map (byte_from g) (range_with_len 0 n))) (sym len)
    ∙ zip2-xored (byte_from g) 0 text

-- block i of a text whose blocks before it are done
pub block_done : (g h : ChaCha) (text done stream new : List ℕ) (i : ℕ) → 64 * i + 64 ≤ length text → h ≡ record g { word_pos = g.word_pos + 16 * i }
    → stream ≡ bytes_from h 64 → done ≡ xored (byte_from g) 0 (take (64 * i) text) ++ drop (64 * i) text
    → new ≡ zip2 bit_xor (take 64 (drop (64 * i) done)) stream
    → put_mid (64 * i) 64 done new ≡ xored (byte_from g) 0 (take (64 * i + 64) text) ++ drop (64 * i + 64) text
block_done g h text done stream new i fits at bytes before is =
    let front : List ℕ = take (64 * i) text in
    let same : length done ≡ length text =
    omega (
      arith,
      ap length before,
      length-append (xored (byte_from g) 0 front) (drop (64 * i) text),
      length-xored (byte_from g) 0 front,
      length-take-le (64 * i) text (omega arith),
      length-drop (64 * i) text,
    ) in
    let here : List ℕ = take 64 (drop (64 * i) done) in
    let len : length here ≡ 64 = length-take-le 64 (drop (64 * i) done) (omega (arith, length-drop (64 * i) done)) in
    xored_more (byte_from g) (byte_from h) text done new (64 * i) 64 (64 * i + 64) (omega arith) fits (λ k. byte_from-later g h i k at) before
    (xored_words h here stream new len bytes is)
