-- No word or line of a vector file is that of two values.
use Rattle.std.proofs.Common.{rules, arith, ◌≡◌, ◌∙◌, ◌+◌, ◌<◌, ◌==◌, ap, sym, refl, subst, true, false, true≢false, not, ℕ, List, ◌∷◌, ◌++◌, map, codes, length, get_or, Option, Some, None, []}
use Rattle.std.specs.Prelude.{decimal}
use Rattle.std.proofs.lemmas.Bool.{eq-eqb}
use Rattle.noise_vectors.proofs.Common.{IfSome, All, join_with_byte, list_all, and_parts, decimal_injective, append_cancel_left, append_cancel_right, All-head, All-tail, decode_of, encode_lower, lower_digits, decode_of-encode_lower, length-encode_with, IsSection, Section, is_base, is_base_byte, modifier, name_bytes, prefix, section_bytes, suffix, Window, width_of, AreLengths, hex_of, key_word, lengths_word, own_word, IsKey, lacks}
use Rattle.noise_keys.specs.declared.keys.Own.{Own}
use Rattle.noise_keys.specs.declared.keys.Own.TheVariants.{Ephemeral, Static}
use Rattle.noise_events.specs.declared.window.Window.TheVariants.{W64, W256, W1024}
use Rattle.noise_vectors.proofs.CutLemmas.{hyphen-cuts, lacks-comma}
use Rattle.noise_vectors.proofs.KeyLemmas.{decoded-key, length-key, bytes-at}
use Rattle.noise_vectors.proofs.WordLemmas.{not_lacks}
use Rattle.noise_vectors.proofs.AdditionLemmas.{width-small}

-- ---- texts parted by a byte

-- the first such byte parts a text in one way
pub parted-one : (byte : ℕ) (a b x y : List ℕ) → lacks byte a ≡ true → lacks byte b ≡ true → a ++ byte ∷ x ≡ b ++ byte ∷ y → (a ≡ b) × (x ≡ y)
parted-one byte [] [] x y h k e = (refl, cc (e))
parted-one byte [] (c ∷ cs) x y h k e = search rules
parted-one byte (c ∷ cs) [] x y h k e = search rules
parted-one byte (c ∷ cs) (d ∷ ds) x y h k e =
    let first : c ≡ d = cc (e) in
    let tails : cs ++ byte ∷ x ≡ ds ++ byte ∷ y = cc (e) in
    let hs = and_parts (not (c == byte)) (lacks byte cs) h in
    let ks = and_parts (not (d == byte)) (lacks byte ds) k in
    let more = parted-one byte cs ds x y hs.1 ks.1 tails in
    (cc (first, more.0), more.1)

-- ---- words

abbrev is_byte : ℕ → Type 0
is_byte b = b < 256

digits-one : (a b : List ℕ) → All (λ b. b < 256) a → All (λ b. b < 256) b → encode_lower a ≡ encode_lower b → a ≡ b
digits-one a b h k e =
    let same = sym (decode_of-encode_lower a (bytes-at a h)) ∙ ap decode_of e ∙ decode_of-encode_lower b (bytes-at b k) in
    cc (same)

hyphen-digits : (b : ℕ) (rest : List ℕ) → ¬ (encode_lower (b ∷ rest) ≡ codes "-")
hyphen-digits b rest e =
    let two = length-encode_with lower_digits (b ∷ rest) in
    let one : length (encode_lower (b ∷ rest)) ≡ 1 = ap length e in
    omega (arith, two, one)

pub hex-one : (a b : List ℕ) → All (λ b. b < 256) a → All (λ b. b < 256) b → hex_of a ≡ hex_of b → a ≡ b
hex-one [] [] h k e = refl
hex-one [] (b ∷ bs) h k e = absurd (hyphen-digits b bs (sym e))
hex-one (a ∷ xs) [] h k e = absurd (hyphen-digits a xs e)
hex-one (a ∷ xs) (b ∷ bs) h k e = digits-one (a ∷ xs) (b ∷ bs) h k e

pub key-one : (a b : List ℕ) → IsKey a → IsKey b → encode_lower a ≡ encode_lower b → a ≡ b
key-one a b h k e =
    let same = sym (decoded-key a (encode_lower a) h refl) ∙ decoded-key b (encode_lower a) k e in
    cc (same)

hyphen-key : (key : List ℕ) → IsKey key → ¬ (encode_lower key ≡ codes "-")
hyphen-key key h e =
    let long = length-key key h.0 in
    let one : length (encode_lower key) ≡ 1 = ap length e in
    omega (arith, long, one)

pub key_word-one : (a b : Option (List ℕ)) → IfSome a IsKey → IfSome b IsKey → key_word a ≡ key_word b → a ≡ b
key_word-one None None h k e = refl
key_word-one None (Some b) h k e = absurd (hyphen-key b k (sym e))
key_word-one (Some a) None h k e = absurd (hyphen-key a h e)
key_word-one (Some a) (Some b) h k e = ap Some (key-one a b h k e)

abbrev is_small : ℕ → Type 0
is_small n = n < 65536

number-one : (m n : ℕ) → m < 65536 → n < 65536 → decimal m ≡ decimal n → m ≡ n
number-one m n h k e = decimal_injective m n (omega arith) (omega arith) e

no-comma : (n : ℕ) (front after : List ℕ) → n < 65536 → ¬ (decimal n ≡ front ++ 44 ∷ after)
no-comma n front after h e = not_lacks 44 front after (subst (λ (t : List ℕ). lacks 44 t ≡ true) e (lacks-comma n h))

numbers-one : (m n : ℕ) (ms ns : List ℕ) → m < 65536 → n < 65536 → All (λ n. n < 65536) ms → All (λ n. n < 65536) ns
    → lengths_word (m ∷ ms) ≡ lengths_word (n ∷ ns) → m ∷ ms ≡ n ∷ ns
numbers-one m n [] [] h k hs ks e = ap (λ (l : ℕ). l ∷ []) (number-one m n h k e)
numbers-one m n [] (b ∷ bs) h k hs ks e = absurd (no-comma m (decimal n) (lengths_word (b ∷ bs)) h e)
numbers-one m n (a ∷ xs) [] h k hs ks e = absurd (no-comma n (decimal m) (lengths_word (a ∷ xs)) k (sym e))
numbers-one m n (a ∷ xs) (b ∷ bs) h k hs ks e =
    let parts = parted-one 44 (decimal m) (decimal n) (lengths_word (a ∷ xs)) (lengths_word (b ∷ bs)) (lacks-comma m h) (lacks-comma n k) e in
    let first = number-one m n h k parts.0 in
    let more = numbers-one a b xs bs (All-head is_small a xs hs) (All-head is_small b bs ks) (All-tail is_small a xs hs) (All-tail is_small b bs ks) parts.1 in
    cc (first, more)

pub lengths-one : (xs bs : List ℕ) → AreLengths xs → AreLengths bs → lengths_word xs ≡ lengths_word bs → xs ≡ bs
lengths-one [] bs h k e = sym (hyphen-cuts (codes "-") bs k refl e)
lengths-one (a ∷ xs) [] h k e = hyphen-cuts (codes "-") (a ∷ xs) h refl (sym e)
lengths-one (a ∷ xs) (b ∷ bs) h k e =
    numbers-one a b xs bs (All-head is_small a xs h.1) (All-head is_small b bs k.1) (All-tail is_small a xs h.1) (All-tail is_small b bs k.1) e

-- two numbers that differ are not one
pub numbers-apart : (m n : ℕ) → m ≡ n → (m == n) ≡ false → ⊥
numbers-apart m n e differ = true≢false (sym (eq-eqb m n e) ∙ differ)

pub first-byte : (x y : List ℕ) → x ≡ y → get_or x 0 0 ≡ get_or y 0 0
first-byte x y e = ap (λ (t : List ℕ). get_or t 0 0) e

pub own-one : (a b : Own) → own_word a ≡ own_word b → a ≡ b
own-one Ephemeral Ephemeral e = refl
own-one Static Static e = refl
own-one a b e = absurd (numbers-apart _ _ (first-byte (own_word a) (own_word b) e) refl)

width-one : (a b : Window) → width_of a ≡ width_of b → a ≡ b
width-one W64 W64 e = refl
width-one W256 W256 e = refl
width-one W1024 W1024 e = refl
width-one a b e = absurd (numbers-apart (width_of a) (width_of b) e refl)

pub window-one : (a b : Window) → decimal (width_of a) ≡ decimal (width_of b) → a ≡ b
window-one a b e = width-one a b (decimal_injective (width_of a) (width_of b) (width-small a) (width-small b) e)

-- ---- protocol names

base-bytes : (base : List ℕ) → is_base base ≡ true → list_all is_base_byte base ≡ true
base-bytes [] h = refl
base-bytes (b ∷ bs) h = search rules

-- a base ends where the next byte is of none
bases-one : (a b x y : List ℕ) → list_all is_base_byte a ≡ true → list_all is_base_byte b ≡ true → is_base_byte (get_or x 0 0) ≡ false
    → is_base_byte (get_or y 0 0) ≡ false → a ++ x ≡ b ++ y → (a ≡ b) × (x ≡ y)
bases-one [] [] x y h k hx hy e = (refl, e)
bases-one [] (c ∷ cs) x y h k hx hy e = search rules
bases-one (c ∷ cs) [] x y h k hx hy e = search rules
bases-one (c ∷ cs) (d ∷ ds) x y h k hx hy e =
    let first : c ≡ d = cc (e) in
    let tails : cs ++ x ≡ ds ++ y = cc (e) in
    let hs = and_parts (is_base_byte c) (list_all is_base_byte cs) h in
    let ks = and_parts (is_base_byte d) (list_all is_base_byte ds) k in
    let more = bases-one cs ds x y hs.1 ks.1 hx hy tails in
    (cc (first, more.0), more.1)

abbrev joined : List ℕ → List ℕ
joined ns = join_with_byte 43 (map modifier ns)

joined-first : (ns : List ℕ) → is_base_byte (get_or (joined ns) 0 0) ≡ false
joined-first [] = refl
joined-first (n ∷ []) = refl
joined-first (n ∷ m ∷ ns) = refl

-- the digit of the first modifier
digit-one : (m n : ℕ) (x y : List ℕ) → x ≡ y → get_or x 3 0 ≡ 48 + m → get_or y 3 0 ≡ 48 + n → m ≡ n
digit-one m n x y e h k = search rules

places-one : (ms ns : List ℕ) → joined ms ≡ joined ns → ms ≡ ns
places-one [] [] e = refl
places-one [] (n ∷ []) e = absurd (cc (e))
places-one [] (n ∷ b ∷ ns) e = absurd (cc (e))
places-one (m ∷ []) [] e = absurd (cc (e))
places-one (m ∷ a ∷ ms) [] e = absurd (cc (e))
places-one (m ∷ []) (n ∷ []) e = ap (λ (k : ℕ). k ∷ []) (digit-one m n (joined (m ∷ [])) (joined (n ∷ [])) e refl refl)
places-one (m ∷ []) (n ∷ b ∷ ns) e = absurd (cc (e))
places-one (m ∷ a ∷ ms) (n ∷ []) e = absurd (cc (e))
places-one (m ∷ a ∷ ms) (n ∷ b ∷ ns) e =
    let first = digit-one m n (joined (m ∷ a ∷ ms)) (joined (n ∷ b ∷ ns)) e refl refl in
    let tails : joined (a ∷ ms) ≡ joined (b ∷ ns) = cc (e) in
    let more = places-one (a ∷ ms) (b ∷ ns) tails in
    cc (first, more)

-- no protocol name is that of two sections
pub name-one : (s t : Section) → IsSection s → IsSection t → name_bytes s ≡ name_bytes t → s ≡ t
name-one s t h k e =
    let after = append_cancel_left prefix (section_bytes s.base s.places ++ suffix) (section_bytes t.base t.places ++ suffix) e in
    let parts = bases-one s.base t.base (joined s.places) (joined t.places) (base-bytes s.base h.base) (base-bytes t.base k.base)
    (joined-first s.places) (joined-first t.places) (append_cancel_right (section_bytes s.base s.places) (section_bytes t.base t.places) suffix after) in
    let places = places-one s.places t.places parts.1 in
    ap (λ (b : List ℕ). record s { base = b }) parts.0 ∙ ap (λ (ns : List ℕ). record t { places = ns }) places
