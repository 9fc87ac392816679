-- The text xor the keystream, byte by byte.
use Rattle.std.proofs.Common.{◌≡◌, ℕ, zero, suc, ◌+◌, ◌<◌, ◌≤◌, List, [], ◌∷◌, ◌++◌, length, get_or, take, drop, replicate, map, refl, ap, sym, ◌∙◌, arith, add-zero, add-one, append_assoc, append-nil, take_all, drop-drop, length-take-le}
use Rattle.std.proofs.Math.ListN.{drop_of_length-le}
use Rattle.std.proofs.Math.Seq.{take-add}
use Rattle.noise_aead.proofs.Common.{bit_xor, range_with_len, zip2, ext_get_or, take_at, drop_at, xored, length-xored}
use borrow.Rule.Slice.PartMut.{put_mid}

pub get_or-xored : (f : ℕ → ℕ) (j : ℕ) (text : List ℕ) (k : ℕ) → k < length text
    → get_or (xored f j text) k 0 ≡ bit_xor (get_or text k 0) (f (j + k))
get_or-xored f j [] k h = absurd (omega arith)
get_or-xored f j (x ∷ text) zero h = ap (λ (n : ℕ). bit_xor x (f n)) (sym (add-zero j))
get_or-xored f j (x ∷ text) (suc k) h =
    let same : suc j + k ≡ j + suc k = omega arith in
    get_or-xored f (suc j) text k (omega arith) ∙ ap (λ (n : ℕ). bit_xor (get_or text k 0) (f n)) same

-- a text whose every byte was changed so
pub is_xored : (f : ℕ → ℕ) (text done : List ℕ) → length done ≡ length text
    → ((k : ℕ) → k < length text → get_or done k 0 ≡ bit_xor (get_or text k 0) (f k)) → done ≡ xored f 0 text
is_xored f text done len each =
    ext_get_or 0 done (xored f 0 text) (len ∙ sym (length-xored f 0 text))
    (λ (k : ℕ) (h : k < length done).
    let within : k < length text = omega arith in
    let same : 0 + k ≡ k = omega arith in
    each k within ∙ sym (get_or-xored f 0 text k within ∙ ap (λ (n : ℕ). bit_xor (get_or text k 0) (f n)) same))

-- zeros show the keystream
pub xored-zeros : (f : ℕ → ℕ) (j n : ℕ) → xored f j (replicate n 0) ≡ map f (range_with_len j n)
xored-zeros f j zero = refl
xored-zeros f j (suc n) = ap (λ (bytes : List ℕ). f j ∷ bytes) (rw add-one (xored-zeros f (suc j) n))

-- lane by lane
pub zip2-xored : (f : ℕ → ℕ) (j : ℕ) (text : List ℕ) → zip2 bit_xor text (map f (range_with_len j (length text))) ≡ xored f j text
zip2-xored f j [] = refl
zip2-xored f j (x ∷ text) = ap (λ (bytes : List ℕ). bit_xor x (f j) ∷ bytes) (rw add-one (zip2-xored f (suc j) text))

xored-append : (f : ℕ → ℕ) (j : ℕ) (a b : List ℕ) → xored f j (a ++ b) ≡ xored f j a ++ xored f (j + length a) b
xored-append f j [] b = ap (λ (n : ℕ). xored f n b) (sym (add-zero j))
xored-append f j (x ∷ a) b =
    let same : suc j + length a ≡ j + suc (length a) = omega arith in
    ap (λ (bytes : List ℕ). bit_xor x (f j) ∷ bytes)
    (xored-append f (suc j) a b ∙ ap (λ (n : ℕ). xored f (suc j) a ++ xored f n b) same)

xored-later : (f g : ℕ → ℕ) (d : ℕ) → ((k : ℕ) → g k ≡ f (d + k)) → (j : ℕ) (text : List ℕ) → xored g j text ≡ xored f (d + j) text
xored-later f g d same j [] = refl
xored-later f g d same j (x ∷ text) =
    let next : d + suc j ≡ suc (d + j) = omega arith in
    ap (λ (b : ℕ). bit_xor x b ∷ xored g (suc j) text) (same j)
    ∙ ap (λ (bytes : List ℕ). bit_xor x (f (d + j)) ∷ bytes)
    (xored-later f g d same (suc j) text ∙ ap (λ (n : ℕ). xored f n text) next)

-- n bytes more are done, from a on
pub xored_more : (f g : ℕ → ℕ) (text done new : List ℕ) (a n e : ℕ) → a + n ≡ e → e ≤ length text
    → ((k : ℕ) → g k ≡ f (a + k)) → done ≡ xored f 0 (take a text) ++ drop a text
    → new ≡ xored g 0 (take n (drop a done)) → put_mid a n done new ≡ xored f 0 (take e text) ++ drop e text
xored_more f g text done new a n e end fits same before now =
    let front : List ℕ = xored f 0 (take a text) in
    let next : List ℕ = take n (drop a text) in
    let front_len : length (take a text) ≡ a = length-take-le a text (omega arith) in
    let len : length front ≡ a = length-xored f 0 (take a text) ∙ front_len in
    let kept : take a done ≡ front = ap (take a) before ∙ take_at front (drop a text) a len in
    let left : drop a done ≡ drop a text = ap (drop a) before ∙ drop_at front (drop a text) a len in
    let after : drop n (drop a done) ≡ drop e text = ap (drop n) left ∙ drop-drop n a text ∙ ap (λ (k : ℕ). drop k text) end in
    let more : new ≡ xored f (a + 0) next =
    now ∙ ap (λ (bytes : List ℕ). xored g 0 (take n bytes)) left ∙ xored-later f g a same 0 next in
    let place : 0 + length (take a text) ≡ a + 0 = omega arith in
    let whole : xored f 0 (take e text) ≡ front ++ xored f (a + 0) next =
    ap (λ (k : ℕ). xored f 0 (take k text)) (sym end) ∙ ap (xored f 0) (take-add a n text) ∙ xored-append f 0 (take a text) next
    ∙ ap (λ (k : ℕ). front ++ xored f k next) place in
    ap (λ (bytes : List ℕ). bytes ++ (new ++ drop n (drop a done))) kept
    ∙ ap (λ (bytes : List ℕ). front ++ (bytes ++ drop n (drop a done))) more
    ∙ ap (λ (bytes : List ℕ). front ++ (xored f (a + 0) next ++ bytes)) after
    ∙ sym (append_assoc front (xored f (a + 0) next) (drop e text))
    ∙ ap (λ (bytes : List ℕ). bytes ++ drop e text) (sym whole)

-- when all of the text is done
pub all_done : (f : ℕ → ℕ) (text done : List ℕ) (e : ℕ) → e ≡ length text → done ≡ xored f 0 (take e text) ++ drop e text → done ≡ xored f 0 text
all_done f text done e end is =
    is ∙ ap (λ (bytes : List ℕ). xored f 0 (take e text) ++ bytes) (drop_of_length-le text {i = e} (omega arith)) ∙ append-nil (xored f 0 (take e text))
    ∙ ap (xored f 0) (take_all e text (omega arith))
