-- Lines of the output, one after the other.
use Rattle.std.proofs.Common.{◌≡◌, ℕ, zero, suc, ◌+◌, List, [], ◌∷◌, ◌++◌, ◌<◌, ◌≤◌, ◌∙◌, ap, ap₂, sym, refl, subst, Vec, Option, get_or, take, drop, length, append_assoc, add-one, arith}
use Rattle.std.specs.Prelude.{slice_get, Some, None}
use Rattle.std.specs.Global.{Global}
use Rattle.std.proofs.Math.Seq.{take-suc}
use Rattle.std.proofs.lemmas.Grind.{flat_map-append}
use Rattle.std.proofs.lemmas.List.Folds.{flat_map-map}
use Rattle.std.proofs.lemmas.Option.{slice_get_read, slice_get_within, get_or_from_slice_get}
use Rattle.noise_lines.proofs.Common.{flat_map, range_with_len, Appends, Appends-trans, flat_map_more, take-append-drop, take_all, line, bytes_of, lines_text, AppendsPrefix}
use Rattle.noise_names.specs.Fundamental.{fundamentals}
use Rattle.noise_lines.proofs.PrefixLemmas.{prefix-after}

pub fundamentals-count : length fundamentals ≡ 15
unfolding fundamentals
fundamentals-count = refl

-- one number more
pub range-more : (a n : ℕ) → range_with_len a (suc n) ≡ range_with_len a n ++ (a + n) ∷ []
range-more a zero = ap (λ (k : ℕ). k ∷ []) (omega arith)
range-more a (suc n) =
    ap (λ (ks : List ℕ). a ∷ ks) (range-more (a + 1) n)
    ∙ ap (λ (k : ℕ). a ∷ range_with_len (a + 1) n ++ k ∷ []) (omega arith)

-- the lines of one number more
pub lines-more : (line : ℕ → List ℕ) (before : List ℕ) (n : ℕ)
    → (before ++ flat_map line (range_with_len 1 n)) ++ line (n + 1) ≡ before ++ flat_map line (range_with_len 1 (n + 1))
lines-more line before n =
    ap (λ (k : ℕ). (before ++ flat_map line (range_with_len 1 n)) ++ line k) (omega arith)
    ∙ flat_map_more line before (range_with_len 1 n) (1 + n)
    ∙ ap (λ (ks : List ℕ). before ++ flat_map line ks) (sym (range-more 1 n))
    ∙ ap (λ (k : ℕ). before ++ flat_map line (range_with_len 1 k)) (sym (add-one n))

-- the lines of one element more
pub elements-more : {X : Type 0} (line : X → List ℕ) (xs : List X) (i : ℕ) (x : X) → slice_get xs i ≡ Some x
    → flat_map line (take i xs) ++ line x ≡ flat_map line (take (i + 1) xs)
elements-more {X = X} line xs i x found =
    flat_map_more line [] (take i xs) x
    ∙ ap (λ (e : X). flat_map line (take i xs ++ e ∷ [])) (sym (get_or_from_slice_get xs i x x found))
    ∙ ap (λ (ys : List X). flat_map line ys) (sym (take-suc xs i x (slice_get_within xs i x found)))
    ∙ ap (λ (k : ℕ). flat_map line (take k xs)) (sym (add-one i))

-- where no element stands, the list has ended
pub none-past : {X : Type 0} (xs : List X) (i : ℕ) → slice_get xs i ≡ None → length xs ≤ i
none-past [] i e = omega arith
none-past (x ∷ xs) zero e = absurd (cc)
none-past (x ∷ xs) (suc i) e = omega (arith, none-past xs i e)

-- ---- written

-- the element at a place that a loop has come to
at-place : {X : Type 0} (xs items : List X) (i : ℕ) (x : X) → items ≡ xs → i < length items → x ≡ get_or items i x → slice_get xs i ≡ Some x
at-place xs items i x same less is =
    let found : slice_get items i ≡ Some x = slice_get_read items (length items) i x refl less is in
    rw (← same) found

abbrev pub written_line : Vec ℕ Global → List ℕ
written_line l = line l.items

-- one line more is written, and its LF (10)
pub line-written : (lines items : List (Vec ℕ Global)) (i : ℕ) (x : Vec ℕ Global) (text feed : List ℕ) (a b c e : Option (List ℕ))
    → items ≡ lines → i < length items → x ≡ get_or items i x → text ≡ x.items → feed ≡ 10 ∷ []
    → Appends a b (flat_map written_line (take i lines)) → Appends b c text → Appends c e feed → Appends a e (flat_map written_line (take (i + 1) lines))
line-written lines items i x text feed a b c e same less is text_is feed_is before now last =
    subst (λ (t : List ℕ). Appends a e t)
    (ap₂ (λ (t u : List ℕ). flat_map written_line (take i lines) ++ (t ++ u)) text_is feed_is
    ∙ elements-more written_line lines i x (at-place lines items i x same less is))
    (Appends-trans a b e (flat_map written_line (take i lines)) (text ++ feed) before (Appends-trans b c e text feed now last))

pub lines-written : (lines items : List (Vec ℕ Global)) (i : ℕ) (a b : Option (List ℕ)) → items ≡ lines → length items ≤ i
    → Appends a b (flat_map written_line (take i lines)) → Appends a b (lines_text (bytes_of lines))
lines-written lines items i a b same all written =
    let past : length lines ≤ i = rw (← same) all in
    subst (λ (t : List ℕ). Appends a b t)
    (ap (λ (ls : List (Vec ℕ Global)). flat_map written_line ls) (take_all i lines past)
    ∙ sym (flat_map-map line (λ (l : Vec ℕ Global). l.items) lines)) written

-- the text of all lines, by the one at a place
at-line : (lines items : List (Vec ℕ Global)) (i : ℕ) (x : Vec ℕ Global) → items ≡ lines → i < length items → x ≡ get_or items i x
    → lines_text (bytes_of lines) ≡ flat_map written_line (take i lines) ++ (x.items ++ 10 ∷ flat_map written_line (drop (i + 1) lines))
at-line lines items i x same less is =
    let before = flat_map written_line (take i lines) in
    let after = flat_map written_line (drop (i + 1) lines) in
    flat_map-map line (λ (l : Vec ℕ Global). l.items) lines
    ∙ ap (λ (ls : List (Vec ℕ Global)). flat_map written_line ls) (sym (take-append-drop (i + 1) lines))
    ∙ flat_map-append written_line (take (i + 1) lines) (drop (i + 1) lines)
    ∙ ap (λ (t : List ℕ). t ++ after) (sym (elements-more written_line lines i x (at-place lines items i x same less is)))
    ∙ append_assoc before (written_line x) after
    ∙ ap (λ (t : List ℕ). before ++ t) (append_assoc x.items (10 ∷ []) after)

-- a write was refused within a line
pub line-cut : (lines items : List (Vec ℕ Global)) (i : ℕ) (x : Vec ℕ Global) (text : List ℕ) (a b c : Option (List ℕ))
    → items ≡ lines → i < length items → x ≡ get_or items i x → text ≡ x.items
    → Appends a b (flat_map written_line (take i lines)) → AppendsPrefix b c text → AppendsPrefix a c (lines_text (bytes_of lines))
line-cut lines items i x text a b c same less is text_is before now =
    let after = flat_map written_line (drop (i + 1) lines) in
    prefix-after a b c (flat_map written_line (take i lines)) text (10 ∷ after) (lines_text (bytes_of lines)) before now
    (at-line lines items i x same less is ∙ ap (λ (t : List ℕ). flat_map written_line (take i lines) ++ (t ++ 10 ∷ after)) (sym text_is))

-- or before its LF
pub feed-cut : (lines items : List (Vec ℕ Global)) (i : ℕ) (x : Vec ℕ Global) (text feed : List ℕ) (a b c e : Option (List ℕ))
    → items ≡ lines → i < length items → x ≡ get_or items i x → text ≡ x.items → feed ≡ 10 ∷ []
    → Appends a b (flat_map written_line (take i lines)) → Appends b c text → AppendsPrefix c e feed → AppendsPrefix a e (lines_text (bytes_of lines))
feed-cut lines items i x text feed a b c e same less is text_is feed_is before now last =
    let after = flat_map written_line (drop (i + 1) lines) in
    let first = flat_map written_line (take i lines) in
    prefix-after a c e (first ++ text) feed after (lines_text (bytes_of lines)) (Appends-trans a b c first text before now) last
    (at-line lines items i x same less is ∙ sym (append_assoc first x.items (10 ∷ after))
    ∙ ap₂ (λ (t u : List ℕ). (first ++ t) ++ (u ++ after)) (sym text_is) (sym feed_is))
