-- The first line of a text, and the lines that end the pre-messages.
use Rattle.std.proofs.Common.{rules, ◌≡◌, ◌≢◌, ℕ, ◌<◌, Bool, true, false, not, ◌||◌, cond, eqb, List, [], ◌∷◌, ◌++◌, refl, ap, sym, ◌∙◌, append_assoc, append-nil, length, length-append, arith, take, drop, take-append-drop, take_while, subst, ◌&&◌, All}
use Rattle.std.proofs.lemmas.List.Elements.{All-nil, All-cons}
use Rattle.std.proofs.lemmas.List.Sums.{take_while-cons}
use Rattle.noise_names.proofs.Common.{bytes_eq, list_all, slice_split_none, slice_split_at, IsLineBefore, line, first_line, dots, has_dots, append_cancel_left, nil_from_length, or-false}
use Rattle.noise_names.proofs.Sections.{front_is, take-front}

abbrev pub is_other : ℕ → Bool
is_other b = not (eqb b 10)

-- no line feed is among these bytes
abbrev pub no_feed : List ℕ → Bool
no_feed text = list_all is_other text

-- the first lines of two texts
pub first_same : (a b x y : List ℕ) → no_feed a ≡ true → no_feed b ≡ true → line a ++ x ≡ line b ++ y → (a ≡ b) × (x ≡ y)
first_same a b x y h k e =
    let cut : a ++ 10 ∷ x ≡ b ++ 10 ∷ y = sym (append_assoc a (10 ∷ []) x) ∙ e ∙ append_assoc b (10 ∷ []) y in
    let same : a ≡ b = sym (front_is is_other a 10 x h refl) ∙ ap (take_while is_other) cut ∙ front_is is_other b 10 y k refl in
    let rest : 10 ∷ x ≡ 10 ∷ y = append_cancel_left b (10 ∷ x) (10 ∷ y) (ap (λ (k : List ℕ). k ++ 10 ∷ x) (sym same) ∙ cut) in
    (same, cc)

-- the front that passes a test
pub take-while-all : (p : ℕ → Bool) (xs : List ℕ) → list_all p (take_while p xs) ≡ true
take-while-all p [] = refl
take-while-all p (x ∷ xs) = subst (λ (ys : List ℕ). list_all p ys ≡ true) (sym (take_while-cons p x xs)) (at (p x) refl (take-while-all p xs)) where
  at : (b : Bool) → p x ≡ b → list_all p (take_while p xs) ≡ true → list_all p (cond b (x ∷ take_while p xs) []) ≡ true
  at true e more = rw e more
  at false e more = refl

-- what follows that front begins with an element that does not pass
pub drop-while : (p : ℕ → Bool) (xs : List ℕ) (y : ℕ) (ys : List ℕ) → drop (length (take_while p xs)) xs ≡ y ∷ ys → p y ≡ false
drop-while p [] y ys e = absurd (cc)
drop-while p (x ∷ xs) y ys e =
    at (p x) refl (subst (λ (zs : List ℕ). drop (length zs) (x ∷ xs) ≡ y ∷ ys) (take_while-cons p x xs) e) (drop-while p xs y ys)
  where
    at : (b : Bool) → p x ≡ b → drop (length (cond b (x ∷ take_while p xs) [])) (x ∷ xs) ≡ y ∷ ys
        → (drop (length (take_while p xs)) xs ≡ y ∷ ys → p y ≡ false) → p y ≡ false
    at true h f more = more f
    at false h f more = let same : x ≡ y = cc in ap p (sym same) ∙ h

pub line-bytes : (text bytes : List ℕ) (n : ℕ) → n ≡ length (first_line text) → bytes ≡ take n text → bytes ≡ first_line text
line-bytes text bytes n count front = front ∙ ap (λ (k : ℕ). take k text) count ∙ take-front is_other text

pub line-ended : (text bytes back after : List ℕ) (b n : ℕ) → n ≡ length (first_line text) → bytes ≡ take n text → back ≡ drop n text → back ≡ b ∷ after
    → text ≡ line bytes ++ after
line-ended text bytes back after b n count front rest cut = search (rules, drop-while, take-append-drop, append_assoc)

pub line-cut : (text bytes back : List ℕ) (n : ℕ) → n ≡ length (first_line text) → bytes ≡ take n text → back ≡ drop n text → length back ≡ 0
    → (text ≡ bytes) × (back ≡ [])
line-cut text bytes back n count front rest none =
    let empty : back ≡ [] = nil_from_length back none in
    let parts : take n text ++ drop n text ≡ bytes ++ [] = ap (λ (x : List ℕ). x ++ drop n text) (sym front)
    ∙ ap (λ (x : List ℕ). bytes ++ x) (sym rest ∙ empty) in
    (sym (take-append-drop n text) ∙ parts ∙ append-nil bytes, empty)

-- whether the lines are among those of a text
none_feeds : (bytes : List ℕ) → no_feed bytes ≡ true → All (λ b. eqb b 10 ≡ false) bytes
none_feeds [] h = All-nil (λ b. eqb b 10 ≡ false)
none_feeds (b ∷ bs) h = at (eqb b 10) refl h (none_feeds bs) where
  at : (t : Bool) → eqb b 10 ≡ t → not t && no_feed bs ≡ true → (no_feed bs ≡ true → All (λ x. eqb x 10 ≡ false) bs)
      → All (λ x. eqb x 10 ≡ false) (b ∷ bs)
  at true e k more = absurd (let bad : false ≡ true = k in cc)
  at false e k more = All-cons (λ x. eqb x 10 ≡ false) b bs e (more k)

pub dots-line : (bytes after : List ℕ) → no_feed bytes ≡ true → has_dots (line bytes ++ after) ≡ bytes_eq bytes dots || has_dots after
dots-line bytes after h = search (append_assoc, slice_split_at, none_feeds)

pub dots-last : (bytes : List ℕ) → no_feed bytes ≡ true → has_dots bytes ≡ bytes_eq bytes dots
dots-last bytes h = search (rules, slice_split_none, none_feeds)

-- what a first line adds
pub dots-first : (text bytes after : List ℕ) (ended : Bool) → bytes ≡ first_line text → IsLineBefore text bytes ended after
    → has_dots text ≡ bytes_eq bytes dots || has_dots after
dots-first text bytes after true is whole = ap has_dots whole ∙ dots-line bytes after (ap no_feed is ∙ take-while-all is_other text)
dots-first text bytes after false is whole =
    ap has_dots (whole.0) ∙ dots-last bytes (ap no_feed is ∙ take-while-all is_other text) ∙ sym (or-false (bytes_eq bytes dots))
    ∙ ap (λ (x : List ℕ). bytes_eq bytes dots || has_dots x) (sym whole.1)

pub shorter : (text bytes after : List ℕ) (ended : Bool) → IsLineBefore text bytes ended after → length text ≢ 0 → length after < length text
shorter text bytes after true whole some = let count = simp length-append at (ap length whole) in omega arith
shorter text bytes after false whole some = let count : length after ≡ 0 = ap length whole.1 in omega arith

pub dots-more : (text rest bytes after : List ℕ) (ended : Bool) → bytes ≡ first_line rest → IsLineBefore rest bytes ended after
    → has_dots text ≡ has_dots rest → bytes_eq bytes dots ≡ false → has_dots text ≡ has_dots after
dots-more text rest bytes after ended is whole so none = so ∙ dots-first rest bytes after ended is whole ∙ ap (λ (b : Bool). b || has_dots after) none
