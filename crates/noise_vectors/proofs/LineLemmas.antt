-- Lines that are read one after the other.
use Rattle.std.proofs.Common.{rules, arith, ◌≡◌, ◌∙◌, ◌+◌, ◌-◌, ap, refl, sym, Bool, ℕ, List, ◌∷◌, ◌++◌, length, take, []}
use Rattle.std.specs.Bool.{nat_eq}
use Rattle.noise_vectors.proofs.Common.{starts_with, append_assoc, length-append, take-append_seam, line_then, lines_of}

pub lines_of-push : {A : Type 0} (words : A → List ℕ) (xs : List A) (x : A) (rest : List ℕ)
    → lines_of words xs (line_then (words x) rest) ≡ lines_of words (xs ++ x ∷ []) rest
lines_of-push words [] x rest = refl
lines_of-push words (y ∷ ys) x rest = ap (λ (t : List ℕ). line_then (words y) t) (lines_of-push words ys x rest)

-- one line more is read
pub lines_of-more : {A : Type 0} (words : A → List ℕ) (start rest text after : List ℕ) (xs : List A) (x : A)
    → start ≡ lines_of words xs rest → rest ≡ line_then text after → text ≡ words x → start ≡ lines_of words (xs ++ x ∷ []) after
lines_of-more words start rest text after xs x before next is = search (rules, lines_of-push)

-- what is left is the text's end
abbrev pub Ends : List ℕ → List ℕ → Type 0
Ends text rest = (before : List ℕ) × (text ≡ before ++ rest)

-- that lasts where a line is read
pub Ends-after : (text rest read after : List ℕ) → Ends text rest → rest ≡ line_then read after → Ends text after
Ends-after text rest read after (before, e) next = (
  before ++ (read ++ 10 ∷ []),
  e ∙ ap (λ (t : List ℕ). before ++ t) (next ∙ sym (append_assoc read (10 ∷ []) after))
      ∙ sym (append_assoc before (read ++ 10 ∷ []) after),
)

-- the text is its front and its end
pub Ends-whole : (text rest : List ℕ) → Ends text rest → text ≡ take (length text - length rest) text ++ rest
Ends-whole text rest (before, e) =
    let len : length text ≡ length before + length rest = ap length e ∙ length-append before rest in
    let n : length text - length rest ≡ length before = omega arith in
    let same : take (length text - length rest) text ≡ before = rw n (ap (take (length before)) e ∙ take-append_seam before rest) in
    e ∙ ap (λ (t : List ℕ). t ++ rest) (sym same)

-- a text begins with this front as far as the test says
pub begun-by : (left : List ℕ) {front word : List ℕ} {test : Bool} → word ≡ front → test ≡ starts_with nat_eq left word → starts_with nat_eq left front ≡ test
begun-by left is e = ap (starts_with nat_eq left) (sym is) ∙ sym e
