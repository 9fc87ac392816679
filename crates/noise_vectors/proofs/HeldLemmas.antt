-- The lines that are expected, as a file holds them.
use Rattle.std.proofs.Common.{rules, arith, ◌≡◌, ◌+◌, ◌<◌, ◌≤◌, ◌^◌, ap, refl, true, ℕ, List, ◌∷◌, ◌++◌, length, Vec, []}
use Rattle.std.specs.Global.{Global}
use Rattle.noise_vectors.proofs.Common.{All, length-append, All-cons, All-head, All-nil, All-tail, bytes_of, expect_kind, IsExpected, expect_line, expect_words, line_then, lines_of, lacks}
use Rattle.noise_vectors.proofs.AdditionLemmas.{expected-line}
use Rattle.noise_vectors.specs.declared.faults.LineKind.TheVariants as kinds

abbrev pub Good : List ℕ → Type 0
Good words = IsExpected words × (length words < 2 ^ 63)

pub partial-lines : (vs : List (Vec ℕ Global)) (rest : List ℕ) → lines_of expect_words vs rest ≡ lines_of expect_line (bytes_of vs) rest
partial-lines [] rest = refl
partial-lines (v ∷ vs) rest = ap (line_then (expect_line v.items)) (partial-lines vs rest)

pub partial-good : (vs : List (Vec ℕ Global)) → All (λ (words : Vec ℕ Global). IsExpected words.items) vs → All Good (bytes_of vs)
partial-good [] h = All-nil Good
partial-good (v ∷ vs) h =
    let first = All-head (λ (words : Vec ℕ Global). IsExpected words.items) v vs h in
    let len = v.ok.0 in
    let few = v.ok.1 in
    let small = v.small in
    All-cons Good v.items (bytes_of vs) (first, omega (arith, len, few, small))
    (partial-good vs (All-tail (λ (words : Vec ℕ Global). IsExpected words.items) v vs h))

pub good-plain : (words : List ℕ) → Good words → lacks 10 (expect_line words) ≡ true
good-plain words h = expected-line words h.0

pub good-stands : (words rest : List ℕ) → ¬ (line_then (expect_line words) rest ≡ [])
good-stands words rest e = absurd (cc e)

-- after a line more, a wrong one is reported as one of what is expected
pub expect-more : (vs : List (Vec ℕ Global)) (words : Vec ℕ Global) → kinds.Expect ≡ expect_kind (bytes_of (vs ++ words ∷ []))
expect-more [] words = refl
expect-more (v ∷ vs) words = refl

lines-size : {A : Type 0} (words : A → List ℕ) (xs : List A) (rest : List ℕ) → length xs + length rest ≤ length (lines_of words xs rest)
lines-size words [] rest = omega arith
lines-size words (x ∷ xs) rest = search (rules, length-append, (lines-size words xs rest))

-- Lines that were read, and one more, are no more than the bytes of their text.
pub lines-long : {A : Type 0} (words : A → List ℕ) (xs : List A) (from left after : List ℕ) → from ≡ lines_of words xs left → length after < length left
    → length xs + 1 ≤ length from
lines-long words xs from left after e more = search (rules, lines-size)
