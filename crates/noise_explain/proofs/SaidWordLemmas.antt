-- A sentence that is said of a line's wrong word, and the word's shape.
use Rattle.std.proofs.Common.{arith, refl, subst, ◌≡◌, ◌⊎◌, inl, inr, ℕ, zero, suc, ◌+◌, ◌<◌, ◌==◌, ◌||◌, Bool, true, false, not, List, [], ◌∷◌, ◌++◌, Some, length, take, drop, codes}
use Rattle.std.specs.Prelude.{⊤, bytes_eq, count_by, slice_get, if◌then◌else◌}
use Rattle.std.proofs.Math.Seq.{drop-append_seam, take-append_seam}
use Rattle.std.proofs.lemmas.Bool.{and_parts}
use Rattle.std.proofs.lemmas.Bool.Decides.{nat_tests}
use Rattle.std.proofs.lemmas.List.{drop_all}
use Rattle.std.proofs.lemmas.List.Sums.{sum_by-append}
use Rattle.noise_vectors.specs.Words.{lacks}
use Rattle.noise_vectors.specs.declared.faults.LineKind.{LineKind}
use Rattle.noise_vectors.specs.declared.faults.LineKind.TheVariants as kinds
use Rattle.noise_explain.specs.VectorColumns.{HasShape, HaveShapes, IsShortLine, IsWrongWord, first_word, shapes_of, spaced, word_from}
use Rattle.noise_explain.specs.WordFaults.{IsListed, IsSaidOf, IsWrong, WordAsserts, spaces_before}
use Rattle.noise_explain.specs.declared.shapes.Shape.{Shape}
use Rattle.noise_explain.specs.declared.shapes.Shape.TheVariants as shapes
use Rattle.noise_explain.specs.declared.word_sentences.WordFault.{WordFault}
use Rattle.noise_explain.proofs.WalkLemmas.{HaveShapes-push, lacks-first_word}

-- ---- the shapes that lines have

abbrev AreListed : List Shape → Type 0
AreListed [] = ⊤
AreListed (s ∷ ss) = IsListed s × AreListed ss

either : (is : Bool) (ss : List Shape) → AreListed ss → AreListed (if is then ss else [])
either true ss h = h
either false ss h = tt

events-listed : (say deliver open_event write raw datagrams : Bool)
    → AreListed (if say then shapes.First ∷ shapes.Role ∷ shapes.Hex 65535 ∷ shapes.Cuts ∷ []
    else (if deliver then shapes.First ∷ shapes.Role ∷ shapes.Number 4294967295 ∷ shapes.Cuts ∷ []
    else (if open_event then shapes.First ∷ shapes.Role ∷ shapes.Number 4294967295 ∷ []
    else (if write then shapes.First ∷ shapes.Role ∷ shapes.Hex 65535 ∷ []
    else (if raw then shapes.First ∷ shapes.Role ∷ shapes.Hex 131072 ∷ []
    else (if datagrams then shapes.First ∷ shapes.Window ∷ [] else []))))))
events-listed true b c d e f = (tt, (tt, (inl refl, (tt, tt))))
events-listed false true c d e f = (tt, (tt, (inl refl, (tt, tt))))
events-listed false false true d e f = (tt, (tt, (inl refl, tt)))
events-listed false false false true e f = (tt, (tt, (inl refl, tt)))
events-listed false false false false true f = (tt, (tt, (inr refl, tt)))
events-listed false false false false false true = (tt, (tt, tt))
events-listed false false false false false false = tt

all-listed : (kind : LineKind) (first : List ℕ) → AreListed (shapes_of kind first)
all-listed kinds.Header first = either _ (shapes.First ∷ shapes.Version ∷ []) (tt, (tt, tt))
all-listed kinds.Protocol first = either _ (shapes.First ∷ shapes.Name ∷ []) (tt, (tt, tt))
all-listed kinds.Prologue first = either _ (shapes.First ∷ shapes.Hex 65535 ∷ []) (tt, (inl refl, tt))
all-listed kinds.Interval first = either _ (shapes.First ∷ shapes.Number 18446744073709551615 ∷ []) (tt, (inr refl, tt))
all-listed kinds.Psk first = either _ (shapes.First ∷ shapes.Key ∷ []) (tt, (tt, tt))
all-listed kinds.Keys first =
    either _ (shapes.First ∷ shapes.Kind ∷ shapes.MaybeKey ∷ shapes.MaybeKey ∷ []) (tt, (tt, (tt, (tt, tt))))
all-listed kinds.Answer first = either _ (shapes.First ∷ shapes.Own ∷ shapes.Key ∷ shapes.Key ∷ []) (tt, (tt, (tt, (tt, tt))))
all-listed kinds.Event first =
    events-listed (bytes_eq first (codes "say")) (bytes_eq first (codes "deliver")) (bytes_eq first (codes "open"))
    (bytes_eq first (codes "write") || bytes_eq first (codes "seal")) (bytes_eq first (codes "raw") || bytes_eq first (codes "foreign"))
    (bytes_eq first (codes "datagrams"))
all-listed kinds.Expect first = tt
all-listed kinds.Pattern first = tt
all-listed kinds.Ending first = tt

listed-at : (ss : List Shape) (i : ℕ) (s : Shape) → AreListed ss → slice_get ss i ≡ Some s → IsListed s
listed-at [] i s h e = absurd (cc (e))
listed-at (t ∷ ss) zero s h e =
    let same : t ≡ s = cc in
    subst IsListed same h.0
listed-at (t ∷ ss) (suc i) s h e = listed-at ss i s h.1 e

-- ---- spaces

no-spaces : (w : List ℕ) → lacks 32 w ≡ true → count_by (λ b. b == 32) w ≡ 0
no-spaces [] h = refl
no-spaces (x ∷ xs) h =
    let parts = and_parts (not (x == 32)) (lacks 32 xs) h in
    let other : (x == 32) ≡ false = grind (arith, nat_tests) in
    rw (other, no-spaces xs parts.1) refl

-- as many spaces as words
spaces-spaced : (ss : List Shape) (ws : List (List ℕ)) → HaveShapes ss ws → count_by (λ b. b == 32) (spaced ws) ≡ length ws
spaces-spaced ss [] h = refl
spaces-spaced [] (w ∷ ws) h = absurd h
spaces-spaced (s ∷ ss) (w ∷ ws) h =
    let more = spaces-spaced ss ws h.2 in
    let word = no-spaces w h.0 in
    let outer = sum_by-append (λ (b : ℕ). if b == 32 then 1 else 0) (w ++ codes " ") (spaced ws) in
    let inner = sum_by-append (λ (b : ℕ). if b == 32 then 1 else 0) w (codes " ") in
    omega (arith, outer, inner, word, more)

drop-at : (ss : List Shape) (i : ℕ) (s : Shape) → slice_get ss i ≡ Some s → (more : List Shape) × (drop i ss ≡ s ∷ more)
drop-at [] i s e = absurd (cc (e))
drop-at (t ∷ ss) zero s e = (ss, cc)
drop-at (t ∷ ss) (suc i) s e = drop-at ss i s e

-- ---- the wrong word

-- it isn't of the shape that stands at its place
not-of_shape : (ss : List Shape) (line : List ℕ) (at : ℕ) (s : Shape) → IsWrongWord ss line (at + 1)
    → slice_get ss (spaces_before line at) ≡ Some s → ¬ HasShape s (word_from line at)
not-of_shape ss line at s h place has =
    let len : length (spaced h.before) ≡ at = omega (arith, h.column_is) in
    let taken : take at line ≡ spaced h.before = rw (← len, h.line_is) (take-append_seam (spaced h.before) h.rest) in
    let left : drop at line ≡ h.rest = rw (← len, h.line_is) (drop-append_seam (spaced h.before) h.rest) in
    let count : spaces_before line at ≡ length h.before = rw taken (spaces-spaced ss h.before h.right) in
    let next = drop-at ss (length h.before) s (rw count at place) in
    let of_word : HasShape s (first_word h.rest) = rw left at has in
    h.wrong (HaveShapes-push ss h.before (first_word h.rest) s next.0 h.right next.1 (lacks-first_word h.rest) of_word)

-- where the line is too short, no word stands
no-word : (ss : List Shape) (line : List ℕ) (at : ℕ) → IsShortLine ss line (at + 1) → length (word_from line at) ≡ 0
no-word ss line at h =
    let none : drop at line ≡ [] = drop_all at line (omega (arith, h.column_is)) in
    rw none refl

pub said : (kind : LineKind) (line : List ℕ) (fault : WordFault) (at : ℕ) (s : Shape)
    → IsWrongWord (shapes_of kind (first_word line)) line (at + 1) ⊎ IsShortLine (shapes_of kind (first_word line)) line (at + 1)
    → slice_get (shapes_of kind (first_word line)) (spaces_before line at) ≡ Some s → 0 < length (word_from line at)
    → (IsWrong s (word_from line at) → WordAsserts fault s (word_from line at)) → IsSaidOf kind line fault
said kind line fault at s (inr short) place some asserts = absurd (omega (arith, no-word (shapes_of kind (first_word line)) line at short))
said kind line fault at s (inl wrong) place some asserts = record {
  at = at;
  shape = s;
  wrong = wrong;
  place = place;
  asserts = asserts record {
    some = some;
    wrong = not-of_shape (shapes_of kind (first_word line)) line at s wrong place;
    listed = listed-at (shapes_of kind (first_word line)) (spaces_before line at) s (all-listed kind (first_word line)) place;
  };
}
