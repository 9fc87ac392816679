-- Which line is reported: the files that begin with the lines before it, and that none goes on with it.
use Rattle.std.proofs.Common.{arith, subst, ◌≡◌, ◌∙◌, ◌+◌, ◌≤◌, ◌==◌, inl, inr, not, ap, refl, sym, true, false, Bool, ℕ, List, ◌∷◌, cond, length, true≢false, []}
use Rattle.std.specs.Bool.{nat_eq}
use Rattle.std.proofs.lemmas.List.Sums.{count_by-le-length, sum_by-cons}
use Rattle.noise_vectors.proofs.Common.{starts_with, and_parts, line_then, IsRead, last_number, IsWrongFirst, line_feeds, IsFirstLine, lacks, LineKind, VectorFault, Line, Lines}
use Rattle.noise_vectors.specs.declared.faults.LineKind.TheVariants as kinds

-- ---- line feeds

abbrev feed_of : ℕ → ℕ
feed_of b = cond (b == 10) 1 0

feed : (b : ℕ) → not (b == 10) ≡ true → feed_of b ≡ 0
feed b h = at (b == 10) refl where
  at : (test : Bool) → (b == 10) ≡ test → feed_of b ≡ 0
  at true e = absurd (cc (rw e at h))
  at false e = rw e refl

-- a line has one
pub feeds-line : (words rest : List ℕ) → lacks 10 words ≡ true → line_feeds (line_then words rest) ≡ 1 + line_feeds rest
feeds-line [] rest h = sum_by-cons feed_of 10 rest
feeds-line (b ∷ bs) rest h =
    let parts = and_parts (not (b == 10)) (lacks 10 bs) h in
    let one = sum_by-cons feed_of b (line_then bs rest) in
    let more = feeds-line bs rest parts.1 in
    let none = feed b parts.0 in
    omega (arith, one, more, none)

pub feeds-few : (text : List ℕ) → line_feeds text ≤ length text
feeds-few text = count_by-le-length (λ (b : ℕ). b == 10) text

feeds-plain : (words : List ℕ) → lacks 10 words ≡ true → line_feeds words ≡ 0
feeds-plain [] h = refl
feeds-plain (b ∷ bs) h =
    let parts = and_parts (not (b == 10)) (lacks 10 bs) h in
    let more = feeds-plain bs parts.1 in
    let one = sum_by-cons feed_of b bs in
    let none = feed b parts.0 in
    omega (arith, one, more, none)

-- ---- what was read

first-by : (text words rest : List ℕ) (is_ended : Bool) → (is_ended ≡ true → text ≡ line_then words rest) → (is_ended ≡ false → (text ≡ words) × ¬ (words ≡ []))
    → lacks 10 words ≡ true → IsFirstLine words text
first-by text words rest true ended last plain = (plain, inr (rest, ended refl))
first-by text words rest false ended last plain = (plain, inl (last refl))

-- it is the text's first line
pub first-line : {before after : Lines} {words : List ℕ} → IsRead before words after → IsFirstLine words before.rest.now
first-line {before = before} {after = after} {words = words} r =
    first-by before.rest.now words after.rest.now after.is_ended r.ended r.last r.plain

-- where it is wrong, that is reported
abbrev pub wrong-line : {before after : Lines} {words : List ℕ} {total : ℕ} {kind : LineKind} {fault : VectorFault} → IsRead before words after
    → last_number before ≡ total → fault ≡ Line after.number kind → IsWrongFirst before.rest.now total kind fault
wrong-line {before = before} {after = after} {words = words} {total = total} r same is = record {
  reported = words;
  is_first = first-line r;
  number = after.number;
  counted = omega (arith, r.number, same);
  fault_is = is;
}

-- the last line with a line feed stays the same
pub counted-ended : {before after : Lines} {words : List ℕ} → IsRead before words after → after.is_ended ≡ true → last_number after ≡ last_number before
counted-ended {before = before} {after = after} {words = words} r ended =
    let one : line_feeds before.rest.now ≡ 1 + line_feeds after.rest.now = ap line_feeds (r.ended ended) ∙ feeds-line words after.rest.now r.plain in
    omega (arith, one, r.number)

-- a line without one comes after it
pub counted-last : {before after : Lines} {words : List ℕ} → IsRead before words after → after.is_ended ≡ false → after.number ≡ last_number before + 1
counted-last {before = before} {words = words} r open_ =
    let none : line_feeds before.rest.now ≡ 0 = ap line_feeds (r.last open_).0 ∙ feeds-plain words r.plain in
    omega (arith, none, r.number)

-- and the fault that it has none is reported of the next
pub ending-reported : {before after : Lines} {words : List ℕ} {fault : VectorFault} → IsRead before words after
    → (after.is_ended ≡ false) × (fault ≡ Line after.number kinds.Ending) → fault ≡ Line (last_number before + 1) kinds.Ending
ending-reported r (open_, is) = is ∙ ap (λ (k : ℕ). Line k kinds.Ending) (counted-last r open_)

-- a line begins so where the text does
begun-front : (words rest front : List ℕ) → lacks 10 front ≡ true → starts_with nat_eq (line_then words rest) front ≡ true → starts_with nat_eq words front ≡ true
begun-front words rest [] plain h = refl
begun-front [] rest (f ∷ fs) plain h =
    let parts = and_parts (nat_eq f 10) _ h in
    let lack = and_parts (not (f == 10)) (lacks 10 fs) plain in
    absurd (cc (rw (parts.0) at lack.0))
begun-front (b ∷ bs) rest (f ∷ fs) plain h =
    let parts = and_parts (nat_eq f b) _ h in
    rw (parts.0, (begun-front bs rest fs (and_parts (not (f == 10)) (lacks 10 fs) plain).1 parts.1)) refl

pub begun-line : (words text front : List ℕ) → IsFirstLine words text → lacks 10 front ≡ true → starts_with nat_eq text front ≡ true
    → starts_with nat_eq words front ≡ true
begun-line words text front (plain, inl (e, some)) lack h = rw (← e) h
begun-line words text front (plain, inr (rest, e)) lack h = begun-front words rest front lack (subst (λ (t : List ℕ). starts_with nat_eq t front ≡ true) e h)

-- and the text where the line does
pub line-begun : (words rest front : List ℕ) → starts_with nat_eq words front ≡ true → starts_with nat_eq (line_then words rest) front ≡ true
line-begun words rest [] h = refl
line-begun [] rest (f ∷ fs) h = absurd (cc h)
line-begun (b ∷ bs) rest (f ∷ fs) h =
    let parts = and_parts (nat_eq f b) _ h in
    rw (parts.0, (line-begun bs rest fs parts.1)) refl

same-test : (a b : Bool) → (a ≡ true → b ≡ true) → (b ≡ true → a ≡ true) → a ≡ b
same-test true false f g = absurd (true≢false (sym (f refl)))
same-test false true f g = absurd (true≢false (sym (g refl)))
same-test _ _ f g = refl

text-begun : (words text front : List ℕ) → IsFirstLine words text → starts_with nat_eq words front ≡ true → starts_with nat_eq text front ≡ true
text-begun words text front (plain, inl (e, some)) h = rw e h
text-begun words text front (plain, inr (rest, e)) h = rw e (line-begun words rest front h)

-- a text begins as its first line does
pub same-begun : (words text front : List ℕ) → IsFirstLine words text → lacks 10 front ≡ true → starts_with nat_eq text front ≡ starts_with nat_eq words front
same-begun words text front first lack = search (same-test, begun-line, text-begun)

-- and so does that line with another text after it
pub other-begun : (words text rest front : List ℕ) → IsFirstLine words text → lacks 10 front ≡ true
    → starts_with nat_eq (line_then words rest) front ≡ starts_with nat_eq text front
other-begun words text rest front first lack =
    same-begun words (line_then words rest) front (first.0, inr (rest, refl)) lack ∙ sym (same-begun words text front first lack)
