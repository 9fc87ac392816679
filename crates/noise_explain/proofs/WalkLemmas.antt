-- The words of a line that were gone over, and where the next one begins.
use Rattle.std.proofs.Common.{arith, refl, subst, sym, ap, ◌∙◌, ◌≡◌, ℕ, suc, ◌+◌, ◌-◌, ◌<◌, ◌≤◌, ◌==◌, ◌&&◌, Bool, true, false, not, List, [], ◌∷◌, ◌++◌, length, take, drop, get_or, codes}
use Rattle.std.specs.Prelude.{IsTrue}
use Rattle.std.proofs.Math.Seq.{drop-cons, take-add}
use Rattle.std.proofs.lemmas.List.{append-nil, append_assoc, drop-append-le, length-append, length-take-le, take-append-drop, take-append-le}
use Rattle.std.proofs.lemmas.Bool.{cond-false, cond-true, eqb-true}
use Rattle.std.proofs.lemmas.List.Sums.{take_while-cons}
use Rattle.noise_vectors.specs.Words.{lacks}
use Rattle.noise_explain.specs.VectorColumns.{HasShape, HaveShapes, IsWrongWord, first_word, spaced, word_from}
use Rattle.noise_explain.specs.declared.shapes.Shape.{Shape}
use Rattle.noise_explain.specs.declared.shapes.Shape.TheVariants.{First}

-- ---- one word

first_word-end : (b : ℕ) (bs : List ℕ) → (b == 32) ≡ true → first_word (b ∷ bs) ≡ []
first_word-end b bs e =
    take_while-cons (λ c. not (c == 32)) b bs ∙ cond-false (not (b == 32)) (b ∷ first_word bs) [] (ap not e)

first_word-more : (b : ℕ) (bs : List ℕ) → (b == 32) ≡ false → first_word (b ∷ bs) ≡ b ∷ first_word bs
first_word-more b bs e =
    take_while-cons (λ c. not (c == 32)) b bs ∙ cond-true (not (b == 32)) (b ∷ first_word bs) [] (ap not e)

pub lacks-first_word : (text : List ℕ) → lacks 32 (first_word text) ≡ true
lacks-first_word [] = refl
lacks-first_word (b ∷ bs) = at (b == 32) refl (lacks-first_word bs) where
  at : (is : Bool) → (b == 32) ≡ is → lacks 32 (first_word bs) ≡ true → lacks 32 (first_word (b ∷ bs)) ≡ true
  at true e more = subst (λ (w : List ℕ). lacks 32 w ≡ true) (sym (first_word-end b bs e)) refl
  at false e more =
      subst (λ (w : List ℕ). lacks 32 w ≡ true) (sym (first_word-more b bs e))
      (ap (λ (is : Bool). not is && lacks 32 (first_word bs)) e ∙ more)

-- a word and the space after it
taken-word : (text : List ℕ) → take (length (first_word text) + 1) (text ++ codes " ") ≡ first_word text ++ codes " "
taken-word [] = refl
taken-word (b ∷ bs) = at (b == 32) refl (taken-word bs) where
  at : (is : Bool) → (b == 32) ≡ is → take (length (first_word bs) + 1) (bs ++ codes " ") ≡ first_word bs ++ codes " "
      → take (length (first_word (b ∷ bs)) + 1) ((b ∷ bs) ++ codes " ") ≡ first_word (b ∷ bs) ++ codes " "
  at true e more =
      subst (λ (w : List ℕ). take (length w + 1) ((b ∷ bs) ++ codes " ") ≡ w ++ codes " ") (sym (first_word-end b bs e))
      (ap (λ (x : ℕ). x ∷ []) (eqb-true b 32 e))
  at false e more =
      let next : length (b ∷ first_word bs) + 1 ≡ suc (length (first_word bs) + 1) = omega arith in
      subst (λ (w : List ℕ). take (length w + 1) ((b ∷ bs) ++ codes " ") ≡ w ++ codes " ") (sym (first_word-more b bs e))
      (ap (λ (k : ℕ). take k (b ∷ (bs ++ codes " "))) next ∙ ap (λ (t : List ℕ). b ∷ t) more)

-- ---- shapes

pub HaveShapes-push : (ss : List Shape) (ws : List (List ℕ)) (w : List ℕ) (s : Shape) (more : List Shape) → HaveShapes ss ws
    → drop (length ws) ss ≡ s ∷ more → IsTrue (lacks 32 w) → HasShape s w → HaveShapes ss (ws ++ w ∷ [])
HaveShapes-push ss [] w s more right e plain has = rw e (plain, has, tt)
HaveShapes-push [] (v ∷ ws) w s more right e plain has = absurd right
HaveShapes-push (t ∷ ss) (v ∷ ws) w s more right e plain has =
    (right.0, right.1, HaveShapes-push ss ws w s more right.2 e plain has)

HaveShapes-last : (ss : List Shape) (ws : List (List ℕ)) (w : List ℕ) (s : Shape) (more : List Shape)
    → drop (length ws) ss ≡ s ∷ more → HaveShapes ss (ws ++ w ∷ []) → HasShape s w
HaveShapes-last ss [] w s more e h = (rw e at h).1
HaveShapes-last [] (v ∷ ws) w s more e h = absurd h
HaveShapes-last (t ∷ ss) (v ∷ ws) w s more e h = HaveShapes-last ss ws w s more e h.2

HaveShapes-over : (ss : List Shape) (ws : List (List ℕ)) (w : List ℕ) → length ws ≡ length ss → ¬ HaveShapes ss (ws ++ w ∷ [])
HaveShapes-over [] [] w e h = h
HaveShapes-over (s ∷ ss) [] w e h = absurd (cc e)
HaveShapes-over [] (v ∷ ws) w e h = h
HaveShapes-over (t ∷ ss) (v ∷ ws) w e h = HaveShapes-over ss ws w (omega arith) h.2

spaced-push : (ws : List (List ℕ)) (w : List ℕ) → spaced (ws ++ w ∷ []) ≡ spaced ws ++ (w ++ codes " ")
spaced-push [] w = append-nil (w ++ codes " ")
spaced-push (v ∷ ws) w =
    ap (λ (t : List ℕ). (v ++ codes " ") ++ t) (spaced-push ws w) ∙ sym (append_assoc (v ++ codes " ") (spaced ws) (w ++ codes " "))

-- ---- the words so far

-- so many words have their shapes, and the next one begins so many bytes after the line's begin
pub record Walked (ss : List Shape) (line : List ℕ) (count at : ℕ) : Type 0 where
  pub words : List (List ℕ)
  pub right : HaveShapes ss words
  pub counted : length words ≡ count
  pub taken : take at (line ++ codes " ") ≡ spaced words
  pub few : at ≤ length line + 1

pub Walked-step : (ss : List Shape) (line : List ℕ) (count at : ℕ) → Walked ss line count at → count < length ss
    → at ≤ length line → HasShape (get_or ss count First) (word_from line at) → length (word_from line at) ≤ length line - at
    → Walked ss line (count + 1) (at + (length (word_from line at) + 1))
Walked-step ss line count at h less within has short =
    let word = word_from line at in
    record {
      words = h.words ++ word ∷ [];
      right = HaveShapes-push ss h.words word (get_or ss count First) (drop (suc count) ss) h.right
          (rw h.counted (drop-cons ss count First less)) (lacks-first_word (drop at line)) has;
      counted = omega (arith, length-append h.words (word ∷ []), h.counted);
      taken = take-add at (length word + 1) (line ++ codes " ") ∙ ap (λ (t : List ℕ). t ++ take (length word + 1) (drop at (line ++ codes " "))) h.taken
          ∙ ap (λ (t : List ℕ). spaced h.words ++ take (length word + 1) t) (drop-append-le at line (codes " ") within)
          ∙ ap (λ (t : List ℕ). spaced h.words ++ t) (taken-word (drop at line)) ∙ sym (spaced-push h.words word);
      few = omega arith;
    }

-- the bytes before the next word
front : (ss : List Shape) (line : List ℕ) (count at : ℕ) → (h : Walked ss line count at) → at ≤ length line → take at line ≡ spaced h.words
front ss line count at h within = sym (take-append-le at line (codes " ") within) ∙ h.taken

wrong-word : (ss : List Shape) (line : List ℕ) (count at : ℕ) (h : Walked ss line count at) → at ≤ length line
    → ¬ HaveShapes ss (h.words ++ word_from line at ∷ []) → IsWrongWord ss line (at + 1)
wrong-word ss line count at h within wrong =
    let is = front ss line count at h within in
    record {
      before = h.words;
      rest = drop at line;
      line_is = sym (take-append-drop at line) ∙ ap (λ (t : List ℕ). t ++ drop at line) is;
      right = h.right;
      wrong = wrong;
      column_is = ap (λ (k : ℕ). k + 1) (sym (length-take-le at line within) ∙ ap length is);
    }

pub Walked-wrong : (ss : List Shape) (line : List ℕ) (count at : ℕ) → Walked ss line count at → count < length ss
    → at ≤ length line → ¬ HasShape (get_or ss count First) (word_from line at) → IsWrongWord ss line (at + 1)
Walked-wrong ss line count at h less within lacks_it =
    wrong-word ss line count at h within
    (λ all. lacks_it (HaveShapes-last ss h.words (word_from line at) (get_or ss count First) (drop (suc count) ss)
    (rw h.counted (drop-cons ss count First less)) all))

pub Walked-over : (ss : List Shape) (line : List ℕ) (count at : ℕ) → Walked ss line count at → count ≡ length ss → at ≤ length line
    → IsWrongWord ss line (at + 1)
Walked-over ss line count at h all within =
    wrong-word ss line count at h within (HaveShapes-over ss h.words (word_from line at) (h.counted ∙ all))
