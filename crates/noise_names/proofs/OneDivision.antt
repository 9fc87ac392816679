-- Two faults of one text are after the same right lines.
use Rattle.std.proofs.Common.{◌≡◌, ◌≢◌, ◌⊎◌, inl, inr, ℕ, List, [], ◌∷◌, ◌++◌, refl, ap, sym, ◌∙◌, subst}
use Rattle.noise_names.proofs.Common.{same_from_push, IsSection, Section, section_bytes, line, BeginsRight, IsAfter, IsCutShort, IsEnded, IsLike, IsWrongLine, body_of, first_line, heading_of}
use Rattle.noise_names.proofs.OneText.{heading_all}
use Rattle.noise_names.proofs.Sections.{one_section}
use Rattle.noise_names.proofs.WholeLines.{IsBefore, IsFurther, compare, next_of, no_further, same_division}
use Rattle.noise_names.proofs.Lines.{first_same}

-- one heading
pub heads_same : (s t : Section) (x y : List ℕ) → IsSection s → IsSection t → line (heading_of s) ++ x ≡ line (heading_of t) ++ y → (s ≡ t) × (x ≡ y)
heads_same s t x y h k e =
    let parts = first_same (heading_of s) (heading_of t) x y (heading_all s h) (heading_all t k) e in
    (one_section s t h k (same_from_push (section_bytes s.base s.places) (section_bytes t.base t.places) 58 58 parts.0).0, parts.1)

pub same_body : {text f x g y : List ℕ} (b : BeginsRight text f x) (c : BeginsRight text g y) → (b.heading ≡ c.heading) × (f ++ x ≡ g ++ y)
same_body {f = f} {x = x} {g = g} {y = y} b c =
    heads_same b.heading c.heading (f ++ x) (g ++ y) b.is_section c.is_section (sym b.text_is ∙ c.text_is)

-- the pattern of one is like that of the other
pub like_moved : {text f x g y : List ℕ} (b : BeginsRight text f x) (c : BeginsRight text g y) → IsLike b.heading.places (f ++ x) c.p
like_moved {f = f} {x = x} b c =
    let same = same_body b c in
    subst (λ (v : List ℕ). IsLike b.heading.places v c.p) (sym same.1)
    (subst (λ (s : Section). IsLike s.places _ c.p) (sym same.0) c.like)

-- no right lines go on after those before a wrong line
not_past : {text g y : List ℕ} {number : ℕ} (w : IsWrongLine text number) (c : BeginsRight text g y) → IsFurther g y w.front w.left
not_past {g = g} {y = y} w c = at (compare g y w.front w.left (sym (same_body w.it c).1)) where
  at : IsFurther g y w.front w.left ⊎ IsBefore g y w.front w.left → IsFurther g y w.front w.left
  at (inl h) = h
  at (inr (b, z, h, k)) =
      let begun : body_of c.p ≡ (w.front ++ b ∷ z) ++ c.begun.0 = c.begun.1 ∙ ap (λ (v : List ℕ). v ++ c.begun.0) h in
      let next = next_of w.front w.left b z y c.begun.0 (body_of c.p) (subst (λ (v : List ℕ). IsEnded v) h c.ended) k begun in
      absurd (w.wrong c.p next.0 (like_moved w.it c) next.1)

pub wrong_lines : {text : List ℕ} {m n : ℕ} (w : IsWrongLine text m) (v : IsWrongLine text n) → (w.front ≡ v.front) × (w.left ≡ v.left)
wrong_lines w v = same_division w.front w.left v.front v.left (not_past v w.it) (not_past w v.it)

-- a text with a wrong line is no whole one
pub wrong_whole : {text body : List ℕ} {number : ℕ} (w : IsWrongLine text number) → BeginsRight text body [] → ⊥
wrong_whole {body = body} w c = at (not_past w c) where
  none : (z x : List ℕ) → [] ≡ z ++ x → x ≡ []
  none [] x e = sym e
  none (b ∷ z) x e = absurd (cc)

  at : IsFurther body [] w.front w.left → ⊥
  at (z, h, k) = w.some (none z w.left k)

-- nor does it end too early
pub wrong_cut : {text : List ℕ} {m n : ℕ} (w : IsWrongLine text m) (c : IsCutShort text n) → ⊥
wrong_cut w c = at c.next where
  same : (w.front ≡ c.front) × (w.left ≡ c.left)
  same = same_division w.front w.left c.front c.left
      (no_further c.front c.left w.front w.left (same_body c.it w.it).1 c.last w.it.ended) (not_past w c.it)

  begins : {f g x y z : List ℕ} (rest : List ℕ) → f ≡ g → x ≡ y → x ≡ first_line x → z ≡ f ++ (line x ++ rest) → z ≡ g ++ (line (first_line y) ++ rest)
  begins rest p q r s = cc

  at : ((rest : List ℕ) × (c.left ≢ []) × (body_of c.it.p ≡ c.front ++ (line c.left ++ rest))) ⊎ ((c.left ≡ []) × IsAfter c.it.p [] c.front) → ⊥
  at (inl (rest, some, e)) = w.wrong c.it.p rest (like_moved w.it c.it) (begins rest (sym same.0) (sym same.1) c.last e)
  at (inr (none, e)) = w.some (same.1 ∙ none)

pub cut_cut : {text : List ℕ} {m n : ℕ} (c : IsCutShort text m) (d : IsCutShort text n) → (c.front ≡ d.front) × (c.left ≡ d.left)
cut_cut c d =
    same_division c.front c.left d.front d.left (no_further d.front d.left c.front c.left (same_body d.it c.it).1 d.last c.it.ended)
    (no_further c.front c.left d.front d.left (same_body c.it d.it).1 c.last d.it.ended)

-- where all lines are right it ends before the first message
pub cut_whole : {text body : List ℕ} {n : ℕ} (c : IsCutShort text n) → BeginsRight text body [] → (body ≡ c.front) × IsAfter c.it.p [] c.front
cut_whole {body = body} c d = (sym same.0, at c.next) where
  same : (c.front ≡ body) × (c.left ≡ [])
  same = same_division c.front c.left body [] (no_further body [] c.front c.left (same_body d c.it).1 refl c.it.ended)
      (no_further c.front c.left body [] (same_body c.it d).1 c.last d.ended)

  at : ((rest : List ℕ) × (c.left ≢ []) × (body_of c.it.p ≡ c.front ++ (line c.left ++ rest))) ⊎ ((c.left ≡ []) × IsAfter c.it.p [] c.front)
      → IsAfter c.it.p [] c.front
  at (inl (rest, some, e)) = absurd (some same.1)
  at (inr (none, e)) = e
