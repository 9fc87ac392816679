-- Two divisions of a text into whole lines and what is left.
use Rattle.std.proofs.Common.{◌≡◌, ◌⊎◌, inl, inr, ℕ, ◌+◌, Bool, true, false, not, eqb, List, [], ◌∷◌, ◌++◌, refl, ap, sym, ◌∙◌, subst, append_assoc, append-nil, length, length-append, arith}
use Rattle.noise_names.proofs.Common.{nat_tests, nil_from_length, same_from_push, line, IsEnded, first_line, cons-same}
use Rattle.noise_names.proofs.Sections.{front_is}
use Rattle.noise_names.proofs.Lines.{no_feed}

-- the lines g go on after those of f
abbrev pub IsFurther : List ℕ → List ℕ → List ℕ → List ℕ → Type 0
IsFurther f x g y = (z : List ℕ) × (g ≡ f ++ z) × (x ≡ z ++ y)

abbrev pub IsBefore : List ℕ → List ℕ → List ℕ → List ℕ → Type 0
IsBefore f x g y = (b : ℕ) × (z : List ℕ) × (f ≡ g ++ b ∷ z) × (y ≡ b ∷ z ++ x)

pub compare : (f x g y : List ℕ) → f ++ x ≡ g ++ y → IsFurther f x g y ⊎ IsBefore f x g y
compare [] x g y e = inl (g, refl, e)
compare (a ∷ f) x [] y e = inr (a, f, refl, sym e)
compare (a ∷ f) x (c ∷ g) y e = at (compare f x g y rest) where
  first : a ≡ c
  first = cc

  rest : f ++ x ≡ g ++ y
  rest = cc

  at : IsFurther f x g y ⊎ IsBefore f x g y → IsFurther (a ∷ f) x (c ∷ g) y ⊎ IsBefore (a ∷ f) x (c ∷ g) y
  at (inl (z, h, k)) = inl (z, cons-same (sym first) h, k)
  at (inr (b, z, h, k)) = inr (b, z, cons-same first h, k)

pub same_division : (f x g y : List ℕ) → IsFurther f x g y → IsFurther g y f x → (f ≡ g) × (x ≡ y)
same_division f x g y (z, h, k) (u, i, j) =
    let longer : length g ≡ length f + length z = ap length h ∙ length-append f z in
    let shorter : length f ≡ length g + length u = ap length i ∙ length-append g u in
    let none : z ≡ [] = nil_from_length z (omega arith) in
    (sym (h ∙ ap (λ (v : List ℕ). f ++ v) none ∙ append-nil f), k ∙ ap (λ (v : List ℕ). v ++ y) none)

-- the last part of whole lines is ended
last_of : (b : ℕ) (z : List ℕ) → (y : List ℕ) × (c : ℕ) × (b ∷ z ≡ y ++ c ∷ [])
last_of b [] = ([], b, refl)
last_of b (d ∷ z) = let more = last_of d z in (b ∷ more.0, more.1, ap (λ (v : List ℕ). b ∷ v) more.2)

pub ended_part : (g : List ℕ) (b : ℕ) (z : List ℕ) → IsEnded (g ++ b ∷ z) → (y : List ℕ) × (b ∷ z ≡ line y)
ended_part g b z (inl e) = absurd (some g e) where
  some : (g : List ℕ) → g ++ b ∷ z ≡ [] → ⊥
  some [] e = cc
  some (a ∷ g) e = cc
ended_part g b z (inr (front, e)) =
    let last = last_of b z in
    let same = same_from_push (g ++ last.0) front last.1 10 (append_assoc g last.0 (last.1 ∷ [])
    ∙ ap (λ (v : List ℕ). g ++ v) (sym last.2) ∙ e) in
    (last.0, last.2 ∙ ap (λ (c : ℕ). last.0 ++ c ∷ []) same.1)

-- an ended text has a first line
pub record HasFirst (text : List ℕ) : Type 0 where
  pub first : List ℕ
  pub more : List ℕ
  pub feedless : no_feed first ≡ true
  pub text_is : text ≡ line first ++ more

pub first_of : (y : List ℕ) → HasFirst (line y)
first_of [] = record { first = []; more = []; feedless = refl; text_is = refl }
first_of (b ∷ y) = at (eqb b 10) refl (first_of y) where
  feed : (b : ℕ) → eqb b 10 ≡ true → b ≡ 10
  feed b h = grind (arith, nat_tests)

  at : (t : Bool) → eqb b 10 ≡ t → HasFirst (line y) → HasFirst (line (b ∷ y))
  at true h n = record { first = []; more = line y; feedless = refl; text_is = ap (λ (c : ℕ). c ∷ line y) (feed b h) }
  at false h n = record {
    first = b ∷ n.first;
    more = n.more;
    feedless = rw h n.feedless;
    text_is = ap (λ (v : List ℕ). b ∷ v) n.text_is;
  }

pub first_line_is : (first more : List ℕ) → no_feed first ≡ true → first_line (line first ++ more) ≡ first
first_line_is first more h =
    ap first_line (append_assoc first (10 ∷ []) more) ∙ front_is (λ b. not (eqb b 10)) first 10 more h refl

-- whole lines that go on after f have the first line of what is left after f
pub next_of : (f left : List ℕ) (b : ℕ) (z later more body : List ℕ) → IsEnded (f ++ b ∷ z) → left ≡ b ∷ z ++ later → body ≡ (f ++ b ∷ z) ++ more
    → (rest : List ℕ) × (body ≡ f ++ (line (first_line left) ++ rest))
next_of f left b z later more body ended e begun =
    let part = ended_part f b z ended in
    let n : HasFirst (line part.0) = first_of part.0 in
    let it : b ∷ z ≡ line n.first ++ n.more = part.1 ∙ n.text_is in
    let all : left ≡ line n.first ++ (n.more ++ later) = e ∙ ap (λ (v : List ℕ). v ++ later) it ∙ append_assoc (line n.first) n.more later in
    let first : first_line left ≡ n.first = ap first_line all ∙ first_line_is n.first (n.more ++ later) n.feedless in (
      n.more ++ more,
      begun ∙ append_assoc f (b ∷ z) more
          ∙ ap (λ (v : List ℕ). f ++ v)
          (ap (λ (v : List ℕ). v ++ more) it ∙ append_assoc (line n.first) n.more more ∙ ap (λ (v : List ℕ). line v ++ (n.more ++ more)) (sym first)),
    )

-- no whole lines reach into a last line without line feed
pub no_further : (f x g y : List ℕ) → f ++ x ≡ g ++ y → x ≡ first_line x → IsEnded g → IsFurther g y f x
no_further f x g y e feedless ended = at (compare g y f x (sym e)) where
  at : IsFurther g y f x ⊎ IsBefore g y f x → IsFurther g y f x
  at (inl h) = h
  at (inr (b, z, h, k)) =
      let part = ended_part f b z (subst (λ (v : List ℕ). IsEnded v) h ended) in
      let n : HasFirst (line part.0) = first_of part.0 in
      let all : x ≡ line n.first ++ (n.more ++ y) =
      k ∙ ap (λ (v : List ℕ). v ++ y) (part.1 ∙ n.text_is) ∙ append_assoc (line n.first) n.more y in
      let first : x ≡ n.first = feedless ∙ ap first_line all ∙ first_line_is n.first (n.more ++ y) n.feedless in
      let count : length x ≡ length (line n.first) + length (n.more ++ y) = ap length all ∙ length-append (line n.first) (n.more ++ y) in
      let one_more : length (line n.first) ≡ length n.first + 1 = length-append n.first (10 ∷ []) in
      let same : length x ≡ length n.first = ap length first in
      absurd (omega arith)
