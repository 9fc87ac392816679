-- Lines of a text, and the pieces of a list of tokens.
use Rattle.std.proofs.Common.{◌≡◌, ◌∙◌, ◌<◌, ◌-◌, ℕ, zero, suc, List, [], ◌∷◌, ◌++◌, ap, sym, append_assoc, arith}
use Rattle.std.specs.Prelude.{codes}
use Rattle.std.proofs.lemmas.List.{flat_map_more}
use Rattle.noise_names.specs.declared.token.Token.{Token}
use Rattle.noise_names.specs.Text.{word_of}
use Rattle.noise_explain.specs.Positions.{repeated, words_before}

-- one step less is to be made
pub step-made : (step : List ℕ → List ℕ) (n : ℕ) (text next whole : List ℕ) → 0 < n → next ≡ step text → repeated step n text ≡ whole
    → repeated step (n - 1) next ≡ whole
step-made step zero text next whole some is h = absurd (omega (arith, some))
step-made step (suc n) text next whole some is h =
    let less : suc n - 1 ≡ n = omega arith in
    rw (less, is) h

-- right tokens stand before what is left of a list
abbrev pub IsLeftOf : List ℕ → List ℕ → Type 0
IsLeftOf list left = (right : List Token) × (list ≡ words_before right ++ left)

-- a token with a comma and a space is at the front
abbrev pub HasWord : List ℕ → List ℕ → Type 0
HasWord list rest = (t : Token) × (list ≡ word_of t ++ (codes ", " ++ rest))

pub piece-more : (list left rest : List ℕ) → IsLeftOf list left → HasWord left rest → IsLeftOf list rest
piece-more list left rest (right, e) (t, f) =
    let word : List ℕ = word_of t ++ codes ", " in (
      right ++ t ∷ [],
      e ∙ ap (λ (z : List ℕ). words_before right ++ z) (f ∙ sym (append_assoc (word_of t) (codes ", ") rest))
          ∙ sym (append_assoc (words_before right) word rest)
          ∙ ap (λ (z : List ℕ). z ++ rest) (flat_map_more (λ (u : Token). word_of u ++ codes ", ") [] right t),
    )
