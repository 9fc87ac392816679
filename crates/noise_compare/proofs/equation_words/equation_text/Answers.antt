use Rattle.std.proofs.Common.{◌≡◌, ◌++◌, ℕ, List, [], ◌∷◌, ap, map, refl}
use Rattle.std.specs.Borrow.{Bor}
use Rattle.std.specs.Prelude.{flat_map}
use Rattle.noise_compare.specs.Report.{joined}
use Rattle.noise_compare.specs.Shown.{equation_text}
use Rattle.noise_compare.proofs.equation_words.equation_text.Goals as goal

words_joined : (words : List (Bor (List ℕ))) → flat_map (λ word. word.now) words ≡ joined (map (λ word. word.now) words)
words_joined [] = refl
words_joined (word ∷ words) = ap (λ (text : List ℕ). word.now ++ text) (words_joined words)

added : (start first second third last a b c d : List ℕ) → start ≡ [] → first ≡ start ++ a → second ≡ first ++ b
    → third ≡ second ++ c → last ≡ third ++ d → last ≡ ((a ++ b) ++ c) ++ d
added start first second third last a b c d e f g h k = rw (k, h, g, f, e) refl

pub returns : goal.returns
unfolding equation_text
returns c =
    rw (
      ← c.value_word.ensures,
      ← c.source_word-source.ensures,
      ← c.form_words.ensures,
      ← c.front_words.ensures,
      ← c.back_words.ensures,
      ← words_joined c.front_words.result,
      ← words_joined c.back_words.result,
    )
    (added _ _ _ _ _ _ _ _ _ c.new-text.ensures.items c.in_ok-push_words.ensures c.in_ok-push_words-2.ensures
    c.in_ok-push_words-3.ensures c.in_ok-push_words-4.ensures)
