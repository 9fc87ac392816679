-- The text of a trace, written line by line.
use Rattle.std.proofs.Common.{◌≡◌, ◌∙◌, refl, sym, ap, ℕ, zero, suc, ◌+◌, List, [], ◌∷◌, ◌++◌, Option, Vec, drop, slice_get, append_assoc, add-one}
use Rattle.std.specs.Global.{Global}
use Rattle.noise_lines.proofs.Common.{unwrap_or, Appends, Appends-trans, lines_text, AppendsPrefix, bytes_of, with_traces}
use Rattle.noise_lines.proofs.PrefixLemmas.{prefix-after}

pub prefix-more : (a b : Option (List ℕ)) (next more whole : List ℕ) → AppendsPrefix a b next → whole ≡ next ++ more → AppendsPrefix a b whole
prefix-more a b next more whole p is = record {
  prefix = p.prefix;
  rest = p.rest ++ more;
  begins = is ∙ ap (λ (t : List ℕ). t ++ more) p.begins ∙ append_assoc p.prefix p.rest more;
  appended = p.appended;
}

-- a line, its LF (10), and the lines after it
pub line-apart : (line : List ℕ) (more : List (List ℕ)) → lines_text (line ∷ more) ≡ line ++ (10 ∷ [] ++ lines_text more)
line-apart line more = append_assoc line (10 ∷ []) (lines_text more)

-- lines in two parts
pub lines-apart : (xs ys : List (List ℕ)) → lines_text (xs ++ ys) ≡ lines_text xs ++ lines_text ys
lines-apart [] ys = refl
lines-apart (x ∷ xs) ys =
    ap (λ (t : List ℕ). (x ++ 10 ∷ []) ++ t) (lines-apart xs ys) ∙ sym (append_assoc (x ++ 10 ∷ []) (lines_text xs) (lines_text ys))

with_traces-none : (lines : List (List ℕ)) → with_traces lines [] ≡ lines
with_traces-none [] = refl
with_traces-none (x ∷ xs) = refl

-- one line more, and those that follow it
step-at : (lines rest : List (List ℕ)) (traces : List (List (List ℕ))) (i : ℕ) (x : List ℕ) → lines ≡ x ∷ rest
    → lines_text (with_traces lines (drop i traces))
    ≡ lines_text (x ∷ unwrap_or (slice_get traces i) []) ++ lines_text (with_traces rest (drop (suc i) traces))
step-at lines rest [] zero x is =
    ap (λ (ls : List (List ℕ)). lines_text (with_traces ls [])) is ∙ lines-apart (x ∷ []) rest
    ∙ ap (λ (ls : List (List ℕ)). lines_text (x ∷ []) ++ lines_text ls) (sym (with_traces-none rest))
step-at lines rest [] (suc i) x is =
    ap (λ (ls : List (List ℕ)). lines_text (with_traces ls [])) is ∙ lines-apart (x ∷ []) rest
    ∙ ap (λ (ls : List (List ℕ)). lines_text (x ∷ []) ++ lines_text ls) (sym (with_traces-none rest))
step-at lines rest (t ∷ ts) zero x is =
    ap (λ (ls : List (List ℕ)). lines_text (with_traces ls (t ∷ ts))) is ∙ lines-apart (x ∷ t) (with_traces rest ts)
step-at lines rest (t ∷ ts) (suc i) x is = step-at lines rest ts i x is

-- what is written so far, and what is left
pub record Written (before now : Option (List ℕ)) (lines : List (List ℕ)) (traces : List (List (List ℕ))) (i : ℕ) : Type 0 where
  pub done : List ℕ
  pub appended : Appends before now done
  pub whole : lines_text (with_traces lines traces) ≡ done ++ lines_text (with_traces (drop i lines) (drop i traces))

pub written-more : (before now after : Option (List ℕ)) (lines : List (List ℕ)) (traces : List (List (List ℕ))) (i : ℕ) (x : List ℕ)
    (trace : List (List ℕ)) → Written before now lines traces i → drop i lines ≡ x ∷ drop (i + 1) lines → trace ≡ unwrap_or (slice_get traces i) []
    → Appends now after (lines_text (x ∷ trace)) → Written before after lines traces (i + 1)
written-more before now after lines traces i x trace w here is grown = record {
  done = w.done ++ lines_text (x ∷ trace);
  appended = Appends-trans before now after w.done (lines_text (x ∷ trace)) w.appended grown;
  whole = w.whole
      ∙ ap (λ (t : List ℕ). w.done ++ t) (step-at (drop i lines) (drop (i + 1) lines) traces i x here)
      ∙ ap (λ (ls : List (List ℕ)). w.done ++ (lines_text (x ∷ ls) ++ lines_text (with_traces (drop (i + 1) lines) (drop (suc i) traces)))) (sym is)
      ∙ sym (append_assoc w.done (lines_text (x ∷ trace)) (lines_text (with_traces (drop (i + 1) lines) (drop (suc i) traces))))
      ∙ ap (λ (k : ℕ). (w.done ++ lines_text (x ∷ trace)) ++ lines_text (with_traces (drop (i + 1) lines) (drop k traces))) (sym (add-one i));
}

pub written-cut : (before now after : Option (List ℕ)) (lines : List (List ℕ)) (traces : List (List (List ℕ))) (i : ℕ) (x : List ℕ)
    (trace : List (List ℕ)) → Written before now lines traces i → drop i lines ≡ x ∷ drop (i + 1) lines → trace ≡ unwrap_or (slice_get traces i) []
    → AppendsPrefix now after (lines_text (x ∷ trace)) → AppendsPrefix before after (lines_text (with_traces lines traces))
written-cut before now after lines traces i x trace w here is cut =
    prefix-after before now after w.done (lines_text (x ∷ trace)) (lines_text (with_traces (drop (i + 1) lines) (drop (suc i) traces)))
    (lines_text (with_traces lines traces)) w.appended cut
    (w.whole
    ∙ ap (λ (t : List ℕ). w.done ++ t) (step-at (drop i lines) (drop (i + 1) lines) traces i x here)
    ∙ ap (λ (ls : List (List ℕ)). w.done ++ (lines_text (x ∷ ls) ++ lines_text (with_traces (drop (i + 1) lines) (drop (suc i) traces)))) (sym is))

pub drop-bytes : (lines : List (Vec ℕ Global)) (i : ℕ) → drop i (bytes_of lines) ≡ bytes_of (drop i lines)
drop-bytes [] zero = refl
drop-bytes [] (suc i) = refl
drop-bytes (l ∷ ls) zero = refl
drop-bytes (l ∷ ls) (suc i) = drop-bytes ls i

-- the line that a loop has come to
pub line-here : (lines : List (Vec ℕ Global)) (i : ℕ) (x : Vec ℕ Global) (text : List ℕ) → drop i lines ≡ x ∷ drop (i + 1) lines → text ≡ x.items
    → drop i (bytes_of lines) ≡ text ∷ drop (i + 1) (bytes_of lines)
line-here lines i x text here is =
    drop-bytes lines i ∙ ap bytes_of here
    ∙ ap (λ (t : List ℕ). t ∷ bytes_of (drop (i + 1) lines)) (sym is)
    ∙ ap (λ (ls : List (List ℕ)). text ∷ ls) (sym (drop-bytes lines (i + 1)))
