-- Prefixes of a text that is written piece by piece.
use Rattle.std.proofs.Common.{◌≡◌, ◌∙◌, ap, sym, ℕ, ◌+◌, ◌-◌, List, [], ◌++◌, Option, length, take, drop, append_assoc, append-nil}
use Rattle.std.proofs.Math.Seq.{take-add}
use Rattle.noise_lines.proofs.Common.{Appends, Appends-trans, take-append-drop, take_rest, AppendsPrefix}

pub prefix-whole : (a b : Option (List ℕ)) (text : List ℕ) → Appends a b text → AppendsPrefix a b text
prefix-whole a b text h = record { prefix = text; rest = []; begins = sym (append-nil text); appended = h }

-- the first bytes of a text
pub prefix-taken : (a b : Option (List ℕ)) (at : ℕ) (text : List ℕ) → Appends a b (take at text) → AppendsPrefix a b text
prefix-taken a b at text h = record { prefix = take at text; rest = drop at text; begins = sym (take-append-drop at text); appended = h }

-- a text, and then a prefix of the next
pub prefix-after : (a b c : Option (List ℕ)) (first next more whole : List ℕ) → Appends a b first → AppendsPrefix b c next
    → whole ≡ first ++ (next ++ more) → AppendsPrefix a c whole
prefix-after a b c first next more whole h p is = record {
  prefix = first ++ p.prefix;
  rest = p.rest ++ more;
  begins = is ∙ ap (λ (t : List ℕ). first ++ (t ++ more)) p.begins ∙ ap (λ (t : List ℕ). first ++ t) (append_assoc p.prefix p.rest more)
      ∙ sym (append_assoc first p.prefix (p.rest ++ more));
  appended = Appends-trans a b c first p.prefix h p.appended;
}

-- the first bytes of a text, after one more write of its rest
pub taken-more : (at n : ℕ) (bytes : List ℕ) → take at bytes ++ take n (take (length bytes - at) (drop at bytes)) ≡ take (at + n) bytes
taken-more at n bytes =
    ap (λ (l : List ℕ). take at bytes ++ take n l) (take_rest bytes at) ∙ sym (take-add at n bytes)
