use Rattle.std.proofs.Common.{◌≡◌, ◌∙◌, ◌++◌, ap, append_assoc, codes, List, ℕ}
use Rattle.std.specs.Prelude.{Err, Ok, OnOk, Result, decimal}
use Rattle.noise_lines.specs.Shown.{shown_text}
use Rattle.noise_explain.proofs.change.push_row.Goals as goal

-- words, a number, words, a line and its end
row-of : {T E : Type 0} (r : Result T E) (old n1 n2 n3 n4 front number middle line : List ℕ) → n1 ≡ old ++ front → n2 ≡ n1 ++ number
    → n3 ≡ n2 ++ middle → OnOk r (n4 ≡ n3 ++ line ++ codes "\".\n") → OnOk r (n4 ≡ old ++ (front ++ number ++ middle ++ line ++ codes "\".\n"))
row-of (Ok u) old n1 n2 n3 n4 front number middle line e1 e2 e3 e4 =
    e4
    ∙ ap (λ (t : List ℕ). t ++ line ++ codes "\".\n") (e3 ∙ ap (λ (t : List ℕ). t ++ middle) (e2 ∙ ap (λ (t : List ℕ). t ++ number) e1))
    ∙ simp append_assoc
row-of (Err u) old n1 n2 n3 n4 front number middle line e1 e2 e3 e4 = tt

-- words, a number and words
number-of : {T E : Type 0} (r : Result T E) (old n1 n2 n3 front number rest : List ℕ) → n1 ≡ old ++ front → n2 ≡ n1 ++ number
    → OnOk r (n3 ≡ n2 ++ rest) → OnOk r (n3 ≡ old ++ (front ++ (number ++ rest)))
number-of (Ok u) old n1 n2 n3 front number rest e1 e2 e3 =
    e3 ∙ ap (λ (t : List ℕ). t ++ rest) (e2 ∙ ap (λ (t : List ℕ). t ++ number) e1) ∙ simp append_assoc
number-of (Err u) old n1 n2 n3 front number rest e1 e2 e3 = tt

pub returns-in_ok-push-in-Write-2 : goal.returns-in_ok-push-in-Write-2
returns-in_ok-push-in-Write-2 c =
    rw c.in-Write.is
    (row-of c.push_quoted.result c.args.text.now.items _ _ _ _ (codes "  Write line ") (decimal c.in-Write.number) (codes " so: \"")
    (shown_text c.in-Write.line.items) c.in_ok-push-in-Write.ensures c.in_ok-push_number-in-Write.ensures c.in_ok-push-in-Write-2.ensures
    (rw c.deref.ensures.value at c.push_quoted.ensures))

pub returns-in_ok-push-in-Put-2 : goal.returns-in_ok-push-in-Put-2
returns-in_ok-push-in-Put-2 c =
    rw c.in-Put.is
    (row-of c.push_quoted-in-Put.result c.args.text.now.items _ _ _ _ (codes "  Put in as line ") (decimal c.in-Put.number) (codes ": \"")
    (shown_text c.in-Put.line.items) c.in_ok-push-in-Put.ensures c.in_ok-push_number-in-Put.ensures c.in_ok-push-in-Put-2.ensures
    (rw c.deref-in-Put.ensures.value at c.push_quoted-in-Put.ensures))

pub returns-in_ok-push_number-in-Out : goal.returns-in_ok-push_number-in-Out
returns-in_ok-push_number-in-Out c =
    rw c.in-Out.is
    (number-of c.push-in-Out-2.result c.args.text.now.items _ _ _ (codes "  Leave line ") (decimal c.in-Out.number) (codes " out.\n")
    c.in_ok-push-in-Out.ensures c.in_ok-push_number-in-Out.ensures c.push-in-Out-2.ensures)
