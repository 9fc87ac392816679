-- The line that is reported of a wrong text is one of its lines, or the one after the last.
use Rattle.std.proofs.Common.{◌≡◌, ◌∙◌, ℕ, ◌+◌, ◌≤◌, ◌==◌, List, [], ◌∷◌, ◌++◌, ap, arith, inl, inr, cond}
use Rattle.std.proofs.lemmas.List.Sums.{sum_by-append}
use Rattle.noise_names.specs.declared.faults.TextFault.{TextFault}
use Rattle.noise_names.specs.declared.faults.TextFaultKind.{TextFaultKind}
use Rattle.noise_names.specs.declared.faults.TextFaultKind.TheVariants as kinds
use Rattle.noise_names.specs.Text.{line}
use Rattle.noise_names.specs.WrongText.{BeginsRight, IsTextFault, IsTextFaultAt, IsWrongLine, heading_of, line_feeds}

pub feeds-append : (x y : List ℕ) → line_feeds (x ++ y) ≡ line_feeds x + line_feeds y
feeds-append x y = sum_by-append (λ (b : ℕ). cond (b == 10) 1 0) x y

-- the heading has a line feed, and so the text has one more than the lines after it
more-feeds : {text front left : List ℕ} → BeginsRight text front left → line_feeds front + 1 ≤ line_feeds text
more-feeds {front = front} {left = left} it =
    let heading = heading_of it.heading in
    let whole = ap line_feeds it.text_is ∙ feeds-append (line heading) (front ++ left) in
    let first = feeds-append heading (10 ∷ []) in
    let lines = feeds-append front left in
    omega (arith, whole, first, lines)

wrong-line : {text : List ℕ} → {number : ℕ} → IsWrongLine text number → number ≤ line_feeds text + 1
wrong-line w = let more = more-feeds w.it in omega (arith, w.counted, more)

first-line : (number feeds : ℕ) → number ≡ 1 → number ≤ feeds + 1
first-line number feeds one = omega (arith, one)

line-at : (text : List ℕ) (number : ℕ) (kind : TextFaultKind)
    → IsTextFaultAt text number kind → number ≤ line_feeds text + 1
line-at text number kinds.Heading h = first-line number (line_feeds text) h.0
line-at text number kinds.Arrow h = wrong-line h.0
line-at text number kinds.Token h = wrong-line h.0
line-at text number kinds.PreMessage h = wrong-line h.0
line-at text number kinds.Turn h = wrong-line h.0
line-at text number kinds.PskPlace (inl h) = wrong-line h.0
line-at text number kinds.PskPlace (inr h) = first-line number (line_feeds text) h.0
line-at text number kinds.NameTaken h = first-line number (line_feeds text) h.0
line-at text number kinds.Limit h = wrong-line h.0
line-at text number kinds.Ending (inl h) = first-line number (line_feeds text) h.0
line-at text number kinds.Ending (inr h) = let more = more-feeds h.it in omega (arith, h.counted, more)

pub fault-line : (text : List ℕ) (fault : TextFault) → IsTextFault text fault → fault.line ≤ line_feeds text + 1
fault-line text fault h = line-at text fault.line fault.kind h
