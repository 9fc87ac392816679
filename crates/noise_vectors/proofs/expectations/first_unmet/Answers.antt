use Rattle.std.proofs.Common.{rules, ◌≡◌, length}
use Rattle.noise_vectors.proofs.ExpectationLemmas.{all-same, lines-len, unmet-at}
use Rattle.noise_vectors.proofs.expectations.first_unmet.Goals.{else-same-lines-via-then-same-lines+else-same-expected, else-same-lines-via-else-same-lines}
use Rattle.noise_vectors.proofs.expectations.first_unmet.Goals as goal

pub returns-then-same-expected : goal.returns-then-same-expected
returns-then-same-expected c = search (rules, all-same, lines-len)

pub returns-else-same-lines : goal.returns-else-same-lines
returns-else-same-lines c =
    let some : ¬ ((c.same_lines-same.result ≡ length c.args.lines.now) × (c.same_lines-same.result ≡ length c.args.expected.now)) = λ e.
    elim c.else-same-lines.branch [
      | else-same-lines-via-then-same-lines+else-same-expected w ↦ let bad = w.if-same-expected in let is = e.1 in absurd (search rules)
      | else-same-lines-via-else-same-lines w ↦ let bad = w.if-same-lines in let is = e.0 in absurd (search rules)
    ] in
    unmet-at c.args.lines.now c.args.expected.now c.same_lines-same.result c.same_lines-same.ensures.within.0 c.same_lines-same.ensures.within.1
    c.same_lines-same.ensures.value c.same_lines-same.ensures.differ some
