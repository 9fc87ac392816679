use Rattle.std.proofs.Common.{rules, ◌≡◌, ◌++◌, ◌<◌, refl, subst, inr, List, [], ℕ, length, codes}
use Rattle.noise_lines.proofs.Common.{bytes_of}
use Rattle.noise_vectors.specs.VectorText.{expect_line, line_then, lines_of}
use Rattle.noise_lines.proofs.ConvertingLemmas.{converted-is}
use Rattle.noise_lines.proofs.conversion.convert.Goals as goal

pub returns-then-len-gt-LIMIT-clause-fault : goal.returns-then-len-gt-LIMIT-clause-fault
returns-then-len-gt-LIMIT-clause-fault c = inr (
  refl,
  λ file one spelled.
      let begun : c.args.text.now ≡ line_then (codes "vector 1") c.in-Some.after.now = search rules in
      let is : c.push_expectations.new.text.items ≡ line_then (codes "vector 2") c.in-Some.after.now ++ lines_of expect_line (bytes_of c.args.lines.now) [] = search rules in
      let all = converted-is file (bytes_of c.args.lines.now) c.args.text.now c.in-Some.after.now c.push_expectations.new.text.items one spelled begun is in
      let long : 4194304 < length c.push_expectations.new.text.items = search rules in
      subst (λ (t : List ℕ). 4194304 < length t) all long,
)

pub returns-clause-converted : goal.returns-clause-converted
returns-clause-converted c = λ file one spelled.
    let begun : c.args.text.now ≡ line_then (codes "vector 1") c.in-Some.after.now = search rules in
    let is : c.push_expectations.new.text.items ≡ line_then (codes "vector 2") c.in-Some.after.now ++ lines_of expect_line (bytes_of c.args.lines.now) [] = search rules in
    converted-is file (bytes_of c.args.lines.now) c.args.text.now c.in-Some.after.now c.push_expectations.new.text.items one spelled begun is
