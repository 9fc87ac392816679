use Rattle.std.proofs.Common.{rules, ◌≡◌, ◌∙◌, ap, inr, subst, true, ℕ, []}
use Rattle.noise_vectors.proofs.Common.{IsAllowedVersion, IsVersion, expect_words, lines_of, version_text, ReportsAfter, expect_lines}
use Rattle.noise_vectors.proofs.AdditionLemmas.{expected-after, no-datagrams, second-has}
use Rattle.noise_vectors.proofs.Results.{err-is}
use Rattle.noise_vectors.proofs.additions.read_version.Goals as goal

pub returns-in_err-datagrams-clause-every : goal.returns-in_err-datagrams-clause-every
returns-in_err-datagrams-clause-every c =
    let second : c.args.second ≡ true = search rules in
    λ version right allowed which e.
    let (a, is) = second-has version (which ∙ second) in
    let h = subst IsVersion is right in
    let none = no-datagrams c.args.allowed a (subst (IsAllowedVersion c.args.allowed) is allowed) in
    rw (err-is c.from_residual-in_err-datagrams.result c.from_residual-in_err-datagrams.ensures.1) (c.in_err-datagrams.ensures.every a.datagrams (lines_of expect_words a.expected.items []) h.0 none
    (expected-after a.expected.items) (e ∙ ap version_text is))

pub returns-in_err-expected-clause-every : goal.returns-in_err-expected-clause-every
returns-in_err-expected-clause-every c =
    let second : c.args.second ≡ true = search rules in
    λ version right allowed which e.
    let (a, is) = second-has version (which ∙ second) in
    let h = subst IsVersion is right in
    let none = no-datagrams c.args.allowed a (subst (IsAllowedVersion c.args.allowed) is allowed) in
    let read = c.in_ok-datagrams.ensures.every a.datagrams (lines_of expect_words a.expected.items []) h.0 none
    (expected-after a.expected.items) (e ∙ ap version_text is) in
    rw (err-is c.from_residual-in_err-expected.result c.from_residual-in_err-expected.ensures.1) (c.in_err-expected.ensures.every a.expected.items h.1 read)

pub returns-in_err-expected-clause-reported : goal.returns-in_err-expected-clause-reported
returns-in_err-expected-clause-reported c =
    let second : c.args.second ≡ true = search rules in λ over.
    let n = c.in_ok-datagrams.ensures.counted in
    let after = c.read_datagrams.new.lines.rest.now in
    rw (err-is c.from_residual-in_err-expected.result c.from_residual-in_err-expected.ensures.1) (inr (
      second,
      inr (record {
        datagrams = c.in_ok-datagrams.datagrams;
        are = c.in_ok-datagrams.ensures.right;
        is_allowed = c.in_ok-datagrams.ensures.allowed;
        after = after;
        text_is = c.in_ok-datagrams.ensures.text;
        stands = c.in_ok-datagrams.ensures.ended over;
        it = subst (λ (n : ℕ). ReportsAfter expect_lines after n c.in_err-expected.field-0.0) n c.in_err-expected.ensures.reported;
      }),
    ))
