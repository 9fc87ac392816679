use Rattle.std.proofs.Common.{rules, refl, arith, ◌≡◌, ◌+◌, ◌∙◌, ap, sym, subst, ℕ, Vec, List, ◌∷◌, ◌++◌, length, ◌<◌, ◌^◌, codes, []}
use Rattle.std.specs.Global.{Global}
use Rattle.noise_vectors.proofs.Common.{IsTrue, All, All-push, IsExpected, expect_line, expect_words, lines_of, expect_kind, expect_lines, LineKind, Line, bytes_of, length-append, false≢true}
use Rattle.noise_vectors.proofs.LineLemmas.{lines_of-more}
use Rattle.noise_vectors.proofs.PartLemmas.{Next, next-of, reports-cut, reports-wrong}
use Rattle.noise_vectors.proofs.ReportedLemmas.{counted-ended}
use Rattle.noise_vectors.proofs.HeldLemmas.{expect-more, good-plain, good-stands, partial-good, partial-lines, lines-long}
use Rattle.noise_vectors.proofs.Results.{chosen_ok, err-is}
use Rattle.noise_vectors.proofs.expected.read_expected.Goals as goal

abbrev IsRight : Vec ℕ Global → Type 0
IsRight words = IsExpected words.items

-- the lines that are expected and weren't read
next-expected : (done expected : List (Vec ℕ Global)) (from left : List ℕ) → from ≡ lines_of expect_words done left → All IsRight done
    → from ≡ lines_of expect_words expected [] → All IsRight expected → ¬ (left ≡ []) → Next expect_lines (bytes_of done) (bytes_of expected) left
next-expected done expected from left text are e right ahead =
    search (rules, next-of, good-plain, good-stands, partial-lines, partial-good)

pub returns-in_default-clause-every : goal.returns-in_default-clause-every
returns-in_default-clause-every c = λ expected right e.
    let f = next-expected c.loop-alloc.expected.items expected c.args.lines.now.rest.now c.loop-alloc.lines.rest.now c.loop-alloc.invariant.0
    c.loop-alloc.invariant.1 e right (λ stop. false≢true (sym c.loop-alloc-test.true ∙ c.is_empty.ensures.1 stop)) in
    absurd (c.in_default.ensures.every f.next f.good.0 (c.in_ok-line.ensures.every (expect_line f.next) f.after (good-plain f.next f.good) f.left_is).0 tt)

pub returns-in_err-end-clause-every : goal.returns-in_err-end-clause-every
returns-in_err-end-clause-every c = λ expected right e.
    let f = next-expected c.loop-alloc.expected.items expected c.args.lines.now.rest.now c.loop-alloc.lines.rest.now c.loop-alloc.invariant.0
    c.loop-alloc.invariant.1 e right (λ stop. false≢true (sym c.loop-alloc-test.true ∙ c.is_empty.ensures.1 stop)) in
    absurd (false≢true (c.in_err-end.ensures.ended.1 (c.in_ok-line.ensures.every (expect_line f.next) f.after (good-plain f.next f.good) f.left_is).2))

pub loop-alloc-preserved : goal.loop-alloc-preserved
loop-alloc-preserved c =
    let ended : IsTrue c.next.new.self.is_ended = c.in_ok-end.ensures.ended.0 refl in
    let found : c.in_ok-line.line.now ≡ expect_words c.in_ok-words.words = search rules in
    let is_right : IsExpected c.in_ok-words.words.items = search rules in
    let pushed : c.push.new.self.items ≡ c.loop-alloc.expected.items ++ c.in_ok-words.words ∷ [] =
    chosen_ok c.push.result _ _ _ c.push.ensures.items (sym c.if-is_err.ensures.value) in (
      lines_of-more expect_words c.args.lines.now.rest.now c.loop-alloc.lines.rest.now c.in_ok-line.line.now c.next.new.self.rest.now
          c.loop-alloc.expected.items c.in_ok-words.words c.loop-alloc.invariant.0 (c.in_ok-line.ensures.read.ended ended) found
          ∙ ap (λ (expected : List (Vec ℕ Global)). lines_of expect_words expected c.next.new.self.rest.now) (sym pushed),
      subst (λ (expected : List (Vec ℕ Global)). All IsRight expected) (sym pushed)
          (All-push IsRight c.loop-alloc.expected.items c.in_ok-words.words c.loop-alloc.invariant.1 is_right),
      expect-more c.loop-alloc.expected.items c.in_ok-words.words
          ∙ ap (λ (vs : List (Vec ℕ Global)). expect_kind (bytes_of vs)) (sym pushed),
      counted-ended c.in_ok-line.ensures.read ended ∙ c.loop-alloc.invariant.3,
    )

pub returns-in_default-clause-reported : goal.returns-in_default-clause-reported
returns-in_default-clause-reported c =
    let text = c.loop-alloc.invariant.0 ∙ partial-lines c.loop-alloc.expected.items c.loop-alloc.lines.rest.now in
    let long = lines-long expect_line (bytes_of c.loop-alloc.expected.items) c.args.lines.now.rest.now c.loop-alloc.lines.rest.now c.next.new.self.rest.now text
    c.in_ok-line.ensures.shorter in
    let few : length (bytes_of c.loop-alloc.expected.items) + 1 < 2 ^ 63 = omega (arith, long) in
    reports-wrong expect_lines c.args.lines.now (bytes_of c.loop-alloc.expected.items)
    text (partial-good c.loop-alloc.expected.items c.loop-alloc.invariant.1) (omega (arith, few)) (λ none. false≢true (sym c.loop-alloc-test.true ∙ c.is_empty.ensures.1 none)) c.loop-alloc.invariant.3 c.in_ok-line.ensures.read (c.fault.ensures ∙ ap (λ (k : LineKind). Line c.next.new.self.number k) c.loop-alloc.invariant.2)
    (λ words good same. c.in_default.ensures.every words good.0 same tt)

pub returns-in_err-end-clause-reported : goal.returns-in_err-end-clause-reported
returns-in_err-end-clause-reported c =
    let text = c.loop-alloc.invariant.0 ∙ partial-lines c.loop-alloc.expected.items c.loop-alloc.lines.rest.now in
    let long = lines-long expect_line (bytes_of c.loop-alloc.expected.items) c.args.lines.now.rest.now c.loop-alloc.lines.rest.now c.next.new.self.rest.now text
    c.in_ok-line.ensures.shorter in
    let few : length (bytes_of c.loop-alloc.expected.items) + 1 < 2 ^ 63 = omega (arith, long) in
    let words : length c.in_ok-line.line.now ≡ 7 + length c.in-Some.words.now = ap length c.in-Some.ensures.text ∙ length-append (codes "expect ") c.in-Some.words.now in
    let last : length c.loop-alloc.lines.rest.now ≡ length c.in_ok-line.line.now = ap length (c.in_ok-line.ensures.read.last c.in_err-end.ensures.fault.0).0 in
    let short : length c.loop-alloc.lines.rest.now < 2 ^ 63 = omega arith in
    rw (err-is c.from_residual-in_err-end.result c.from_residual-in_err-end.ensures.1) (reports-cut expect_lines c.args.lines.now (bytes_of c.loop-alloc.expected.items) c.in-Some.words.now
    text (partial-good c.loop-alloc.expected.items c.loop-alloc.invariant.1) few c.loop-alloc.invariant.3 c.in_ok-line.ensures.read c.in_err-end.ensures.fault c.in-Some.ensures.text (c.in-Some.ensures.right, omega (arith, words, last, short)))
