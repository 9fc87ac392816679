use Rattle.std.proofs.Common.{rules, ℕ, List, ◌≡◌, ◌∙◌, ◌+◌, ◌≤◌, ap, subst, sym, refl, arith, ◌∷◌, ◌++◌, false, true≢false, length, []}
use Rattle.noise_vectors.proofs.Common.{false≢true, IsTrue, All, length-append, All-push, TableEntry, IsEntry, answer_words, lines_of, answer_lines}
use Rattle.noise_keys.specs.Table.{Table}
use Rattle.noise_vectors.proofs.LineLemmas.{begun-by, lines_of-more}
use Rattle.noise_vectors.proofs.PartyLemmas.{answer-stands, begins, lacks-answer_words}
use Rattle.noise_vectors.proofs.PartLemmas.{Next, lines-over, next-of, reports-cut, reports-wrong}
use Rattle.noise_vectors.proofs.ReportedLemmas.{counted-ended}
use Rattle.noise_vectors.proofs.parties.read_table.Goals.{After-read_answer}
use Rattle.noise_vectors.proofs.Results.{err-is}
use Rattle.noise_vectors.proofs.parties.read_table.Goals as goal

-- an answer stands there
stands : (c : After-read_answer) → ¬ (begins c.loop-lines.lines.rest.now ≡ false)
stands c over = true≢false (sym (begun-by c.loop-lines.lines.rest.now c.as_slice.ensures c.loop-lines-test.ensures.value) ∙ over)

-- so it is the next of these
next-answer : (c : After-read_answer) (entries : List TableEntry) (rest : List ℕ) → All IsEntry entries → begins rest ≡ false
    → c.args.lines.now.rest.now ≡ lines_of answer_words entries rest → Next answer_lines c.loop-lines.table.entries entries c.loop-lines.lines.rest.now
next-answer c entries rest are other is = search (rules, next-of, lacks-answer_words, answer-stands, stands)

pub returns-in_default-clause-every : goal.returns-in_default-clause-every
returns-in_default-clause-every c =
    λ entries rest few are other is.
    let f = next-answer (goal.at.returns-in_default-clause-every c).After-read_answer entries rest are other is in
    let read = c.in_ok-line.ensures.every (answer_words f.next) f.after (lacks-answer_words f.next f.good) f.left_is in
    absurd (false≢true (c.in_default.ensures.every f.next f.good read.0))

pub returns-then-is_err-clause-every : goal.returns-then-is_err-clause-every
returns-then-is_err-clause-every c =
    let full : length c.loop-lines.table.entries ≡ 8 = c.add.ensures.full.0 (sym c.if-is_err.ensures.value) in
    λ entries rest few are other is.
    let f = next-answer (goal.at.returns-then-is_err-clause-every c).After-read_answer entries rest are other is in
    absurd (omega (arith, f.more, full, few))

pub returns-in_err-end-clause-every : goal.returns-in_err-end-clause-every
returns-in_err-end-clause-every c =
    λ entries rest few are other is.
    let f = next-answer (goal.at.returns-in_err-end-clause-every c).After-read_answer entries rest are other is in
    absurd (false≢true (c.in_err-end.ensures.ended.1 (c.in_ok-line.ensures.every (answer_words f.next) f.after (lacks-answer_words f.next f.good) f.left_is).2))

pub loop-lines-preserved : goal.loop-lines-preserved
loop-lines-preserved c =
    let ended : IsTrue c.next.new.self.is_ended = c.in_ok-end.ensures.ended.0 refl in
    let found : TableEntry = record { own = c.in-Some.found.0; remote = c.in-Some.found.1; answer = c.in-Some.found.2 } in
    let added : c.add.new.self ≡ record c.loop-lines.table { entries = c.loop-lines.table.entries ++ found ∷ [] } = search rules in
    let one : length c.add.new.self.entries ≡ length c.loop-lines.table.entries + 1 =
    ap (λ (t : Table). length t.entries) added ∙ length-append c.loop-lines.table.entries (found ∷ []) in
    let other : ¬ (length c.loop-lines.table.entries ≡ 8) = λ e. false≢true (sym c.if-is_err.false ∙ c.is_err.ensures.value ∙ c.add.ensures.full.1 e) in
    let room : length c.add.new.self.entries ≤ 8 = omega (arith, c.loop-lines.invariant.few, one) in
    record {
      e = ap (λ (t : Table). t.e) added ∙ c.loop-lines.invariant.e;
      s = ap (λ (t : Table). t.s) added ∙ c.loop-lines.invariant.s;
      text = lines_of-more answer_words c.args.lines.now.rest.now c.loop-lines.lines.rest.now c.in_ok-line.line.now c.next.new.self.rest.now
          c.loop-lines.table.entries found c.loop-lines.invariant.text (c.in_ok-line.ensures.read.ended ended) c.in-Some.ensures.text
          ∙ ap (λ (t : Table). lines_of answer_words t.entries c.next.new.self.rest.now) (sym added);
      few = room;
      right = subst (λ (t : Table). All IsEntry t.entries) (sym added)
          (All-push IsEntry c.loop-lines.table.entries found c.loop-lines.invariant.right c.in-Some.ensures.right);
      counted = counted-ended c.in_ok-line.ensures.read ended ∙ c.loop-lines.invariant.counted;
    }

pub returns-clause-every : goal.returns-clause-every
returns-clause-every c =
    let over : begins c.loop-lines.lines.rest.now ≡ false =
    begun-by c.loop-lines.lines.rest.now c.as_slice.ensures c.loop-lines-test.ensures.value in
    λ entries rest few are other is. (
      refl,
      lines-over answer_lines lacks-answer_words answer-stands c.loop-lines.table.entries entries c.loop-lines.lines.rest.now rest c.loop-lines.invariant.right
          are over other (sym c.loop-lines.invariant.text ∙ is),
    )

pub returns-in_default-clause-reported : goal.returns-in_default-clause-reported
returns-in_default-clause-reported c =
    reports-wrong answer_lines c.args.lines.now c.loop-lines.table.entries
    c.loop-lines.invariant.text c.loop-lines.invariant.right c.loop-lines.invariant.few (stands (goal.at.returns-in_default-clause-reported c).After-read_answer) c.loop-lines.invariant.counted c.in_ok-line.ensures.read c.fault.ensures
    (λ entry good same. let some = c.in_default.ensures.every entry good same in absurd (false≢true some))

pub returns-then-is_err-clause-reported : goal.returns-then-is_err-clause-reported
returns-then-is_err-clause-reported c =
    reports-wrong answer_lines c.args.lines.now c.loop-lines.table.entries
    c.loop-lines.invariant.text c.loop-lines.invariant.right c.loop-lines.invariant.few (stands (goal.at.returns-then-is_err-clause-reported c).After-read_answer) c.loop-lines.invariant.counted c.in_ok-line.ensures.read c.fault-then-is_err.ensures
    (λ entry good same. (c.add.ensures.full.0 (sym c.if-is_err.ensures.value)))

pub returns-in_err-end-clause-reported : goal.returns-in_err-end-clause-reported
returns-in_err-end-clause-reported c =
    let found : TableEntry = record { own = c.in-Some.found.0; remote = c.in-Some.found.1; answer = c.in-Some.found.2 } in
    let other : ¬ (length c.loop-lines.table.entries ≡ 8) = λ e. false≢true (sym c.if-is_err.false ∙ c.is_err.ensures.value ∙ c.add.ensures.full.1 e) in
    rw (err-is c.from_residual-in_err-end.result c.from_residual-in_err-end.ensures.1) (reports-cut answer_lines c.args.lines.now c.loop-lines.table.entries found
    c.loop-lines.invariant.text c.loop-lines.invariant.right (omega (arith, c.loop-lines.invariant.few, other)) c.loop-lines.invariant.counted c.in_ok-line.ensures.read c.in_err-end.ensures.fault c.in-Some.ensures.text c.in-Some.ensures.right)
