use Rattle.std.proofs.Common.{rules, arith, ◌≡◌, ◌+◌, ◌≤◌, ◌∙◌, ap, subst, sym, refl, false, true≢false, List, ℕ, ◌∷◌, ◌++◌, codes, length, []}
use Rattle.std.specs.Bool.{nat_eq}
use Rattle.noise_vectors.proofs.Common.{false≢true, IsTrue, All, starts_with, length-append, All-push, psk_lines, ArePsks, lines_of, psk_words, IsKey}
use Rattle.noise_vectors.proofs.LineLemmas.{begun-by, lines_of-more}
use Rattle.noise_vectors.proofs.PartLemmas.{Next, lines-over, next-of, reports-cut, reports-wrong}
use Rattle.noise_vectors.proofs.ReadingLemmas.{psk-plain, psk-stands}
use Rattle.noise_vectors.proofs.Results.{at_ok, at_err, err-is}
use Rattle.noise_vectors.proofs.ReportedLemmas.{counted-ended}
use Rattle.noise_vectors.proofs.reader.read_psks.Goals.{After-read_psk}
use Rattle.noise_vectors.proofs.reader.read_psks.Goals as goal

-- a psk stands there
stands : (c : After-read_psk) → ¬ (starts_with nat_eq c.loop-lines.lines.rest.now (codes "psk ") ≡ false)
stands c over = true≢false (sym (begun-by c.loop-lines.lines.rest.now c.as_slice.ensures c.loop-lines-test.ensures.value) ∙ over)

-- so it is the next of these
next-psk : (c : After-read_psk) (psks : List (List ℕ)) (rest : List ℕ) → ArePsks psks → starts_with nat_eq rest (codes "psk ") ≡ false
    → c.args.lines.now.rest.now ≡ lines_of psk_words psks rest → Next psk_lines c.loop-lines.psks.items psks c.loop-lines.lines.rest.now
next-psk c psks rest h other e = search (rules, next-of, psk-plain, psk-stands, stands)

pub returns-in_default-clause-every : goal.returns-in_default-clause-every
returns-in_default-clause-every c =
    λ psks rest h other e.
    let f = next-psk (goal.at.returns-in_default-clause-every c).After-read_psk psks rest h other e in
    absurd (false≢true (c.in_default.ensures.every f.next f.good (c.in_ok-line.ensures.every (psk_words f.next) f.after (psk-plain f.next f.good) f.left_is).0))

pub returns-then-is_err-clause-every : goal.returns-then-is_err-clause-every
returns-then-is_err-clause-every c =
    let full : length c.loop-lines.psks.items ≡ 9 = at_err c.try_push.result c.try_push.ensures.full (sym c.if-is_err.ensures.value) in
    λ psks rest h other e.
    let f = next-psk (goal.at.returns-then-is_err-clause-every c).After-read_psk psks rest h other e in
    absurd (omega (arith, f.more, full, h.0))

pub returns-in_err-end-clause-every : goal.returns-in_err-end-clause-every
returns-in_err-end-clause-every c =
    λ psks rest h other e.
    let f = next-psk (goal.at.returns-in_err-end-clause-every c).After-read_psk psks rest h other e in
    absurd (false≢true (c.in_err-end.ensures.ended.1 (c.in_ok-line.ensures.every (psk_words f.next) f.after (psk-plain f.next f.good) f.left_is).2))

pub loop-lines-preserved : goal.loop-lines-preserved
loop-lines-preserved c =
    let ended : IsTrue c.next.new.self.is_ended = c.in_ok-end.ensures.ended.0 refl in
    let pushed : c.try_push.new.self.items ≡ c.loop-lines.psks.items ++ c.in-Some.psk ∷ [] =
    at_ok c.try_push.result c.try_push.ensures.ok (sym c.if-is_err.ensures.value) in
    let is_key : IsKey c.in-Some.psk = c.in-Some.ensures.right in
    let few : length c.try_push.new.self.items ≤ 9 = search rules in (
      lines_of-more psk_words c.args.lines.now.rest.now c.loop-lines.lines.rest.now c.in_ok-line.line.now c.next.new.self.rest.now
          c.loop-lines.psks.items c.in-Some.psk c.loop-lines.invariant.0 (c.in_ok-line.ensures.read.ended ended) c.in-Some.ensures.text
          ∙ ap (λ (psks : List (List ℕ)). lines_of psk_words psks c.next.new.self.rest.now) (sym pushed),
      (
        few,
        subst (λ (psks : List (List ℕ)). All IsKey psks) (sym pushed)
            (All-push IsKey c.loop-lines.psks.items c.in-Some.psk c.loop-lines.invariant.1.1 is_key),
      ),
      counted-ended c.in_ok-line.ensures.read ended ∙ c.loop-lines.invariant.2,
    )

pub returns-clause-every : goal.returns-clause-every
returns-clause-every c =
    let over : starts_with nat_eq c.loop-lines.lines.rest.now (codes "psk ") ≡ false =
    begun-by c.loop-lines.lines.rest.now c.as_slice.ensures c.loop-lines-test.ensures.value in
    λ psks rest h other e. (
      refl,
      lines-over psk_lines psk-plain psk-stands c.loop-lines.psks.items psks c.loop-lines.lines.rest.now rest c.loop-lines.invariant.1.1 h.1 over other
          (sym c.loop-lines.invariant.0 ∙ e),
    )

pub returns-in_default-clause-reported : goal.returns-in_default-clause-reported
returns-in_default-clause-reported c =
    reports-wrong psk_lines c.args.lines.now c.loop-lines.psks.items
    c.loop-lines.invariant.0 c.loop-lines.invariant.1.1 c.loop-lines.invariant.1.0 (stands (goal.at.returns-in_default-clause-reported c).After-read_psk) c.loop-lines.invariant.2 c.in_ok-line.ensures.read c.fault.ensures
    (λ psk key same. let some = c.in_default.ensures.every psk key same in absurd (false≢true some))

pub returns-in_err-end-clause-reported : goal.returns-in_err-end-clause-reported
returns-in_err-end-clause-reported c =
    let pushed : c.try_push.new.self.items ≡ c.loop-lines.psks.items ++ c.in-Some.psk ∷ [] =
    at_ok c.try_push.result c.try_push.ensures.ok (sym c.if-is_err.ensures.value) in
    let few : length c.try_push.new.self.items ≤ 9 = search rules in
    let more : length c.try_push.new.self.items ≡ length c.loop-lines.psks.items + 1 =
    ap length pushed ∙ length-append c.loop-lines.psks.items (c.in-Some.psk ∷ []) in
    rw (err-is c.from_residual-in_err-end.result c.from_residual-in_err-end.ensures.1) (reports-cut psk_lines c.args.lines.now c.loop-lines.psks.items c.in-Some.psk
    c.loop-lines.invariant.0 c.loop-lines.invariant.1.1 (omega (arith, few, more)) c.loop-lines.invariant.2 c.in_ok-line.ensures.read c.in_err-end.ensures.fault c.in-Some.ensures.text c.in-Some.ensures.right)
