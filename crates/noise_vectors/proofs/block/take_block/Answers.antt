use Rattle.std.proofs.Common.{rules, ◌≡◌, ◌∙◌, ◌+◌, ◌-◌, ap, refl, sym, List, ℕ, ◌++◌, codes, length, take, []}
use Rattle.noise_vectors.proofs.Common.{IsTrue, bytes_eq-Decides, line_then, Line}
use Rattle.noise_vectors.proofs.BlockLemmas.{front-is, Left-last, Left-next, Left-start, Left-step, Read-end, Read-none, Read-open, Read-step}
use Rattle.noise_vectors.proofs.LineLemmas.{Ends-after, Ends-whole}
use Rattle.noise_vectors.proofs.ReportedLemmas.{counted-ended, counted-last, ending-reported}
use Rattle.noise_vectors.proofs.Results.{err-is}
use Rattle.noise_vectors.specs.declared.faults.LineKind.TheVariants as kinds
use Rattle.noise_vectors.proofs.block.take_block.Goals as goal

pub loop-lines-init : goal.loop-lines-init
loop-lines-init c = (([], refl), λ before rest h e. Left-start rest before c.args.lines.now.rest.now h e, refl, Read-none c.args.lines.now.rest.now)

pub returns-in_err-next-clause-every : goal.returns-in_err-next-clause-every
returns-in_err-next-clause-every c = λ before rest h e.
    absurd (Left-next rest c.loop-lines.lines.rest.now (c.loop-lines.invariant.1 before rest h e) c.in_err-next.ensures.every)

pub returns-then-eq-clause-text : goal.returns-then-eq-clause-text
returns-then-eq-clause-text c =
    let last : c.in_ok-next.field-0.now ≡ codes "end" = search rules in
    let text = c.args.lines.now.rest.now in
    let left = c.loop-lines.lines.rest.now in
    λ ended. Ends-whole text left c.loop-lines.invariant.0
    ∙ ap (λ (t : List ℕ). take (length text - length left) text ++ t)
    (c.in_ok-next.ensures.read.ended ended ∙ ap (λ (t : List ℕ). line_then t c.next.new.self.rest.now) last)

pub returns-then-eq-clause-block : goal.returns-then-eq-clause-block
returns-then-eq-clause-block c =
    let last : c.in_ok-next.field-0.now ≡ codes "end" = search rules in
    Read-end c.args.lines.now.rest.now c.loop-lines.invariant.3 c.in_ok-next.ensures.read last

pub returns-then-eq-clause-every : goal.returns-then-eq-clause-every
returns-then-eq-clause-every c =
    let last : c.in_ok-next.field-0.now ≡ codes "end" = search rules in
    let left = c.loop-lines.lines.rest.now in
    λ before rest h e.
    let l = Left-last rest left c.in_ok-next.field-0.now c.next.new.self.rest.now c.next.new.self.is_ended
    (c.loop-lines.invariant.1 before rest h e) c.in_ok-next.ensures.every last in
    (front-is c.args.lines.now.rest.now left rest before e l.0, l.1, l.2)

pub returns-in_err-end-clause-every : goal.returns-in_err-end-clause-every
returns-in_err-end-clause-every c =
    let word : c.as_slice.result.now ≡ codes "end" = c.as_slice.ensures in
    let other : ¬ (c.in_ok-next.field-0.now ≡ codes "end") =
    λ e. let yes = (bytes_eq-Decides c.in_ok-next.field-0.now c.as_slice.result.now).1 (e ∙ sym word) in cc (c.eq.ensures, yes) in
    λ before rest h e.
    let l = Left-step rest c.loop-lines.lines.rest.now c.in_ok-next.field-0.now c.next.new.self.rest.now c.next.new.self.is_ended
    (c.loop-lines.invariant.1 before rest h e) c.in_ok-next.ensures.every other in
    let ok = c.in_err-end.ensures.ended.1 l.1 in
    cc (ok)

pub loop-lines-preserved : goal.loop-lines-preserved
loop-lines-preserved c =
    let ended : IsTrue c.next.new.self.is_ended = c.in_ok-end.ensures.ended.0 refl in
    let word : c.as_slice.result.now ≡ codes "end" = c.as_slice.ensures in
    let other : ¬ (c.in_ok-next.field-0.now ≡ codes "end") =
    λ e. let yes = (bytes_eq-Decides c.in_ok-next.field-0.now c.as_slice.result.now).1 (e ∙ sym word) in cc (c.eq.ensures, yes) in (
      Ends-after c.args.lines.now.rest.now c.loop-lines.lines.rest.now c.in_ok-next.field-0.now c.next.new.self.rest.now
          c.loop-lines.invariant.0 (c.in_ok-next.ensures.read.ended ended),
      λ before rest h e.
          let l = Left-step rest c.loop-lines.lines.rest.now c.in_ok-next.field-0.now c.next.new.self.rest.now c.next.new.self.is_ended
          (c.loop-lines.invariant.1 before rest h e) c.in_ok-next.ensures.every other in
          l.0,
      counted-ended c.in_ok-next.ensures.read ended ∙ c.loop-lines.invariant.2,
      Read-step c.args.lines.now.rest.now c.loop-lines.lines.rest.now c.in_ok-next.field-0.now c.next.new.self.rest.now c.loop-lines.invariant.3
          (c.in_ok-next.ensures.read.plain, other) (c.in_ok-next.ensures.read.ended ended),
    )

pub returns-then-eq-clause-counted : goal.returns-then-eq-clause-counted
returns-then-eq-clause-counted c = λ ended. counted-ended c.in_ok-next.ensures.read ended ∙ c.loop-lines.invariant.2

pub returns-then-eq-clause-last : goal.returns-then-eq-clause-last
returns-then-eq-clause-last c = λ open_. counted-last c.in_ok-next.ensures.read open_ ∙ ap (λ (k : ℕ). k + 1) c.loop-lines.invariant.2

pub returns-in_err-next-clause-reported : goal.returns-in_err-next-clause-reported
returns-in_err-next-clause-reported c =
    let none = c.in_err-next.ensures.missing.0 in
    rw (err-is c.from_residual.result c.from_residual.ensures.1) (
      c.in_err-next.ensures.missing.1 ∙ ap (λ (k : ℕ). Line (k + 1) kinds.Ending) c.loop-lines.invariant.2,
      Read-open c.args.lines.now.rest.now c.loop-lines.lines.rest.now c.loop-lines.invariant.3 (rw none refl) (λ e. let bad : [] ≡ codes "end" = sym none ∙ e in cc bad),
    )

pub returns-in_err-end-clause-reported : goal.returns-in_err-end-clause-reported
returns-in_err-end-clause-reported c =
    let word : c.as_slice.result.now ≡ codes "end" = c.as_slice.ensures in
    let other : ¬ (c.in_ok-next.field-0.now ≡ codes "end") =
    λ e. let yes = (bytes_eq-Decides c.in_ok-next.field-0.now c.as_slice.result.now).1 (e ∙ sym word) in cc (c.eq.ensures, yes) in
    let last = (c.in_ok-next.ensures.read.last c.in_err-end.ensures.fault.0).0 in
    rw (err-is c.from_residual-in_err-end.result c.from_residual-in_err-end.ensures.1) (
      ending-reported c.in_ok-next.ensures.read c.in_err-end.ensures.fault ∙ ap (λ (k : ℕ). Line (k + 1) kinds.Ending) c.loop-lines.invariant.2,
      Read-open c.args.lines.now.rest.now c.loop-lines.lines.rest.now c.loop-lines.invariant.3 (rw last c.in_ok-next.ensures.read.plain) (λ e. other (sym last ∙ e)),
    )
