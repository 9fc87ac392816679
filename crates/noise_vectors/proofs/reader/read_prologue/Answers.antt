use Rattle.std.proofs.Common.{codes, ◌++◌, refl}
use Rattle.noise_vectors.proofs.Common.{false≢true, hex_of, IsPrologueLine}
use Rattle.noise_vectors.proofs.ReadingLemmas.{prologue-plain}
use Rattle.noise_vectors.proofs.PartLemmas.{line-cut, line-wrong}
use Rattle.noise_vectors.proofs.ReportedLemmas.{counted-ended}
use Rattle.noise_vectors.proofs.Results.{err-is}
use Rattle.noise_vectors.specs.declared.faults.LineKind.TheVariants as kinds
use Rattle.noise_vectors.proofs.reader.read_prologue.Goals as goal

pub returns-in_default-clause-every : goal.returns-in_default-clause-every
returns-in_default-clause-every c = λ bytes rest h e.
    let read = c.in_ok-line.ensures.every (codes "prologue " ++ hex_of bytes) rest (prologue-plain bytes h) e in
    absurd (false≢true (rw c.in_default.is at (c.in_ok-prologue.ensures.every bytes h read.0)))

pub returns-in_err-end-clause-every : goal.returns-in_err-end-clause-every
returns-in_err-end-clause-every c = λ bytes rest h e.
    absurd (false≢true (c.in_err-end.ensures.ended.1 (c.in_ok-line.ensures.every (codes "prologue " ++ hex_of bytes) rest (prologue-plain bytes h) e).2))

pub returns-clause-every : goal.returns-clause-every
returns-clause-every c = λ bytes rest h e.
    (c.in_ok-line.ensures.every (codes "prologue " ++ hex_of bytes) rest (prologue-plain bytes h) e).1

pub returns-in_default-clause-reported : goal.returns-in_default-clause-reported
returns-in_default-clause-reported c =
    line-wrong IsPrologueLine c.in_ok-line.ensures.read c.fault.ensures (λ good. let some = c.in_ok-prologue.ensures.every good.0 good.1 good.2 in let none = rw c.in_default.is at some in cc (none))

pub returns-in_err-end-clause-reported : goal.returns-in_err-end-clause-reported
returns-in_err-end-clause-reported c =
    rw (err-is c.from_residual-in_err-end.result c.from_residual-in_err-end.ensures.1) (line-cut IsPrologueLine kinds.Prologue c.in_ok-line.ensures.read c.in_err-end.ensures.fault (c.in-Some.prologue.items, rw c.in-Some.is at c.in_ok-prologue.ensures.right, rw c.in-Some.is at c.in_ok-prologue.ensures.text))

pub returns-clause-counted : goal.returns-clause-counted
returns-clause-counted c =
    counted-ended c.in_ok-line.ensures.read (c.in_ok-end.ensures.ended.0 refl)
