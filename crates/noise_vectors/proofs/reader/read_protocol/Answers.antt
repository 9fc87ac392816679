use Rattle.std.proofs.Common.{codes, ◌++◌, refl}
use Rattle.noise_vectors.proofs.Common.{false≢true, name_bytes, IsProtocolLine}
use Rattle.noise_vectors.proofs.ReadingLemmas.{protocol-plain}
use Rattle.noise_vectors.proofs.PartLemmas.{line-cut, line-wrong}
use Rattle.noise_vectors.proofs.ReportedLemmas.{counted-ended}
use Rattle.noise_vectors.proofs.Results.{err-is}
use Rattle.noise_vectors.specs.declared.faults.LineKind.TheVariants as kinds
use Rattle.noise_vectors.proofs.reader.read_protocol.Goals as goal

pub returns-in_default-clause-every : goal.returns-in_default-clause-every
returns-in_default-clause-every c = λ name rest h e.
    let read = c.in_ok-line.ensures.every (codes "protocol " ++ name_bytes name) rest (protocol-plain name h) e in
    let none = c.in_default.ensures.every name h read.0 in
    absurd (cc (none))

pub returns-in_err-end-clause-every : goal.returns-in_err-end-clause-every
returns-in_err-end-clause-every c = λ name rest h e.
    absurd (false≢true (c.in_err-end.ensures.ended.1 (c.in_ok-line.ensures.every (codes "protocol " ++ name_bytes name) rest (protocol-plain name h) e).2))

pub returns-clause-every : goal.returns-clause-every
returns-clause-every c = λ name rest h e.
    let read = c.in_ok-line.ensures.every (codes "protocol " ++ name_bytes name) rest (protocol-plain name h) e in
    let found = c.in-Some.ensures.every name h read.0 in
    (cc (found), read.1)

pub returns-in_default-clause-reported : goal.returns-in_default-clause-reported
returns-in_default-clause-reported c =
    line-wrong IsProtocolLine c.in_ok-line.ensures.read c.fault.ensures (λ good. let none = c.in_default.ensures.every good.0 good.1 good.2 in cc (none))

pub returns-in_err-end-clause-reported : goal.returns-in_err-end-clause-reported
returns-in_err-end-clause-reported c =
    rw (err-is c.from_residual-in_err-end.result c.from_residual-in_err-end.ensures.1) (line-cut IsProtocolLine kinds.Protocol c.in_ok-line.ensures.read c.in_err-end.ensures.fault (c.in-Some.name, c.in-Some.ensures.right, c.in-Some.ensures.text))

pub returns-clause-counted : goal.returns-clause-counted
returns-clause-counted c =
    counted-ended c.in_ok-line.ensures.read (c.in_ok-end.ensures.ended.0 refl)
