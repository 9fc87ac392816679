use Rattle.std.proofs.Common.{◌≡◌, inl, inr}
use Rattle.noise_tool.proofs.Common.{err_from_is_err_and, VersionOne}
use Rattle.noise_tool.proofs.PerformingLemmas.{converts-of, no-converted, or-other}
use Rattle.noise_tool.proofs.performing.converted_file.Goals as goal

pub returns-in_err-vector-clause-fault : goal.returns-in_err-vector-clause-fault
returns-in_err-vector-clause-fault c =
    let p = err_from_is_err_and c.from_residual.result c.from_residual.ensures.1 in
    rw (p.1, p.2) (or-other VersionOne c.args.text.now _ _ c.in_err-vector.ensures.fault)

pub returns-in_err-outcome-clause-fault : goal.returns-in_err-outcome-clause-fault
returns-in_err-outcome-clause-fault c =
    let p = err_from_is_err_and c.from_residual-in_err-outcome.result c.from_residual-in_err-outcome.ensures.1 in
    let read = c.in_ok-vector.ensures.read in
    rw (p.1, p.2) (inr (inl (inr (inr (c.in_ok-vector.vector, read.right, read.text_is, c.in_err-outcome.ensures.fault)))))

pub convert-requires : goal.convert-requires
convert-requires c =
    let read = c.in_ok-vector.ensures.read in
    record { text = (c.in_ok-vector.vector, read.is_allowed.1, read.text_is) }

pub returns-clause-converted : goal.returns-clause-converted
returns-clause-converted c =
    let file = c.in_ok-vector.vector in
    let read = c.in_ok-vector.ensures.read in
    let outcome = c.in_ok-outcome.outcome in
    let lines : c.deref.result.now ≡ outcome.lines.items = c.deref.ensures.value in
    converts-of c.args.text.now file outcome c.deref.result.now c.convert.result read.right read.is_allowed.1 read.text_is lines
    c.in_ok-outcome.ensures.lines (c.conversions_meet_themselves.ensures file outcome.lines read.right read.is_allowed.1
    c.in_ok-outcome.ensures.printed c.in_ok-outcome.ensures.lines) (c.convert.ensures.converted file read.is_allowed.1 read.text_is)
    c.convert.ensures.short

pub returns-clause-fault : goal.returns-clause-fault
returns-clause-fault c =
    let file = c.in_ok-vector.vector in
    let read = c.in_ok-vector.ensures.read in
    let outcome = c.in_ok-outcome.outcome in
    let lines : c.deref.result.now ≡ outcome.lines.items = c.deref.ensures.value in
    no-converted c.args.text.now file outcome c.deref.result.now c.convert.result read.right read.is_allowed.1 read.text_is lines
    c.in_ok-outcome.ensures.lines c.convert.ensures.fault
