use Rattle.std.proofs.Common.{◌∙◌, ◌+◌, ◌∷◌, ap, drop, sym}
use Rattle.noise_lines.proofs.Common.{drop_more, bytes_of, traces_of}
use Rattle.noise_lines.proofs.TracedLinesLemmas.{line-here, written-cut, written-more}
use Rattle.noise_lines.proofs.traced_lines.write_each.Goals as goal

pub returns-in_err-write_one-clause-prefix : goal.returns-in_err-write_one-clause-prefix
returns-in_err-write_one-clause-prefix g c =
    let lines = c.args.lines.now in
    let i = c.loop-index.index in
    let item = c.index-lines-index.result in
    let here = line-here lines i item c.deref.result.now
    (drop_more lines i item c.loop-index-test.true ∙ ap (λ x. x ∷ drop (i + 1) lines) (sym c.index-lines-index.is)) c.deref.ensures.value in
    written-cut _ _ _ (bytes_of lines) (traces_of c.args.traces.now) i c.deref.result.now (bytes_of c.trace_at.result.now) c.loop-index.invariant here
    c.trace_at.ensures c.write_one.ensures.prefix

pub loop-index-preserved : goal.loop-index-preserved
loop-index-preserved g c =
    let lines = c.args.lines.now in
    let i = c.loop-index.index in
    let item = c.index-lines-index.result in
    let here = line-here lines i item c.deref.result.now
    (drop_more lines i item c.loop-index-test.true ∙ ap (λ x. x ∷ drop (i + 1) lines) (sym c.index-lines-index.is)) c.deref.ensures.value in
    written-more _ _ _ (bytes_of lines) (traces_of c.args.traces.now) i c.deref.result.now (bytes_of c.trace_at.result.now) c.loop-index.invariant here
    c.trace_at.ensures c.in_ok-write_one.ensures.written
