use Rattle.std.proofs.Common.{◌≡◌, refl}
use Rattle.noise_tool.proofs.Common.{bytes_of, traces_of, selection_of, HasTraces, IsTraceOf, Selection, VectorFile}
use Rattle.noise_tool.specs.TracedText.{trace_lines}
use Rattle.noise_run.specs.declared.tracing.Traced.{Traced}
use Rattle.noise_tool.proofs.PerformingLemmas.{gives-run}
use Rattle.noise_tool.proofs.trace_file.trace_chosen.Goals as goal

-- all lines of a trace
trace-of : (selection : Selection) (file : VectorFile) (traced : Traced)
    → HasTraces selection file (bytes_of traced.outcome.lines.items) (bytes_of traced.start.items) (traces_of traced.traces.items)
    → IsTraceOf selection file (bytes_of traced.outcome.lines.items) (trace_lines traced)
trace-of selection file traced shown =
    record { start = bytes_of traced.start.items; traces = traces_of traced.traces.items; shown = shown; traced_are = refl }

pub trace_text-requires : goal.trace_text-requires
trace_text-requires c =
    let read = c.in_ok-vector.ensures.read in
    record { right = read.right; text = read.text_is }

pub returns-clause-made : goal.returns-clause-made
returns-clause-made c =
    let traced = c.in_ok-traced.traced in
    gives-run c.in_ok-vector.ensures.read (IsTraceOf (selection_of c.args.chosen.now)) traced
    (trace-of _ c.in_ok-vector.vector traced (rw c.selection.ensures at c.in_ok-traced.ensures.lines)) c.in_ok-traced.ensures.expected _
    c.in_ok-run_answer.ensures.made
