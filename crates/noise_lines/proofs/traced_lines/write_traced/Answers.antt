use Rattle.std.proofs.Common.{◌∙◌, ◌++◌, [], ap, append-nil, sym, List, ℕ}
use Rattle.noise_lines.proofs.Common.{lines_text, traces_of, with_traces, bytes_of}
use Rattle.noise_lines.proofs.PrefixLemmas.{prefix-after}
use Rattle.noise_lines.proofs.TracedLinesLemmas.{lines-apart}
use Rattle.noise_lines.proofs.traced_lines.write_traced.Goals as goal

pub returns-clause-prefix : goal.returns-clause-prefix
returns-clause-prefix g c =
    let start = bytes_of c.args.start.now in
    let all = with_traces (bytes_of c.args.lines.now) (traces_of c.args.traces.now) in
    prefix-after _ _ _ (lines_text start) (lines_text all) [] _ c.in_ok-write_lines.ensures.written c.write_each.ensures.prefix
    (lines-apart start all ∙ ap (λ (t : List ℕ). lines_text start ++ t) (sym (append-nil (lines_text all))))
