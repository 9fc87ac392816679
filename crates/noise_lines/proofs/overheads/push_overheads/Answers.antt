use Rattle.std.proofs.Common.{◌∙◌, ℕ, ◌+◌, List, ◌++◌, ap}
use Rattle.noise_lines.specs.Output.{overhead_line}
use Rattle.noise_lines.proofs.OutputLemmas.{lines-more}
use Rattle.noise_lines.proofs.overheads.push_overheads.Goals as goal

pub loop-index-preserved : goal.loop-index-preserved
loop-index-preserved c =
    let line : ℕ → List ℕ = overhead_line c.args.pattern.now in
    c.in_ok-push_overhead.ensures.appended
    ∙ ap (λ (text : List ℕ). text ++ line (c.loop-index.index + 1)) c.loop-index.invariant
    ∙ lines-more line c.args.text.now.items c.loop-index.index
