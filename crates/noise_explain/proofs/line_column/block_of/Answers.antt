use Rattle.std.proofs.Common.{◌∙◌, ap}
use Rattle.noise_explain.specs.Positions.{after_line}
use Rattle.noise_explain.proofs.ShapeLemmas.{match-such}
use Rattle.noise_explain.proofs.line_column.block_of.Goals as goal

pub returns : goal.returns
returns c =
    let rest = c.after_line-rest.ensures ∙ ap after_line c.after_line.ensures in
    match-such _ _ c.lines_before_end.result (rw rest at c.lines_before_end.ensures.block)
    (λ none. λ lines is. c.lines_before_end.ensures.none none (rw rest is.0))
