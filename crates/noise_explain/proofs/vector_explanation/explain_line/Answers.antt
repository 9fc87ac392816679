use Rattle.std.proofs.Common.{refl, ◌∙◌, ◌++◌, ap, ℕ, List}
use Rattle.noise_explain.specs.declared.position.Position.{Position}
use Rattle.noise_explain.proofs.vector_explanation.explain_line.Goals as goal

pub returns : goal.returns
returns c =
    let found : Position = record { line = c.args.number; column = c.line_column.result } in
    let lines : List ℕ = c.deref.result.now in
    record {
      position = found;
      line_is = refl;
      at = c.line_column.ensures;
      status_is = refl;
      begins = (lines, c.in_ok-extend_from_slice.ensures.items ∙ ap (λ (t : List ℕ). t ++ lines) c.in_ok-sentences.ensures);
    }
