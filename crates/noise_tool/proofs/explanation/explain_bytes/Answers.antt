use Rattle.std.proofs.Common.{◌∙◌, sym}
use Rattle.noise_tool.proofs.VectorExplainLemmas.{vector-said}
use Rattle.noise_tool.proofs.explanation.explain_bytes.Goals as goal

pub returns-then-is_vector_text-clause-explained : goal.returns-then-is_vector_text-clause-explained
returns-then-is_vector_text-clause-explained c =
    vector-said c.args.fixes c.args.name.now c.args.text.now c.explain_vector_text.result (sym c.is_vector_text.ensures ∙ c.if-is_vector_text.true)
    c.explain_vector_text.ensures.explained
