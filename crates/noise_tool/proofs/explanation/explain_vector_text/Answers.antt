use Rattle.noise_tool.proofs.VectorExplainLemmas.{file-said}
use Rattle.noise_tool.proofs.explanation.explain_vector_text.Goals as goal

pub returns-in-Ok-clause-explained : goal.returns-in-Ok-clause-explained
returns-in-Ok-clause-explained c =
    file-said c.args.name.now c.args.text.now c.in-Ok.file c.explain_file.result c.in-Ok.ensures.right c.in-Ok.ensures.text
    c.explain_file.ensures.explained
