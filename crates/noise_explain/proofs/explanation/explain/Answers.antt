use Rattle.noise_explain.proofs.ExplainedLemmas.{wrong-said}
use Rattle.noise_explain.proofs.explanation.explain.Goals as goal

pub returns-in-Err-clause-explained : goal.returns-in-Err-clause-explained
returns-in-Err-clause-explained c = wrong-said c.args.name.now c.args.text.now c.explain_text.result c.explain_text.ensures.said
