use Rattle.std.proofs.Common.{inl}
use Rattle.noise_tool.proofs.VectorExplainLemmas.{bytes-said}
use Rattle.noise_tool.proofs.explanation.explain_named.Goals as goal

pub returns-in_ok-explained-in-Ok-clause-explained : goal.returns-in_ok-explained-in-Ok-clause-explained
returns-in_ok-explained-in-Ok-clause-explained g c =
    inl (bytes-said c.args.fixes (g.F.FilesByName.bytes_at c.args.files.now c.args.name.now) c.args.name.now c.deref.result.now c.in-Ok.text.items c.in_ok-explained-in-Ok.explained
    c.deref.ensures.value c.in-Ok.ensures.bytes c.in_ok-explained-in-Ok.ensures.explained)
