use Rattle.std.specs.Prelude.{true}
use Rattle.std.proofs.Common.{sym}
use Rattle.noise_tool.specs.FileFacts.{AreFactsOfText}
use Rattle.noise_tool.specs.Testing.{RunsTo}
use Rattle.noise_tool.proofs.ComparingLemmas.{made-known}
use Rattle.noise_tool.proofs.DocumentLemmas.{facts-known}
use Rattle.noise_tool.proofs.comparison.compare_named.Goals as goal

pub returns-in-Ok-run_named-clause-made : goal.returns-in-Ok-run_named-clause-made
returns-in-Ok-run_named-clause-made g c =
    made-known c.args.names.now.all c.compare_traced.result (λ text. RunsTo true text c.in-Ok-run_named.run'.traced)
    (λ text. AreFactsOfText text c.in-Ok-run_named.run'.facts) _ _ c.deref.result.now
    (rw (sym c.deref.ensures.value, c.as_str-log_name.ensures.value) at c.in-Ok.ensures.bytes)
    (rw (c.as_str-file_name.ensures.value) at c.in-Ok-run_named.ensures.runs)
    (rw (c.as_str-file_name.ensures.value) at c.in-Ok-run_named.ensures.facts) c.compare_traced.ensures.made

pub returns-in-Ok-run_named-clause-facts : goal.returns-in-Ok-run_named-clause-facts
returns-in-Ok-run_named-clause-facts g c =
    facts-known c.compare_traced.result (λ text. RunsTo true text c.in-Ok-run_named.run'.traced) _ _ c.deref.result.now
    (rw (sym c.deref.ensures.value, c.as_str-log_name.ensures.value) at c.in-Ok.ensures.bytes)
    (rw (c.as_str-file_name.ensures.value) at c.in-Ok-run_named.ensures.runs) c.compare_traced.ensures.facts
