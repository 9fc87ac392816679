use Rattle.std.proofs.Common.{arith, ◌≤◌, sym, subst, ℕ, List, length}
use Rattle.noise_tool.proofs.Common.{IsPatternOfText, RunsTo}
use Rattle.noise_tool.specs.FileFacts.{AreFactsOfText}
use Rattle.noise_tool.specs.declared.testing.TestedRun.{TestedRun}
use Rattle.noise_tool.proofs.TestingLemmas.{fails-known, ok-known}
use Rattle.noise_tool.proofs.testing.run_named.Goals as goal

pub returns-clause-runs : goal.returns-clause-runs
returns-clause-runs g c =
    ok-known (λ (text : List ℕ) (run : TestedRun). RunsTo c.args.traces text run.traced) (g.F.FilesByName.bytes_at c.args.files.now c.args.name.now)
    c.deref.result.now c.in_ok-text.text.items c.run_text.result c.deref.ensures.value c.in_ok-text.ensures.bytes
    (c.run_text.ensures.runs (subst (λ (t : List ℕ). length t ≤ 4194304) (sym c.deref.ensures.value)
    (omega (arith, c.in_ok-text.text.ok.0, c.in_ok-text.ensures.bound))))

pub returns-clause-pattern : goal.returns-clause-pattern
returns-clause-pattern g c =
    ok-known (λ (text : List ℕ) (run : TestedRun). IsPatternOfText text run.pattern) (g.F.FilesByName.bytes_at c.args.files.now c.args.name.now)
    c.deref.result.now c.in_ok-text.text.items c.run_text.result c.deref.ensures.value c.in_ok-text.ensures.bytes c.run_text.ensures.pattern

pub returns-clause-facts : goal.returns-clause-facts
returns-clause-facts g c =
    ok-known (λ (text : List ℕ) (run : TestedRun). AreFactsOfText text run.facts) (g.F.FilesByName.bytes_at c.args.files.now c.args.name.now)
    c.deref.result.now c.in_ok-text.text.items c.run_text.result c.deref.ensures.value c.in_ok-text.ensures.bytes c.run_text.ensures.facts

pub returns-clause-fault : goal.returns-clause-fault
returns-clause-fault g c =
    fails-known (g.F.FilesByName.bytes_at c.args.files.now c.args.name.now) c.deref.result.now c.in_ok-text.text.items c.run_text.result
    c.deref.ensures.value c.in_ok-text.ensures.bytes c.run_text.ensures.fault
