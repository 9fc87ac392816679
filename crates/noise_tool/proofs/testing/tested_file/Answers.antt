use Rattle.std.proofs.Common.{◌≡◌, [], refl}
use Rattle.noise_lines.specs.declared.verdict.Verdict.TheVariants.{NamedTwice}
use Rattle.noise_tool.proofs.TestingLemmas.{unrun-tested}
use Rattle.noise_tool.proofs.testing.tested_file.Goals as goal

pub returns-then-again-clause-tested : goal.returns-then-again-clause-tested
returns-then-again-clause-tested g c = rw c.if-again.true (record {
  verdict = NamedTwice;
  below = [];
  right = refl;
  text_is = c.in_ok-unrun.ensures.0;
  met_is = c.in_ok-unrun.ensures.1;
})

pub returns-in_ok-tested_run-in-Ok-clause-tested : goal.returns-in_ok-tested_run-in-Ok-clause-tested
returns-in_ok-tested_run-in-Ok-clause-tested g c = rw c.if-again.false (c.in_ok-tested_run-in-Ok.ensures (g.F.FilesByName.bytes_at c.args.files.now c.args.name.now)
    (g.F.FilesByName.unreadable c.args.files.now c.args.name.now) (c.in-Ok.ensures.runs, c.in-Ok.ensures.pattern))

pub returns-in_ok-unrun-in-Err-clause-tested : goal.returns-in_ok-unrun-in-Err-clause-tested
returns-in_ok-unrun-in-Err-clause-tested g c =
    let verdict = c.in_ok-fault_verdict-in-Err in
    rw c.if-again.false (unrun-tested c.args.traces _ _ c.args.name.now c.in-Err.fault verdict.field-0 _ _ verdict.ensures.unrun verdict.ensures.other
    c.in-Err.ensures.failed c.in-Err.ensures.fault c.in_ok-unrun-in-Err.ensures.0 c.in_ok-unrun-in-Err.ensures.1)
