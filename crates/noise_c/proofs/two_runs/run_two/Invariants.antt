use Rattle.std.proofs.Common.{take}
use Rattle.noise_c.specs.RunSteps.{Runs}
use Rattle.noise_c.proofs.two_runs.run_two.Given as goal

abbrev pub invariant-turns : goal.invariant-turns
invariant-turns l = record {
  runs : Runs l.initial.a l.initial.b (take l.is_responder-index l.fn.turns) l.a l.b l.steps.items;
}
