use Rattle.std.specs.Prelude.{IfSome}
use Rattle.noise_explain.specs.Corrections.{Holds}
use Rattle.noise_explain.proofs.judged.chosen.Given as goal

-- the best one so far corrects the text
abbrev pub invariant-loop-candidate : goal.invariant-loop-candidate
invariant-loop-candidate l = IfSome l.best (λ it. Holds l.text it.changes.items)
