use Rattle.std.proofs.Common.{rules}
use Rattle.noise_theorems.proofs.Common.{drop_more}
use Rattle.noise_theorems.proofs.Fit.{one-line, turn-next}
use Rattle.noise_theorems.proofs.lengths.messages_fit.Goals as goal

pub loop-role-preserved : goal.loop-role-preserved
loop-role-preserved c = search (rules, drop_more, one-line, turn-next)
