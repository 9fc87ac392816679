use Rattle.std.proofs.Common.{sym}
use Rattle.noise_names.proofs.Fundamentals.{no_more_fundamentals}
use Rattle.noise_names.proofs.table.fundamental_at.Goals as goal

pub returns-else-place-lt15 : goal.returns-else-place-lt15
returns-else-place-lt15 c = sym (no_more_fundamentals c.args.place c.if-place-lt15.false)
