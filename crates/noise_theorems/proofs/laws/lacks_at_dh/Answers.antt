use Rattle.noise_theorems.proofs.Lacking.{lacks-at-dh}
use Rattle.noise_theorems.proofs.laws.lacks_at_dh.Goals as goal

pub returns : goal.returns
returns c = lacks-at-dh
