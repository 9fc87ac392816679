use Rattle.noise_duel.proofs.SetUpAlike.{alike-are-parts}
use Rattle.noise_duel.proofs.laws.alike_are_parts.Goals as goal

pub returns : goal.returns
returns c = alike-are-parts c.laws_below.ensures
