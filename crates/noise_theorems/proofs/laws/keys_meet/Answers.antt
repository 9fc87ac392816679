use Rattle.noise_theorems.proofs.Fronts.{keys-come}
use Rattle.noise_theorems.proofs.laws.keys_meet.Goals as goal

pub returns : goal.returns
returns g c =
    keys-come g.A.Keys.pairs g.B.Keys.pairs c.ends_match.ensures.state c.ends_agree.ensures.one
