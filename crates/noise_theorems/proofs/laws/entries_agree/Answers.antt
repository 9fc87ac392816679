use Rattle.noise_theorems.proofs.Fronts.{entries-come}
use Rattle.noise_theorems.proofs.laws.entries_agree.Goals as goal

pub returns : goal.returns
returns c = entries-come c.ends_match.ensures.frame c.ends_agree.ensures.one c.ends_agree.ensures.payloads
