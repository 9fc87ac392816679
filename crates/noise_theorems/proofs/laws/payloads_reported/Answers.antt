use Rattle.noise_theorems.proofs.Payloads.{payloads-are-reported}
use Rattle.noise_theorems.proofs.laws.payloads_reported.Goals as goal

pub returns : goal.returns
returns c = payloads-are-reported
