use Rattle.noise_aead.proofs.Common.{sealed-same}
use Rattle.noise_aead.proofs.laws.sealed_same.Goals as goal

pub returns : goal.returns
returns c = sealed-same
