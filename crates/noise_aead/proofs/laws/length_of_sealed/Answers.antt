use Rattle.noise_aead.proofs.Common.{length-sealed}
use Rattle.noise_aead.proofs.laws.length_of_sealed.Goals as goal

pub returns : goal.returns
returns c = length-sealed
