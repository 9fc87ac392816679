use Rattle.noise_theorems.proofs.Xor.{xor-keys-have-dh-results}
use Rattle.noise_theorems.proofs.laws.xor_keys_have_dh_results.Goals as goal

pub returns : goal.returns
returns c = xor-keys-have-dh-results
