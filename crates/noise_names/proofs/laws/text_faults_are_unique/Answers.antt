use Rattle.noise_names.proofs.OneFault.{one_fault}
use Rattle.noise_names.proofs.laws.text_faults_are_unique.Goals as goal

pub returns : goal.returns
returns c = λ text f g h k. one_fault text f g h k
