use Rattle.noise_run.proofs.OneRunLemmas.{one-run}
use Rattle.noise_run.proofs.laws.file_run_once.Goals as goal

pub returns : goal.returns
returns c = one-run c.run_once.ensures c.datagram_run_once.ensures
