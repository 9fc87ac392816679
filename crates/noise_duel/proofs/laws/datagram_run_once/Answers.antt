use Rattle.noise_duel.proofs.DatagramRunOnce.{datagram-run-once}
use Rattle.noise_duel.proofs.laws.datagram_run_once.Goals as goal

pub returns : goal.returns
returns c = datagram-run-once
