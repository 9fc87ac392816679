use Rattle.noise_duel.proofs.DatagramAgreeing.{datagram-runs-agree, runs-make-one-beginning}
use Rattle.noise_duel.proofs.laws.datagrams_agree.Goals as goal

pub returns-clause-agree : goal.returns-clause-agree
returns-clause-agree c = datagram-runs-agree

pub returns-clause-start : goal.returns-clause-start
returns-clause-start c = runs-make-one-beginning
