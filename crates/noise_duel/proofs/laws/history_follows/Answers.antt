use Rattle.noise_duel.proofs.HashedMessages.{exchanged-has-history}
use Rattle.noise_duel.proofs.laws.history_follows.Goals as goal

pub returns : goal.returns
returns c = exchanged-has-history
