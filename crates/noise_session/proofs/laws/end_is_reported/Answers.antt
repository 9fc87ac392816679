use Rattle.noise_session.proofs.Parties.{end-reported}
use Rattle.noise_session.proofs.laws.end_is_reported.Goals as goal

pub returns : goal.returns
returns g c e v s = end-reported g.K.Keys.pairs e v s
