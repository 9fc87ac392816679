use Rattle.noise_duel.proofs.Clash.{clash-matches, clash-found, clash-reported}
use Rattle.noise_duel.proofs.laws.clash_reported.Goals as goal

pub returns : goal.returns
returns c = record { matches = clash-matches; found = clash-found; reported = clash-reported c.ends_agree.ensures.seen }
