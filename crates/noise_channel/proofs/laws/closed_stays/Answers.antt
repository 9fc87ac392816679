use Rattle.noise_channel.proofs.Streaming.{closed-run}
use Rattle.noise_channel.proofs.laws.closed_stays.Goals as goal

pub returns : goal.returns
returns c d s t partial came left out over run = closed-run d s partial came left out t over run
