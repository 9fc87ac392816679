use Rattle.noise_channel.proofs.Called.{called}
use Rattle.noise_channel.proofs.laws.calls_make_stream.Goals as goal

pub returns : goal.returns
returns c d n calls u low all = called d n u calls low all
