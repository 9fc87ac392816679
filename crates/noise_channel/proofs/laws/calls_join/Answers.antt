use Rattle.noise_channel.proofs.Reading.{reads-all, reads-more, reads-none}
use Rattle.noise_channel.proofs.laws.calls_join.Goals as goal

pub returns-clause-begins : goal.returns-clause-begins
returns-clause-begins c = reads-none

pub returns-clause-more : goal.returns-clause-more
returns-clause-more c = reads-more

pub returns-clause-ends : goal.returns-clause-ends
returns-clause-ends c = reads-all
