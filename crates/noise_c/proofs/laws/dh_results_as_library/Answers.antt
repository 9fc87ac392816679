use Rattle.noise_c.proofs.Runs.{reads-as, writes-as}
use Rattle.noise_c.proofs.laws.dh_results_as_library.Goals as goal

pub returns-clause-reads : goal.returns-clause-reads
returns-clause-reads c = reads-as c.first_act_as_all.ensures.lacks c.first_act_as_all.ensures.whole c.first_act_as_all.ensures.read

pub returns-clause-writes : goal.returns-clause-writes
returns-clause-writes c = writes-as c.first_act_as_all.ensures.lacks c.first_act_as_all.ensures.whole c.first_act_as_all.ensures.written
