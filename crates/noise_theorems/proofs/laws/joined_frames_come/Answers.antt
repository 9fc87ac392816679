use Rattle.noise_theorems.proofs.Joined.{joined-frames-can-come, joined-frames-come, joined-frames-come-whole}
use Rattle.noise_theorems.proofs.laws.joined_frames_come.Goals as goal

pub returns-clause-so_far : goal.returns-clause-so_far
returns-clause-so_far c = joined-frames-come c.judged_once.ensures c.written_is_received.ensures

pub returns-clause-whole : goal.returns-clause-whole
returns-clause-whole c = joined-frames-come-whole c.judged_once.ensures c.written_is_received.ensures

pub returns-clause-can : goal.returns-clause-can
returns-clause-can c = joined-frames-can-come c.judged_once.ensures c.written_is_received.ensures
