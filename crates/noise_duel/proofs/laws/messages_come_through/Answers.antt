use Rattle.noise_duel.proofs.Leaving.{messages-leave}
use Rattle.noise_duel.proofs.Transcripts.{messages-come-through, messages-run}
use Rattle.noise_duel.proofs.laws.messages_come_through.Goals as goal

pub returns-clause-come : goal.returns-clause-come
returns-clause-come c = messages-come-through c.laws_below.ensures

pub returns-clause-ends : goal.returns-clause-ends
returns-clause-ends c = messages-leave (messages-come-through c.laws_below.ensures) c.ends_match.ensures.state c.ends_match.ensures.frame

pub returns-clause-can : goal.returns-clause-can
returns-clause-can c = messages-run c.laws_below.ensures
