use Rattle.noise_trace.proofs.PreMessages.{after-start}
use Rattle.noise_trace.proofs.Joined.{joined-message}
use Rattle.noise_trace.proofs.laws.steps_make_messages.Goals as goal

pub returns-clause-message : goal.returns-clause-message
returns-clause-message c has_psks r ts xs payload = joined-message has_psks r ts xs payload

pub returns-clause-start : goal.returns-clause-start
returns-clause-start c p role prologue own remote before = after-start p role prologue own remote before
