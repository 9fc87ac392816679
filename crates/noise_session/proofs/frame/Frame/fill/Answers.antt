use Rattle.std.proofs.Common.{rules, length-drop}
use Rattle.noise_session.proofs.Common.{length-take-le, take_rest}
use Rattle.noise_session.proofs.Growing.{two-parts, all-came}
use Rattle.noise_session.proofs.frame.Frame.fill.Goals as goal

pub returns-clause-whole : goal.returns-clause-whole
returns-clause-whole c = search (rules, take_rest, length-take-le, length-drop, two-parts)

pub returns-then-self-clause-part : goal.returns-then-self-clause-part
returns-then-self-clause-part c = search (rules, length-take-le, all-came)
