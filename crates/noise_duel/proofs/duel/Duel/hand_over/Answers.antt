use Rattle.std.proofs.Common.{rules}
use Rattle.noise_duel.proofs.Happening.{injected-initiator, injected-responder}
use Rattle.noise_duel.proofs.duel.Duel.hand_over.Goals as goal

pub returns-in-Initiator : goal.returns-in-Initiator
returns-in-Initiator g c d st fr = search (rules, injected-initiator)

pub returns-in-Responder : goal.returns-in-Responder
returns-in-Responder g c d st fr = search (rules, injected-responder)
