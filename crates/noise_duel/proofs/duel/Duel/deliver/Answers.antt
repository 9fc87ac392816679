use Rattle.std.proofs.Common.{rules}
use Rattle.noise_duel.proofs.Happening.{took-initiator, took-responder}
use Rattle.noise_duel.proofs.duel.Duel.deliver.Goals as goal

pub returns-in-Initiator : goal.returns-in-Initiator
returns-in-Initiator g c d st fr = search (rules, took-initiator)

pub returns-in-Responder : goal.returns-in-Responder
returns-in-Responder g c d st fr = search (rules, took-responder)
