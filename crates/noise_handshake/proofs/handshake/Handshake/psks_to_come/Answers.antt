use Rattle.std.proofs.Common.{rules, length-drop, take_all}
use Rattle.noise_handshake.proofs.Starting.{few-left}
use Rattle.noise_handshake.proofs.handshake.Handshake.psks_to_come.Goals as goal

pub returns-clause-few : goal.returns-clause-few
returns-clause-few g c = search (rules, take_all, length-drop, few-left)
