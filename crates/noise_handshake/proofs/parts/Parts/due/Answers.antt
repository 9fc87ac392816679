use Rattle.std.proofs.Common.{rules, length-drop, take_all}
use Rattle.noise_handshake.proofs.Starting.{few-left}
use Rattle.noise_handshake.proofs.parts.Parts.due.Goals as goal

pub returns : goal.returns
returns g c = search (rules, take_all, length-drop, few-left)
