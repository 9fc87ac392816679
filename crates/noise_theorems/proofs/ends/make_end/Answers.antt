use Rattle.noise_theorems.proofs.Alike.{role-reported}
use Rattle.noise_theorems.proofs.Faults.{none-found, one-found}
use Rattle.noise_theorems.proofs.ends.make_end.Goals as goal

pub returns-in-Err-clause-fault : goal.returns-in-Err-clause-fault
returns-in-Err-clause-fault g c = one-found _ c.new.result c.in-Err.fault c.in-Err.is c.new.ensures.fault

pub returns-in-Ok-new-clause-fault : goal.returns-in-Ok-new-clause-fault
returns-in-Ok-new-clause-fault g c = none-found _ c.new.result c.in-Ok.handshake c.in-Ok.is c.new.ensures.fault

pub returns-in-Ok-new-clause-role : goal.returns-in-Ok-new-clause-role
returns-in-Ok-new-clause-role g c = role-reported _ _ (c.end_is_reported.ensures c.in-Ok-new.end _ (c.in-Ok-new.ensures.matches _ c.in-Ok.ensures.matches))
