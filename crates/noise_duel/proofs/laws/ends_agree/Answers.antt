use Rattle.noise_duel.proofs.Networks.{hashes-report, visibly-equal-gives-one, psks-make-one, payloads-come}
use Rattle.noise_duel.proofs.laws.ends_agree.Goals as goal

pub returns-clause-seen : goal.returns-clause-seen
returns-clause-seen c = hashes-report c.laws_below.ensures

pub returns-clause-one : goal.returns-clause-one
returns-clause-one c = psks-make-one c.laws_below.ensures

pub returns-clause-payloads : goal.returns-clause-payloads
returns-clause-payloads c = payloads-come c.laws_below.ensures

pub returns-clause-back : goal.returns-clause-back
returns-clause-back c = visibly-equal-gives-one c.laws_below.ensures
