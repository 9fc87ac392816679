use Rattle.noise_duel.proofs.HashReports.{hash-reports}
use Rattle.noise_duel.proofs.Forward.{psks-report}
use Rattle.noise_duel.proofs.KeysReport.{keys-report}
use Rattle.noise_duel.proofs.Converse.{visibly-equal-is-one}
use Rattle.noise_duel.proofs.Known.{know-each-other}
use Rattle.noise_duel.proofs.laws.hash_reports.Goals as goal

pub returns-clause-seen : goal.returns-clause-seen
returns-clause-seen c = hash-reports

pub returns-clause-whole : goal.returns-clause-whole
returns-clause-whole c = psks-report

pub returns-clause-keys : goal.returns-clause-keys
returns-clause-keys c = keys-report c.laws_below.ensures

pub returns-clause-back : goal.returns-clause-back
returns-clause-back c = visibly-equal-is-one c.laws_below.ensures

pub returns-clause-known : goal.returns-clause-known
returns-clause-known c = know-each-other c.laws_below.ensures
