use Rattle.std.proofs.Common.{sym, refl}
use Rattle.noise_names.proofs.Common.{place, payload, transport}
use Rattle.noise_names.proofs.Checking.{walks_one, walks_fault}
use Rattle.noise_names.proofs.seen.Seen.walk_end.Goals as goal

pub returns-in-Some-clause-payload : goal.returns-in-Some-clause-payload
returns-in-Some-clause-payload c =
    walks_fault c.args.self.now c.args.self.now (place c.args.party payload c.args.message c.args.index) c.in-Some.rule (sym c.in-Some.ensures)

pub returns-in-Some-clause-transport : goal.returns-in-Some-clause-transport
returns-in-Some-clause-transport c =
    walks_fault c.args.self.now c.args.self.now (place c.args.party transport c.args.message c.args.index) c.in-Some.rule (sym c.in-Some.ensures)

pub returns-in-None-clause-payload : goal.returns-in-None-clause-payload
returns-in-None-clause-payload c =
    walks_one c.args.self.now c.args.self.now (place c.args.party payload c.args.message c.args.index) (sym c.in-None.ensures) refl

pub returns-in-None-clause-transport : goal.returns-in-None-clause-transport
returns-in-None-clause-transport c =
    walks_one c.args.self.now c.args.self.now (place c.args.party transport c.args.message c.args.index) (sym c.in-None.ensures) refl
