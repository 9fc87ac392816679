use Rattle.std.proofs.Common.{sym}
use Rattle.noise_names.proofs.Common.{place, does}
use Rattle.noise_names.proofs.Checking.{walks_one, walks_fault}
use Rattle.noise_names.proofs.seen.Seen.walk_token.Goals as goal

pub returns-in-Some : goal.returns-in-Some
returns-in-Some c = walks_fault c.args.self.now c.args.self.now (place c.args.party (does c.args.token) c.args.message c.args.index) c.in-Some.rule
    (sym c.in-Some.ensures)

pub returns-in-None : goal.returns-in-None
returns-in-None c = walks_one c.args.self.now c.add.new.self (place c.args.party (does c.args.token) c.args.message c.args.index) (sym c.in-None.ensures)
    (c.add.ensures c.args.message c.args.index)
