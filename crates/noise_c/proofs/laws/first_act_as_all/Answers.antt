use Rattle.std.proofs.Common.{arith}
use Rattle.noise_c.proofs.Among.{act-as-all}
use Rattle.noise_c.proofs.AskingToRead.{asked-to-read, read-lacks}
use Rattle.noise_c.proofs.AskingToWrite.{asked-to-write, write-lacks}
use Rattle.noise_c.proofs.Four.{at-most-four}
use Rattle.noise_c.proofs.laws.first_act_as_all.Goals as goal

pub returns-clause-whole : goal.returns-clause-whole
returns-clause-whole c = act-as-all

pub returns-clause-lacks : goal.returns-clause-lacks
returns-clause-lacks c v own key = (λ message. read-lacks v message own key, write-lacks v own key)

pub returns-clause-read : goal.returns-clause-read
returns-clause-read c v first last all message n valid among run =
    let a = asked-to-read v all first last message n run among in (a.0, omega (arith, a.0, at-most-four v.pattern valid v.passed), a.1)

pub returns-clause-written : goal.returns-clause-written
returns-clause-written c v first last all n valid keys among run =
    let a = asked-to-write v all first last n keys run among in (a.0, omega (arith, a.0, at-most-four v.pattern valid v.passed), a.1)
