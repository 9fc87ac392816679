use Rattle.noise_channel.proofs.Exactly.{wants-so, so-wants, gives-so, so-gives, ends-so, so-ends, refuses-so, so-refuses}
use Rattle.noise_channel.proofs.laws.read_exactly.Goals as goal

pub returns-clause-wants : goal.returns-clause-wants
returns-clause-wants c d n count buffer g t r = (wants-so d n buffer g t count r, so-wants d n buffer g t count r)

pub returns-clause-payload : goal.returns-clause-payload
returns-clause-payload c d n used buffer p g t r = (gives-so d n buffer g t p used r, so-gives d n buffer g t p used r)

pub returns-clause-end : goal.returns-clause-end
returns-clause-end c d n used buffer g t r = (ends-so d n buffer g t used r, so-ends d n buffer g t used r)

pub returns-clause-refused : goal.returns-clause-refused
returns-clause-refused c d n buffer g t cause r = (refuses-so d n buffer g t cause r, so-refuses d n buffer g t cause r)
