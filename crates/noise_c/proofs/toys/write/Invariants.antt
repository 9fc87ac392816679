use Rattle.std.proofs.Common.{[]}
use Rattle.noise_c.specs.Toys.{Leads}
use Rattle.noise_c.proofs.toys.write.Given as goal

abbrev pub invariant-asked : goal.invariant-asked
invariant-asked l = Leads l.fn.keys l.fn.handshake [] [] l.handshake
