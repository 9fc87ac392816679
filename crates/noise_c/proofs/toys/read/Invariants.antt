use Rattle.std.proofs.Common.{◌≡◌, []}
use Rattle.noise_c.specs.Toys.{Leads}
use Rattle.noise_c.proofs.toys.read.Given as goal

abbrev pub invariant-asked : goal.invariant-asked
invariant-asked l = record {
  leads : Leads l.fn.keys l.fn.handshake [] [] l.handshake;
  same : l.message ≡ l.fn.message;
}
