use Rattle.std.proofs.Common.{rules}
use Rattle.noise_handshake.proofs.Counting.{keyed-passed}
use Rattle.noise_handshake.proofs.nonces.count_due.Goals as goal

pub returns-clause-keyed : goal.returns-clause-keyed
returns-clause-keyed c = search (rules, keyed-passed)
